-- What a round of the least word writes and goes on with: it drops a letter of u, or it cuts at least the clean XY from u and puts an end of a Z before what
-- is left. The word keeps the shape of the comparison's words (an end of a Z, or nothing, before an end of the given word), every round makes it lighter, and
-- what a round writes is paid by the room that it takes from the letters that are left.
use Prim.Native.Nat.{ℕ, zero, suc, ◌+◌, ◌-◌, ◌*◌, ◌≤◌, ◌<◌, max}
use mathlib.Core.Bool.{true, ◌&&◌, not, and-eq-true_iff, true≢false}
use mathlib.Core.Logic.{by_cases}
use mathlib.Core.List.{List, [], ◌∷◌, ◌++◌}
use mathlib.Core.Path.{◌≡◌, refl, sym, ap, ◌∙◌, subst}
use native.Mathlib.Omega.{arith}
use native.Mathlib.Nat.{mul-le-mul_left}
use native.Mathlib.Decide.{dec_lt}
use lib.Dec.{eqb, leb, ltb}
use borrow.Author.Tests.{leb-true, leb-false, ltb-true}
use lib.ListN.{length, take, drop, length-append, length-take, length-drop}
use lib.Seq.{drop-drop, take_all}
use Rattle.words.specs.Search.{least}
use Rattle.words.specs.Words.{Word, is_empty, is_prefix, common_suffix}
use Rattle.words.proofs.Lists.{some_letter}
use Rattle.words.proofs.Prefixes.{prefix_length}
use Rattle.overlap.specs.Pieces.{word}
use Rattle.overlap.specs.Cuts.{len, xylen, xy_of, z_of}
use Rattle.overlap.proofs.Facts.{z_bound, length_xy, length_z}
use Rattle.congruence.specs.Rows.{clean_relation_prefix, active, alike}
use Rattle.congruence.specs.Theorem.{EndOfTail, TailThenRest}
use Rattle.congruence.specs.Theorem.EndOfTail.{nothing}
use Rattle.congruence.proofs.Heads.{Facts}
use Rattle.congruence.proofs.RowTests.{by_choose, prefix_of_clean, clean_relation_prefix_passes}
use Rattle.congruence.proofs.ShapeNoPrefix.{tail_of_z, no_prefix_tail, prefix_past_tail}
use Rattle.congruence.proofs.ShapeRows.{Recut}
use Rattle.congruence.proofs.Shape.{Lighter, weight, tailed_length, drop_lighter, cut_lighter}
use Rattle.least.specs.Writing.{Part, clean_before, letter_part, chosen_member, carrier, whole_part, other_part, member_part, write_part}
use Rattle.least.specs.Writing.Part.{end, none, part}
use Rattle.least.specs.Theorem.{longest_of, longest_word}

-- the change that a round makes of p and u, and the part c that it writes
pub data Writes (B : List Word) (p u c p' u' : Word) : Type 0 where
  -- no clean relation prefix and no mark: the first letter is written
  letter : 0 < length u → length B ≤ clean_relation_prefix B u → p ≡ [] → c ≡ take 1 u → p' ≡ [] → u' ≡ drop 1 u → Writes B p u c p' u'
  -- no clean relation prefix, and the mark begins with the same letter: nothing is written
  meets : 0 < length u → length B ≤ clean_relation_prefix B u → 0 < length p → alike p u ≡ true → c ≡ [] → p' ≡ drop 1 p → u' ≡ drop 1 u → Writes B p u c p' u'
  -- the clean XY, and perhaps more, is cut; of the first n letters of relation word j those behind the first |p| are written, and n with the letters of z that
  -- the next mark does not meet is at most the length of j
  cuts : {z : Word} (j n : ℕ) → j < length B → c ≡ drop (length p) (take n (word B j)) → (r : Recut B u z u') → r.by ≡ clean_relation_prefix B u → EndOfTail B p'
      → n + (length z - length p') ≤ len B j → Writes B p u c p' u'

-- the same of what a round gives; an end writes nothing
pub data WritesTo (B : List Word) (p u : Word) : Part → Type 0 where
  ends : WritesTo B p u end
  fails : WritesTo B p u none
  writes : {c p' u' : Word} → Writes B p u c p' u' → WritesTo B p u (part c p' u')

-- the carrier is one of the relation words
pub carrier_there : (B : List Word) (family : ℕ → ℕ) (i : ℕ) (w : Word) → i < length B → carrier B family i w < length B
unfolding carrier
carrier_there B family i w h =
    let c = least (length B) (λ j. eqb (family i) (family j) && active B (z_of B j) w) in
    by_choose (λ n. n < length B) (ltb c (length B)) _ _ (λ e. ltb-true c (length B) e) (λ e. h)

-- XY and Z are as long as the whole relation word
whole_length : (B : List Word) (j : ℕ) → xylen B j + length (z_of B j) ≡ len B j
whole_length B j = let z = length_z B j in let b = z_bound B j in omega arith

-- an empty word, by its test
empty_of_test : (p : Word) → is_empty p ≡ true → p ≡ []
empty_of_test [] e = refl
empty_of_test (x ∷ p) e = absurd (true≢false (sym e))

module _ (B : List Word) (p u : Word) where
  -- u has no clean relation prefix: a letter is dropped
  letter_writes : 0 < length u → length B ≤ clean_relation_prefix B u → WritesTo B p u (letter_part p u)
  unfolding letter_part
  letter_writes h l =
      by_choose (WritesTo B p u) (is_empty p) _ _ (λ e. writes (letter h l (empty_of_test p e) refl refl refl)) (λ e.
      by_choose (WritesTo B p u) (alike p u) _ _ (λ a. writes (meets h l (some_letter p e) a refl refl refl)) (λ a. fails))

  -- XY of i is the clean relation prefix of u, and j is the chosen member
  module _ (i : ℕ) (there : i < length B) (at : i ≡ clean_relation_prefix B u) (begins : is_prefix (xy_of B i) u ≡ true) (j : ℕ) (hj : j < length B) where
    -- a prefix of what follows XY fits in u
    fits_behind : (e : Word) → is_prefix e (drop (xylen B i) u) ≡ true → xylen B i + length e ≤ length u
    fits_behind e f =
        let l = length_xy B i in
        let m = prefix_length (xy_of B i) u begins in
        let k = prefix_length e (drop (xylen B i) u) f in
        let d = length-drop (xylen B i) u in
        omega arith

    -- XY fits in u
    fits_xy : xylen B i ≤ length u
    fits_xy = let l = length_xy B i in let m = prefix_length (xy_of B i) u begins in omega arith

    -- u cut by XY and perhaps more
    abbrev recut : {z u' : Word} (n : ℕ) → (xylen B i ≤ n) × (n ≤ length u) → EndOfTail B z → u' ≡ z ++ drop n u → Recut B u z u'
    recut n c t e = record { by = i; there = there; begins = begins; size = n; enough = c.0; fits = c.1; tail = t; made = e }

    -- all of relation word j without the first letters
    all_of_word : drop (length p) (word B j) ≡ drop (length p) (take (len B j) (word B j))
    all_of_word = ap (drop (length p)) (sym (take_all (len B j) (word B j) (omega arith)))

    -- Z of i follows
    whole_writes : (family : ℕ → ℕ) → is_prefix (z_of B i) (drop (xylen B i) u) ≡ true → WritesTo B p u (whole_part B family i j p (drop (len B i) u))
    unfolding whole_part
    whole_writes family e =
        let w = drop (len B i) u in
        let f = fits_behind (z_of B i) e in
        let l = whole_length B i in
        let m = whole_length B j in
        let t = carrier_there B family i w there in
        by_choose (WritesTo B p u) (active B (z_of B j) w) _ _
        (λ a. writes (cuts j (xylen B j) hj refl (recut (len B i) (omega arith) (tail_of_z B j hj) refl) at (nothing refl) (omega arith)))
        (λ a. writes (cuts j (len B j) hj all_of_word (recut (len B i) (omega arith) (tail_of_z B (carrier B family i w) t) refl) at (tail_of_z B (carrier B family i w) t) (omega arith)))

    -- Z of i does not follow, and j is another member than i
    other_writes : WritesTo B p u (other_part B i j p (drop (xylen B i) u))
    unfolding other_part
    other_writes =
        let s = drop (xylen B i) u in
        let l = common_suffix (z_of B i) (z_of B j) in
        let e = take (length (z_of B i) - l) (z_of B i) in
        let k = fits_xy in
        by_choose (WritesTo B p u) (is_prefix e s && not (clean_before B s (length e))) _ _
        (λ a.
        let r = simp and-eq-true_iff at a in
        let f = fits_behind e r.0 in
        writes (cuts j (len B j - l) hj refl (recut (xylen B i + length e) (omega arith) (nothing refl) (drop-drop (length e) (xylen B i) u)) at (nothing refl) (omega arith)))
        (λ a. writes (cuts j (len B j) hj all_of_word (recut (xylen B i) (omega arith) (nothing refl) refl) at (tail_of_z B i there) (omega arith)))

  -- u has a clean relation prefix: it is cut, or there is no member to choose
  member_writes : (family : ℕ → ℕ) (i j : ℕ) → i < length B → i ≡ clean_relation_prefix B u → is_prefix (xy_of B i) u ≡ true → WritesTo B p u (member_part B family i j p u)
  unfolding member_part
  member_writes family i j there at begins =
      by_choose (WritesTo B p u) (leb (length B) j) _ _ (λ h. fails) (λ h.
      let hj = leb-false (length B) j h in
      let k = fits_xy i there at begins i there in
      by_choose (WritesTo B p u) (is_prefix (z_of B i) (drop (xylen B i) u)) _ _ (λ e. whole_writes i there at begins j hj family e) (λ e.
      by_choose (WritesTo B p u) (eqb j i) _ _
      (λ q. writes (cuts i (xylen B i) there refl (recut i there at begins i there (xylen B i) (omega arith) (nothing refl) refl) at (nothing refl) (omega arith)))
      (λ q. other_writes i there at begins j hj)))

  -- what every round gives
  pub round_writes_to : (family rank : ℕ → ℕ) → WritesTo B p u (write_part B family rank p u)
  unfolding write_part
  round_writes_to family rank =
      by_choose (WritesTo B p u) (is_empty u) _ _ (λ e. by_choose (WritesTo B p u) (is_empty p) _ _ (λ h. ends) (λ h. fails)) (λ e.
      by_choose (WritesTo B p u) (leb (length B) (clean_relation_prefix B u)) _ _ (λ h. letter_writes (some_letter u e) (leb-true (length B) (clean_relation_prefix B u) h)) (λ h.
      let l = leb-false (length B) (clean_relation_prefix B u) h in
      member_writes family (clean_relation_prefix B u) (chosen_member B family rank (clean_relation_prefix B u) p (drop (xylen B (clean_relation_prefix B u)) u)) l refl
      (prefix_of_clean B u (clean_relation_prefix B u) (clean_relation_prefix_passes B u l))))

-- every round that goes on makes one of the changes
pub round_writes : (B : List Word) (family rank : ℕ → ℕ) {p u c p' u' : Word} → write_part B family rank p u ≡ part c p' u' → Writes B p u c p' u'
round_writes B family rank {p} {u} {c} {p'} {u'} e = written (subst (WritesTo B p u) e (round_writes_to B p u family rank))
  where
    written : WritesTo B p u (part c p' u') → Writes B p u c p' u'
    written (writes w) = w

-- the room that is left for what is written: the letters of the tail that are not met by the mark, and the longest relation word for each letter of the rest
abbrev pub room : (B : List Word) (u₀ p u : Word) → TailThenRest B u₀ u → ℕ
room B u₀ p u t = (length t.tail - length p) + longest_word B * (length u₀ - t.from)

-- none of the first n relation words is longer than the longest of them
longest_most : (B : List Word) (n i : ℕ) → i < n → len B i ≤ longest_of B n
unfolding longest_of
longest_most B zero i h = absurd (omega arith)
longest_most B (suc n) i h = by_cases (dec_lt i n)
    (λ a. let r = longest_most B n i a in omega arith)
    (λ a. let e : len B i ≡ len B n = ap (len B) (omega arith) in omega arith)

-- no relation word is longer than the longest
pub word_at_most : (B : List Word) (i : ℕ) → i < length B → len B i ≤ longest_word B
word_at_most B i h = let m = longest_most B (length B) i h in omega arith

-- what every round keeps: the shape, lighter, and the room for what is written and what is still to be written
pub record Kept (B : List Word) (u₀ p u c p' u' : Word) (t : TailThenRest B u₀ u) : Type 0 where
  pub next : TailThenRest B u₀ u'
  pub less : weight B u₀ u' next < weight B u₀ u t
  pub paid : length c + room B u₀ p' u' next ≤ room B u₀ p u t

-- a letter less of the rest pays for a relation word
pays : (m a b c : ℕ) → a < b → c ≤ m → c + m * a ≤ m * b
pays m a b c h l = let r = mul-le-mul_left {m = suc a} {n = b} m (omega arith) in omega arith

-- a letter is dropped of u, and of the mark if it has one: it pays for a letter where there is no mark
drop_pays : (m tail p rest tail' rest' written : ℕ) → 1 ≤ m → 0 < tail + rest → tail' ≡ tail - 1 → tail' + rest' + 1 ≡ tail + rest → written + p ≤ max 1 p
    → written + ((tail' - (p - 1)) + m * rest') ≤ (tail - p) + m * rest
drop_pays m tail p rest tail' rest' written hm h e l c = by_cases (dec_lt 0 tail)
    (λ a. let r = ap (λ n. m * n) {x = rest'} {y = rest} (omega arith) in omega arith)
    (λ a. let r = pays m rest' rest written (omega arith) (omega arith) in omega arith)

-- a cut that reaches past the tail takes a letter of the rest
cut_less : (tail rest tail' rest' whole whole' size xy : ℕ) → whole ≡ tail + rest → whole' ≡ tail' + rest' → whole' ≡ tail' + (whole - size) → tail < xy → xy ≤ size
    → size ≤ whole → rest' < rest
cut_less tail rest tail' rest' whole whole' size xy a b c d e f = omega arith

-- what is written is at most n letters long
part_at_most : (B : List Word) (p : Word) (j n : ℕ) → length (drop (length p) (take n (word B j))) ≤ n
part_at_most B p j n = let d = length-drop (length p) (take n (word B j)) in let t = length-take n (word B j) in omega arith

module _ (B : List Word) (u₀ p u c p' u' : Word) (t : TailThenRest B u₀ u) where
  -- where a letter is dropped
  drop_kept : 0 < length u → u' ≡ drop 1 u → length p' ≡ length p - 1 → length c + length p ≤ max 1 (length p) → Kept B u₀ p u c p' u' t
  drop_kept h eu ep k =
      let a = drop_lighter B u₀ u u' t h eu in
      let lu = tailed_length B u₀ u t in
      let lu' = tailed_length B u₀ u' a.next in
      let ld = ap length eu ∙ length-drop 1 u in
      let lt = ap length a.before ∙ length-drop 1 t.tail in
      record {
        next = a.next;
        less = a.less;
        paid =
            rw ep (drop_pays (longest_word B) (length t.tail) (length p) (length u₀ - t.from) (length a.next.tail) (length u₀ - a.next.from) (length c)
            (omega arith) (omega arith) lt (omega arith) k);
      }

  -- where the clean XY is cut
  cut_kept : Facts B → {z : Word} (j n : ℕ) → j < length B → c ≡ drop (length p) (take n (word B j)) → Recut B u z u' → n + (length z - length p') ≤ len B j
      → Kept B u₀ p u c p' u' t
  cut_kept R {z} j n hj ec r k = record { next = a.next; less = a.less; paid = paid }
    where
      a : Lighter B u₀ u u' t z
      a = cut_lighter B u₀ u u' t R r

      past : length t.tail < xylen B r.by
      past =
          prefix_past_tail B R t.tail (drop t.from u₀) r.by (no_prefix_tail B R t.tail t.ends) r.there
          (subst (λ w. is_prefix (xy_of B r.by) w ≡ true) t.made r.begins)

      shorter : length u' ≡ length a.next.tail + (length u - r.size)
      shorter = ap length r.made ∙ rw (length-append, length-drop, a.before)

      short : length u₀ - a.next.from < length u₀ - t.from
      short =
          cut_less (length t.tail) (length u₀ - t.from) (length a.next.tail) (length u₀ - a.next.from) (length u) (length u') r.size (xylen B r.by)
          (tailed_length B u₀ u t) (tailed_length B u₀ u' a.next) shorter past r.enough r.fits

      written : length c + (length a.next.tail - length p') ≤ longest_word B
      written = rw (a.before, ec) (let m = word_at_most B j hj in let l = part_at_most B p j n in omega arith)

      paid : length c + room B u₀ p' u' a.next ≤ room B u₀ p u t
      paid =
          let q = pays (longest_word B) (length u₀ - a.next.from) (length u₀ - t.from) (length c + (length a.next.tail - length p')) short written in
          omega (arith, q)

  -- every change keeps the shape, makes the word lighter and pays for what is written
  pub writes_keep : Facts B → Writes B p u c p' u' → Kept B u₀ p u c p' u' t
  writes_keep R (letter h l ep ec ep' eu) =
      let x = ap length ep in
      let y = ap length ep' in
      let z = ap length ec ∙ length-take 1 u in
      drop_kept h eu (omega arith) (omega arith)
  writes_keep R (meets h l lp q ec ep' eu) =
      let y = ap length ep' ∙ length-drop 1 p in
      let z = ap length ec in
      drop_kept h eu y (omega arith)
  writes_keep R (cuts j n hj ec r b q k) = cut_kept R j n hj ec r k

-- so does every round
pub round_keeps : (B : List Word) → Facts B → (family rank : ℕ → ℕ) (u₀ p u c p' u' : Word) (t : TailThenRest B u₀ u) → write_part B family rank p u ≡ part c p' u'
    → Kept B u₀ p u c p' u' t
round_keeps B R family rank u₀ p u c p' u' t e = writes_keep B u₀ p u c p' u' t R (round_writes B family rank e)
