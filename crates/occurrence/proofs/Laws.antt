-- A word that stands in the text stands in a relation word, and the other way round; so the longest piece where it stands first tells whether it is a piece.
use Prim.Native.Nat.{ℕ, ◌+◌, ◌-◌, ◌<◌, ◌≤◌}
use mathlib.Core.Bool.{Bool, true, false, true≢false}
use mathlib.Core.List.{List, [], ◌∷◌}
use mathlib.Core.Logic.{by_cases, ⊎_elim}
use mathlib.Core.Path.{◌≡◌, refl, sym, ap, ◌∙◌, subst}
use Rattle.std.proofs.Common.{Option, Some, None}
use native.Mathlib.Omega.{arith}
use native.Mathlib.Decide.{dec_le, dec_lt}
use borrow.Author.Rules.{rules}
use borrow.Author.Tests.{le-leb, lt-leb, leb-true}
use lib.Dec.{leb}
use lib.ListN.{length, get_or, take, drop, length-drop}
use lib.Seq.{get_or-drop, length-take-le, take_all}
use mir.Val.{Fits}
use mir.Syntax.{w8}
use Rattle.words.specs.Search.{least}
use Rattle.words.specs.Words.{Word, is_prefix, part}
use Rattle.words.proofs.Tests.{false_of}
use Rattle.words.proofs.Parts.{part_of_take}
use Rattle.words.proofs.Searching.{NoneBelow, none_start, none_more, least_is, least_none, least_first, least_passes}
use Rattle.words.proofs.Prefixes.{prefix_at, at_prefix, prefix_length, prefix_take, equal_of_prefix}
use Rattle.overlap.specs.Pieces.{word, Occurs}
use Rattle.overlap.specs.Cuts.{piece_at, is_piece}
use Rattle.overlap.proofs.Occurrences.{occurs_fits, occurs_same}
use Rattle.overlap.proofs.Agree.{piece_at_iff_piece, occurs_prefix, piece_stands, is_piece_of_occurs}
use Rattle.layout.specs.Layout.{Span, words_in, start_of, end_of}
use Rattle.layout.proofs.Placed.{words_length, word_length, word_at_lem, end_before, owner, start_bound}
use Rattle.layout.proofs.Whole.{whole_inside, whole_long, whole_laid, whole_words}
use Rattle.longest.specs.Longest.{Tabled, longest_at}
use Rattle.loose.specs.Pieces.{Fenced}
use Rattle.loose.proofs.Fences.{piece_longest}
use Rattle.moves.specs.declared.Mark.{Mark}
use Rattle.occurrence.specs.Standing.{first_place, Placeable, mark_at, place_of, Sought, PieceSought}

-- the search for the first place
pub record Seeking (text : List ℕ) (p : Word) (q : ℕ) : Type 0 where
  pub upto : q ≤ length text
  pub none : NoneBelow (λ k. is_prefix p (drop k text)) q

module _ (text : List ℕ) (p : Word) where
  pub seek_start : Seeking text p 0
  seek_start = record { upto = omega arith; none = none_start _ }

  pub seek_span : Span p 0 (length p)
  seek_span = record { upwards = omega arith; inside = omega arith }

  module _ (q : ℕ) (s : Seeking text p q) where
    module _ (h : q < length text) (b : Bool) (e : b ≡ is_prefix (part p 0 (length p)) (drop q text)) where
      whole : b ≡ is_prefix p (drop q text)
      whole = e ∙ ap (λ (w : Word). is_prefix w (drop q text)) (take_all (length p - 0) p (omega arith))

      pub seek_found : b ≡ true → q ≡ first_place text p
      unfolding first_place
      seek_found f = sym (least_is (length text) (λ k. is_prefix p (drop k text)) q h s.none (sym whole ∙ f))

      pub seek_more : b ≡ false → Seeking text p (q + 1)
      seek_more f = record { upto = omega arith; none = none_more _ q s.none (sym whole ∙ f) }

    pub seek_end : length text ≤ q → length text ≡ first_place text p
    unfolding first_place
    seek_end h =
        let e : q ≡ length text = omega (arith, s.upto) in
        sym (least_none (length text) (λ k. is_prefix p (drop k text)) (subst (NoneBelow (λ k. is_prefix p (drop k text))) e s.none))

pub ruleset seeks = (seek_start, seek_span, seek_found, seek_more, seek_end, rules)

-- the place by the longest piece there
module _ (text longest : List ℕ) (p : Word) (a : Placeable text longest p) (q : ℕ) (e : q ≡ first_place text p) where
  pub place_missing : length text ≤ q → None ≡ place_of text longest p
  unfolding place_of
  place_missing h = sym (rw (le-leb (length text) (first_place text p) (omega (arith, e))))

  module _ (h : q < length text) where
    pub place_inside : q < length longest
    place_inside = omega (arith, a.room)

    pub place_byte : Fits w8 (length p)
    place_byte = omega (arith, a.few)

    pub place_fits : q + length p ≤ 65536
    place_fits = omega (arith, a.short, a.few)

    module _ (b : Bool) (w : b ≡ leb (length p) (get_or longest q 0)) where
      here : leb (length p) (get_or longest (first_place text p) 0) ≡ b
      here = ap (λ (k : ℕ). leb (length p) (get_or longest k 0)) (sym e) ∙ sym w

      pub place_alone : b ≡ false → None ≡ place_of text longest p
      unfolding place_of
      place_alone f = sym (rw (lt-leb (length text) (first_place text p) (omega (arith, e)), here ∙ f))

      pub place_there : b ≡ true → (m : Mark) → m ≡ mark_at q (length p) → Some m ≡ place_of text longest p
      unfolding place_of
      place_there f m d = ap Some (d ∙ ap (λ (k : ℕ). mark_at k (length p)) e) ∙ sym (rw (lt-leb (length text) (first_place text p) (omega (arith, e)), here ∙ f))

pub ruleset placings = (place_missing, place_inside, place_byte, place_fits, place_alone, place_there, rules)

-- a text that ends with its last fence, and a word of letters
module _ (text table : List ℕ) (n : ℕ) (f : Fenced text table n) (longest : List ℕ) (t : Tabled text longest) (p : Word) (some : 0 < length p)
    (letters : (k : ℕ) → k < length p → get_or p k 0 < 64) where
  abbrev B : List Word
  B = words_in text table n

  -- what stands in the text stands before a fence
  before_fence : (q i : ℕ) → is_prefix p (drop q text) ≡ true → i < n → start_of table i ≤ q → q ≤ end_of table i → q + length p ≤ end_of table i
  before_fence q i e h l u = by_cases (dec_le (q + length p) (end_of table i)) (λ a. a) (λ a.
      let k : end_of table i - q < length p = omega (arith, a) in
      let x = prefix_at p (drop q text) e (end_of table i - q) k ∙ get_or-drop q text (end_of table i - q) 0 in
      let y = ap (λ (j : ℕ). get_or text j 0) {x = q + (end_of table i - q)} {y = end_of table i} (omega arith) in
      absurd (omega (arith, x ∙ y ∙ f.laid.fence i h, letters (end_of table i - q) k)))

  -- so it occurs in a relation word
  stands_in : (q : ℕ) → q < length text → is_prefix p (drop q text) ≡ true → (i : ℕ) × (i < n) × (start_of table i ≤ q) × (q + length p ≤ end_of table i) × Occurs B p i (q - start_of table i)
  stands_in q h e =
      let (i, a, l, u) = owner text table n f.laid q n (omega arith) (omega (arith, f.whole)) in
      let z = before_fence q i e a l u in
      let w = word_length text table n f.laid i a in
      let d = length-drop (q - start_of table i) (word B i) in
      let s : is_prefix p (drop (q - start_of table i) (word B i)) ≡ true =
      at_prefix p (drop (q - start_of table i) (word B i)) (omega arith) (λ k v.
      prefix_at p (drop q text) e k v ∙ get_or-drop q text k 0 ∙ ap (λ (j : ℕ). get_or text j 0) {x = q + k} {y = start_of table i + (q - start_of table i + k)} (omega arith)
      ∙ sym (word_at_lem text table n f.laid i (q - start_of table i + k) a (omega arith)) ∙ sym (get_or-drop (q - start_of table i) (word B i) k 0)) in
      (i, a, l, z, occurs_prefix B p i (q - start_of table i) (omega (arith, words_length text table n)) (omega arith) s)

  -- and what occurs in a relation word stands in the text
  stands_at : (i a : ℕ) → Occurs B p i a → (start_of table i + a < length text) × (is_prefix p (drop (start_of table i + a) text) ≡ true)
  stands_at i a o =
      let h : i < n = omega (arith, o.there, words_length text table n) in
      let w = word_length text table n f.laid i h in
      let z = occurs_fits o in
      let u = end_before text table n f.laid i h in
      let d = length-drop (start_of table i + a) text in (
        omega (arith, f.whole),
        at_prefix p (drop (start_of table i + a) text) (omega (arith, f.whole)) (λ k v.
            ap (λ (j : ℕ). get_or p j 0) {x = k} {y = 0 + k} (omega arith) ∙ (occurs_same o).at k v ∙ word_at_lem text table n f.laid i (a + k) h (omega arith)
            ∙ ap (λ (j : ℕ). get_or text j 0) {x = start_of table i + (a + k)} {y = start_of table i + a + k} (omega arith) ∙ sym (get_or-drop (start_of table i + a) text k 0)),
      )

  -- where it stands, the longest piece tells whether it is one
  longest_tells : (q i : ℕ) → i < n → start_of table i ≤ q → q + length p ≤ end_of table i → piece_at B i (q - start_of table i) (length p) ≡ leb (length p) (get_or longest q 0)
  longest_tells q i h l z =
      let e : start_of table i + (q - start_of table i) ≡ q = omega arith in
      let u = end_before text table n f.laid i h in
      piece_longest text table n f i (q - start_of table i) (length p) h (omega arith)
      ∙ ap (leb (length p)) (ap (longest_at text) e ∙ sym (t.at q (omega (arith, f.whole))))

  -- the first place at which it stands
  stands_first : first_place text p < length text → is_prefix p (drop (first_place text p) text) ≡ true
  unfolding first_place
  stands_first h = least_passes (length text) (λ k. is_prefix p (drop k text)) h

  first_bound : (q : ℕ) → q < length text → is_prefix p (drop q text) ≡ true → first_place text p < length text
  unfolding first_place
  first_bound q h e = by_cases (dec_lt (least (length text) (λ k. is_prefix p (drop k text))) (length text)) (λ a. a) (λ a.
      absurd (true≢false (sym e ∙ (least_first (length text) (λ k. is_prefix p (drop k text))).none q (omega (arith, a)))))

  -- a word that is told to stand at a place is a piece
  piece_of_place : first_place text p < length text → length p ≤ get_or longest (first_place text p) 0 → is_piece B p ≡ true
  piece_of_place h l =
      let (i, a, b, z, o) = stands_in (first_place text p) h (stands_first h) in
      let e = longest_tells (first_place text p) i a b z ∙ le-leb (length p) (get_or longest (first_place text p) 0) l in
      is_piece_of_occurs B p i (first_place text p - start_of table i) o ((piece_at_iff_piece B p i (first_place text p - start_of table i) o).0 e)

  -- and a piece is told to stand at one
  place_of_piece : is_piece B p ≡ true → (first_place text p < length text) × (length p ≤ get_or longest (first_place text p) 0)
  place_of_piece e =
      ⊎_elim (λ z. absurd (omega (arith, ap length z)))
      (λ z.
      let (i, a, o, c) = z in
      let s = stands_at i a o in
      let h = first_bound (start_of table i + a) s.0 s.1 in
      let (j, b, l, v, k) = stands_in (first_place text p) h (stands_first h) in
      (h, leb-true (length p) (get_or longest (first_place text p) 0) (sym (longest_tells (first_place text p) j b l v) ∙ (piece_at_iff_piece B p j (first_place text p - start_of table j) k).1 c)))
      (piece_stands B p e)

  -- the letters there are the word
  part_there : first_place text p < length text → (first_place text p + length p ≤ length text) × (part text (first_place text p) (first_place text p + length p) ≡ p)
  part_there h =
      let e = stands_first h in
      let l = prefix_length p (drop (first_place text p) text) e in
      let d = length-drop (first_place text p) text in
      let n : first_place text p + length p - first_place text p ≡ length p = omega arith in
      let c : take (length p) (drop (first_place text p) text) ≡ part text (first_place text p) (first_place text p + length p) = ap (λ (k : ℕ). take k (drop (first_place text p) text)) (sym n) in
      let z = length-take-le (length p) (drop (first_place text p) text) l in
      (omega arith, sym (equal_of_prefix p (take (length p) (drop (first_place text p) text)) (sym z) (sym (prefix_take p (drop (first_place text p) text)) ∙ e) ∙ c))

  -- a place that is told
  told_at : (m : Mark) → place_of text longest p ≡ Some m
      → (first_place text p < length text) × (length p ≤ get_or longest (first_place text p) 0) × (m ≡ mark_at (first_place text p) (length p))
  unfolding place_of
  told_at m e = by_cases (dec_lt (first_place text p) (length text))
      (λ h. by_cases (dec_le (length p) (get_or longest (first_place text p) 0))
      (λ l.
      let d : Some (mark_at (first_place text p) (length p)) ≡ Some m =
      rw (lt-leb (length text) (first_place text p) h, le-leb (length p) (get_or longest (first_place text p) 0) l) at e in
      let g : mark_at (first_place text p) (length p) ≡ m = cc in
      (h, l, sym g))
      (λ l.
      let d : None ≡ Some m = rw (lt-leb (length text) (first_place text p) h, lt-leb (length p) (get_or longest (first_place text p) 0) (omega (arith, l))) at e in
      let z : ◌≡◌ {A = ℕ} 0 1 = cc in
      absurd (omega arith)))
      (λ h.
      let d : None ≡ Some m = rw (le-leb (length text) (first_place text p) (omega (arith, h))) at e in
      let z : ◌≡◌ {A = ℕ} 0 1 = cc in
      absurd (omega arith))

  -- no place is told
  told_nowhere : place_of text longest p ≡ None → is_piece B p ≡ false
  unfolding place_of
  told_nowhere e = false_of (is_piece B p) (λ c.
      let (h, l) = place_of_piece c in
      let d : Some (mark_at (first_place text p) (length p)) ≡ None =
      rw (lt-leb (length text) (first_place text p) h, le-leb (length p) (get_or longest (first_place text p) 0) l) at e in
      let z : ◌≡◌ {A = ℕ} 0 1 = cc in
      omega arith)

-- the empty word is a piece, wherever it is said to stand
pub empty_sought : (text table : List ℕ) (n : ℕ) (p : Word) → length p ≡ 0 → PieceSought text table n p (Some (record { at = 0; to = 0 }))
unfolding is_piece
empty_sought text table n [] e =
    record {
      found = λ m d.
          let g : record { at = 0; to = 0 } ≡ m = cc in
          rw (← g) (record { fits = record { up = omega arith; inside = omega arith; short = omega arith }; same = refl; piece = refl });
      absent = λ d. let z : ◌≡◌ {A = ℕ} 0 1 = cc in absurd (omega arith);
    }
empty_sought text table n (x ∷ p) e = absurd (omega arith)

-- the text as far as its last fence
module _ (text table : List ℕ) (n : ℕ) (longest : List ℕ) (p : Word) (s : Sought text table n longest p) (t : ℕ) (e : t ≡ start_of table n) where
  pub sought_inside : t ≤ length text
  sought_inside = whole_inside text table n s.laid t e

  pub sought_long : t ≡ length (take t text)
  sought_long = whole_long text table n s.laid t e

  fenced : Fenced (take t text) table n
  fenced = record { laid = whole_laid text table n s.laid t e; whole = sym sought_long ∙ e }

  tabled : Tabled (take t text) longest
  tabled = subst (λ (k : ℕ). Tabled (take k text) longest) (sym e) s.tabled

  pub sought_placeable : Placeable (take t text) longest p
  sought_placeable =
      record {
        room = tabled.room;
        short = omega (arith, sought_long, e, start_bound text table n s.laid n (omega arith), s.laid.few);
        few = s.few;
      }

  same_words : words_in (take t text) table n ≡ words_in text table n
  same_words = whole_words text table n s.laid t e

  pub sought_told : (length p ≡ 0 → ⊥) → (r : Option Mark) → r ≡ place_of (take t text) longest p → PieceSought text table n p r
  sought_told letter r d =
      let some : 0 < length p = by_cases (dec_lt 0 (length p)) (λ l. l) (λ l. absurd (letter (omega (arith, l)))) in
      record {
        found = λ m g.
            let (h, l, k) = told_at (take t text) table n fenced longest tabled p some s.letters m (sym d ∙ g) in
            let (u, v) = part_there (take t text) table n fenced longest tabled p some s.letters h in
            rw k (record {
              fits = record { up = omega arith; inside = omega (arith, u, sought_inside, sought_long); short = omega (arith, s.few) };
              same = sym (part_of_take text t (first_place (take t text) p) (first_place (take t text) p + length p) (omega (arith, u, sought_long))) ∙ v;
              piece = ap (λ (B : List Word). is_piece B p) (sym same_words) ∙ piece_of_place (take t text) table n fenced longest tabled p some s.letters h l;
            });
        absent = λ g. ap (λ (B : List Word). is_piece B p) (sym same_words) ∙ told_nowhere (take t text) table n fenced longest tabled p some s.letters (sym d ∙ g);
      }

pub ruleset soughts = (empty_sought, sought_inside, sought_long, sought_placeable, sought_told, rules)
