-- The walk through the words of one letter: where each parts from the word that is compared, and that at most one X and Y stand at a place.
use Prim.Native.Nat.{ℕ, ◌+◌, ◌-◌, ◌≤◌, ◌<◌}
use mathlib.Core.Bool.{Bool, true, false, cond, true≢false}
use mathlib.Core.List.{List, ◌++◌}
use mathlib.Core.Path.{◌≡◌, refl, sym, ap, ◌∙◌, subst}
use mathlib.Core.Logic.{by_cases}
use native.Mathlib.Omega.{arith}
use native.Mathlib.Decide.{dec_lt}
use borrow.Author.Rules.{rules}
use borrow.Author.Tests.{ltb-true, ltb-false, eq-eqb, ne_eqb}
use lib.ListN.{length, get_or, drop, length-take, length-drop, length-append}
use lib.Seq.{get_or-drop}
use Rattle.words.specs.Words.{Word, is_prefix, common_prefix, part}
use Rattle.words.proofs.Tests.{false_of}
use Rattle.words.proofs.Parts.{part_length, part_at}
use Rattle.words.proofs.Searching.{least_is, least_none}
use Rattle.words.proofs.Prefixes.{prefix_length, prefix_at}
use Rattle.words.proofs.Commons.{common_within, common_at, common_prefix_lem, common_no_prefix, common_take, common_later, common_sooner, common_via}
use Rattle.overlap.specs.Pieces.{word}
use Rattle.overlap.specs.Cuts.{xlen, xylen, xy_of}
use Rattle.overlap.proofs.Rigid.{Rigid}
use Rattle.overlap.proofs.Facts.{length_xy}
use Rattle.congruence.proofs.RowTests.{one_prefix}
use Rattle.layout.specs.Places.{letters_bound, start_cell, z_start_cell, first_cell, order_cell, shared_cell}
use Rattle.layout.specs.Layout.{start_of, z_start_of, words_in, first_of, order_of, shared_of, Checked}
use Rattle.layout.proofs.Placed.{words_length, word_part}
use Rattle.layout.proofs.CutPlaces.{xy_span, xy_long, xy_part, checked_rigid}
use Rattle.index.specs.declared.Meeting.{Meeting}
use Rattle.index.specs.declared.Meeting.TheVariants.{Here, Past}
use Rattle.joined.specs.Joined.{has_place, Agreed}
use Rattle.index.specs.Index.{relation_prefix_at}
use Rattle.index.specs.Seek.{met_at, shared_under, Meets, AtLetter, Bucket, Turn}

-- relation word k of B met with v
unfoldable pub met_of : List Word → ℕ → Word → Meeting
met_of B k v = cond (is_prefix (xy_of B k) v) (Here k) (Past (common_prefix (word B k) v))

-- by its positions in the table it is met just so
met_at_lem : (text table : List ℕ) (n : ℕ) → Checked text table n → (k : ℕ) → k < n → (v : Word) → met_at text table k v ≡ met_of (words_in text table n) k v
unfolding met_at met_of
met_at_lem text table n c k h v = rw (xy_part text table n c.laid c.cut k h, word_part text table n k h)

-- where the marker of words, X with the letter behind it, is rigid
module _ (B : List Word) (g : Rigid B (xlen B) (xylen B)) where
  -- a word that shares all of its X and Y with another is that word
  pub marked : (i k : ℕ) → i < length B → k < length B → xylen B i ≤ common_prefix (word B k) (word B i) → i ≡ k
  marked i k h l e =
      let s = g.some i h in
      let w = common_within (word B k) (word B i) in
      (g.marker i k 0 (xylen B i) h l s (omega arith) (omega arith) (record { at = λ j c. let z : 0 + j ≡ j = omega arith in rw z (sym (common_at (word B k) (word B i) j (omega arith))) })).0

  -- so many letters in common make X and Y a prefix of v, and the other way
  pub common_xy : (k : ℕ) (v : Word) → xylen B k ≤ common_prefix (word B k) v → is_prefix (xy_of B k) v ≡ true
  common_xy k v h =
      let c = common_take (xylen B k) (word B k) v (omega arith) in
      let l = length_xy B k in
      common_prefix_lem (xy_of B k) v (omega arith)

  pub common_not_xy : (k : ℕ) (v : Word) → common_prefix (word B k) v < xylen B k → is_prefix (xy_of B k) v ≡ false
  common_not_xy k v h =
      let c = common_take (xylen B k) (word B k) v (omega arith) in
      let l = length_xy B k in
      common_no_prefix (xy_of B k) v (omega arith)

  pub not_xy_common : (k : ℕ) (v : Word) → is_prefix (xy_of B k) v ≡ false → common_prefix (word B k) v < xylen B k
  not_xy_common k v e =
      by_cases (dec_lt (common_prefix (word B k) v) (xylen B k)) (λ a. a) (λ a. absurd (true≢false (sym (common_xy k v (omega arith)) ∙ e)))

  -- the one that stands is found
  pub found_one : (w : Word) (q k : ℕ) → k < length B → is_prefix (xy_of B k) (drop q w) ≡ true → k ≡ relation_prefix_at B w q
  unfolding relation_prefix_at
  found_one w q k h e =
      sym (least_is (length B) (λ j. is_prefix (xy_of B j) (drop q w)) k h (record { none = below }) e)
    where
      below : (i : ℕ) → i < k → is_prefix (xy_of B i) (drop q w) ≡ false
      below i l = false_of (is_prefix (xy_of B i) (drop q w)) (λ f. let o = one_prefix g (drop q w) i k (omega arith) h f e in absurd (omega arith))

  pub none_stands : (w : Word) (q : ℕ) → ((k : ℕ) → k < length B → is_prefix (xy_of B k) (drop q w) ≡ false) → length B ≡ relation_prefix_at B w q
  unfolding relation_prefix_at
  none_stands w q f = sym (least_none (length B) (λ j. is_prefix (xy_of B j) (drop q w)) (record { none = f }))

  -- the word listed before, i, has m letters in common with v and is not it; k shares l letters with i
  module _ (v : Word) (i k : ℕ) (h : i < length B) (l : k < length B) (e : is_prefix (xy_of B i) v ≡ false) where
    not_all : xylen B k ≤ common_prefix (word B i) (word B k) → xylen B k ≤ common_prefix (word B i) v → ⊥
    not_all a b =
        let o = marked k i l h a in
        let c = not_xy_common i v e in
        let s : xylen B k ≡ xylen B i = ap (xylen B) o in
        omega arith

    pub met_later : common_prefix (word B i) v < common_prefix (word B i) (word B k) → Past (common_prefix (word B i) v) ≡ met_of B k v
    unfolding met_of
    met_later a =
        let c = common_later (word B i) (word B k) v a in
        by_cases (dec_lt (common_prefix (word B k) v) (xylen B k))
        (λ b. rw (common_not_xy k v b, c))
        (λ b. absurd (not_all (omega arith) (omega arith)))

    pub met_sooner : common_prefix (word B i) (word B k) < common_prefix (word B i) v → Past (common_prefix (word B i) (word B k)) ≡ met_of B k v
    unfolding met_of
    met_sooner a =
        let c = common_sooner (word B i) (word B k) v a in
        by_cases (dec_lt (common_prefix (word B k) v) (xylen B k))
        (λ b. rw (common_not_xy k v b, c))
        (λ b. absurd (not_all (omega arith) (omega arith)))

    pub met_on : common_prefix (word B i) (word B k) ≡ common_prefix (word B i) v → common_prefix (word B i) v ≤ common_prefix (xy_of B k) v
    met_on a =
        let c = common_via (word B i) (word B k) v (common_prefix (word B i) v) (omega arith) (omega arith) in
        let t = common_take (xylen B k) (word B k) v (omega arith) in
        by_cases (dec_lt (common_prefix (word B i) v) (xylen B k)) (λ b. omega arith) (λ b. absurd (not_all (omega arith) (omega arith)))

-- one word met: what of its X and Y agrees says how it meets the word
module _ (text table : List ℕ) (w : Word) (q k m : ℕ) (g : Meets text table w q k m) where
  pub meets_start : start_cell k < length table
  meets_start = omega (arith, g.known, g.checked.laid.few, g.checked.indexed.room)

  pub meets_cut : z_start_cell k < length table
  meets_cut = omega (arith, g.known, g.checked.laid.few, g.checked.indexed.room)

  module _ (from : ℕ) (e : from ≡ start_of table k) (to : ℕ) (f : to ≡ z_start_of table k) where
    pub meets_agreed : Agreed text from to w q m
    meets_agreed = rw (e, f) g.agreed

    pub meets_up : from ≤ to
    meets_up = omega (arith, g.agreed.span.upwards)

    module _ (r : ℕ) (c : r ≡ common_prefix (part text from to) (drop q w)) where
      -- what is common of X and Y, and how many letters these are
      counted : (r ≡ common_prefix (xy_of (words_in text table g.number) k) (drop q w)) × (xylen (words_in text table g.number) k ≡ to - from)
      counted =
          let l = g.checked.laid in
          let t = g.checked.cut in
          let p = xy_part text table g.number l t k g.known in
          let i = xy_long text table g.number l t k g.known in
          (c ∙ rw (e, f, ← p), omega arith)

      met : met_of (words_in text table g.number) k (drop q w) ≡ met_at text table k (drop q w)
      met = sym (met_at_lem text table g.number g.checked k g.known (drop q w))

      pub meets_here : r ≡ to - from → Here k ≡ met_at text table k (drop q w)
      unfolding met_of
      meets_here d =
          let x = counted in
          let b = common_within (xy_of (words_in text table g.number) k) (drop q w) in
          let y = length-take (xylen (words_in text table g.number) k) (word (words_in text table g.number) k) in
          let o : Here k ≡ met_of (words_in text table g.number) k (drop q w) = rw (common_prefix_lem (xy_of (words_in text table g.number) k) (drop q w) (omega arith)) in
          o ∙ met

      pub meets_past : (r ≡ to - from → ⊥) → Past r ≡ met_at text table k (drop q w)
      unfolding met_of
      meets_past d =
          let x = counted in
          let B = words_in text table g.number in
          let t = common_take (xylen B k) (word B k) (drop q w) (omega arith) in
          let z : r ≡ common_prefix (word B k) (drop q w) = omega arith in
          let o : Past r ≡ met_of B k (drop q w) = rw (common_not_xy B (checked_rigid text table g.number g.checked) k (drop q w) (omega arith), z) in
          o ∙ met

pub ruleset meetings = (meets_start, meets_cut, meets_agreed, meets_up, meets_here, meets_past, rules)

pub shared_first : (table : List ℕ) (from j : ℕ) → j ≡ from → 0 ≡ shared_under table from j
unfolding shared_under
shared_first table from j e = rw (eq-eqb j from e)

pub shared_next : (table : List ℕ) (from j r : ℕ) → (j ≡ from → ⊥) → r ≡ shared_of table j → r ≡ shared_under table from j
unfolding shared_under
shared_next table from j r d e = rw (ne_eqb j from d) e

pub ruleset shareds = (shared_first, shared_next, rules)

-- the word listed at place j
module _ (text table : List ℕ) (w : Word) (q from j m : ℕ) (g : Turn text table w q from j m) where
  pub turn_order : order_cell j < length table
  turn_order = omega (arith, g.known, g.checked.laid.few, g.checked.indexed.room)

  pub turn_shared : shared_cell j < length table
  turn_shared = omega (arith, g.known, g.checked.laid.few, g.checked.indexed.room)

  -- where it is not the first of its letter
  module _ (b : from < j) where
    two : (order_of table (j - 1) < length (words_in text table g.number)) × (order_of table j < length (words_in text table g.number))
    two =
        let l = words_length text table g.number in
        let x = g.checked.indexed.known (j - 1) (omega (arith, g.known)) in
        let y = g.checked.indexed.known j g.known in
        omega arith

    shares : (l : ℕ) → l ≡ shared_under table from j → l ≡ common_prefix (word (words_in text table g.number) (order_of table (j - 1))) (word (words_in text table g.number) (order_of table j))
    unfolding shared_under
    shares l e =
        let d : shared_under table from j ≡ shared_of table j = rw (ne_eqb j from (λ z. omega arith)) in
        let f = word_part text table g.number (order_of table (j - 1)) (g.checked.indexed.known (j - 1) (omega (arith, g.known))) in
        let h = word_part text table g.number (order_of table j) (g.checked.indexed.known j g.known) in
        e ∙ d ∙ rw (f, h) (g.checked.indexed.alike j (omega arith) g.known)

    rigid_here : Rigid (words_in text table g.number) (xlen (words_in text table g.number)) (xylen (words_in text table g.number))
    rigid_here = checked_rigid text table g.number g.checked

  met_listed : met_of (words_in text table g.number) (order_of table j) (drop q w) ≡ met_at text table (order_of table j) (drop q w)
  met_listed = sym (met_at_lem text table g.number g.checked (order_of table j) (g.checked.indexed.known j g.known) (drop q w))

  -- the first of its letter shares nothing that is known
  first_shares : (l : ℕ) → l ≡ shared_under table from j → j ≡ from → (l ≡ 0) × (m ≡ 0)
  unfolding shared_under
  first_shares l e z = (e ∙ rw (eq-eqb j from z), g.start z)

  module _ (l : ℕ) (e : l ≡ shared_under table from j) where
    pub turn_later : m < l → Past m ≡ met_at text table (order_of table j) (drop q w)
    turn_later h =
        by_cases (dec_lt from j)
        (λ b.
        let o = two b in
        let s = shares b l e in
        let t = g.same b in
        rw t (met_later (words_in text table g.number) (rigid_here b) (drop q w) (order_of table (j - 1)) (order_of table j) o.0 o.1 (g.none b) (omega arith)) ∙ met_listed)
        (λ b. let f = first_shares l e (omega (arith, g.low)) in absurd (omega arith))

    pub turn_sooner : l < m → Past l ≡ met_at text table (order_of table j) (drop q w)
    turn_sooner h =
        by_cases (dec_lt from j)
        (λ b.
        let o = two b in
        let s = shares b l e in
        let t = g.same b in
        rw s (met_sooner (words_in text table g.number) (rigid_here b) (drop q w) (order_of table (j - 1)) (order_of table j) o.0 o.1 (g.none b) (omega arith)) ∙ met_listed)
        (λ b. let f = first_shares l e (omega (arith, g.low)) in absurd (omega arith))

    on : l ≤ m → m ≤ l → m ≤ common_prefix (xy_of (words_in text table g.number) (order_of table j)) (drop q w)
    on h i =
        by_cases (dec_lt from j)
        (λ b.
        let o = two b in
        let s = shares b l e in
        let t = g.same b in
        let c = met_on (words_in text table g.number) (rigid_here b) (drop q w) (order_of table (j - 1)) (order_of table j) o.0 o.1 (g.none b) (omega arith) in
        omega arith)
        (λ b. let f = first_shares l e (omega (arith, g.low)) in omega arith)

    pub turn_meets : (k : ℕ) → k ≡ order_of table j → l ≤ m → m ≤ l → Meets text table w q k m
    turn_meets k f h i =
        let y = g.checked.indexed.known j g.known in
        let a = xy_span text table g.number g.checked.laid g.checked.cut (order_of table j) y in
        let p = xy_part text table g.number g.checked.laid g.checked.cut (order_of table j) y in
        rw f (record { number = g.number; checked = g.checked; known = y; agreed = record { span = a; passed = rw (← p) (on h i) } })

  pub turn_met : (k : ℕ) → k ≡ order_of table j → (x : Meeting) → x ≡ met_at text table k (drop q w) → x ≡ met_at text table (order_of table j) (drop q w)
  turn_met k f x e = rw (← f) e

pub ruleset turns = (turn_order, turn_shared, turn_later, turn_sooner, turn_meets, turn_met, rules)

-- how a meeting was come by
met_here : (B : List Word) (i k : ℕ) (v : Word) → Here k ≡ met_of B i v → (k ≡ i) × (is_prefix (xy_of B i) v ≡ true)
unfolding met_of
met_here B i k v e = go (is_prefix (xy_of B i) v) refl
  where
    go : (t : Bool) → is_prefix (xy_of B i) v ≡ t → (k ≡ i) × (is_prefix (xy_of B i) v ≡ true)
    go true f = let d : Here k ≡ Here i = rw f at e in (cc, f)
    go false f =
        let d : Here k ≡ Past (common_prefix (word B i) v) = rw f at e in
        let z : ◌≡◌ {A = ℕ} 0 1 = cc in
        absurd (omega arith)

met_past : (B : List Word) (i l : ℕ) (v : Word) → Past l ≡ met_of B i v → (l ≡ common_prefix (word B i) v) × (is_prefix (xy_of B i) v ≡ false)
unfolding met_of
met_past B i l v e = go (is_prefix (xy_of B i) v) refl
  where
    go : (t : Bool) → is_prefix (xy_of B i) v ≡ t → (l ≡ common_prefix (word B i) v) × (is_prefix (xy_of B i) v ≡ false)
    go true f =
        let d : Past l ≡ Here i = rw f at e in
        let z : ◌≡◌ {A = ℕ} 0 1 = cc in
        absurd (omega arith)
    go false f = let d : Past l ≡ Past (common_prefix (word B i) v) = rw f at e in (cc, f)

-- the letter at place q of a word in which X and Y of a relation word stand there is its first
module _ (text table : List ℕ) (n : ℕ) (g : Checked text table n) (w : Word) (q k : ℕ) (h : k < n) (e : is_prefix (xy_of (words_in text table n) k) (drop q w) ≡ true) where
  some_xy : 0 < length (xy_of (words_in text table n) k)
  some_xy =
      let l = words_length text table n in
      let s = (checked_rigid text table n g).some k (omega arith) in
      let t = length-take (xylen (words_in text table n) k) (word (words_in text table n) k) in
      omega arith

  pub stands_placed : q < length w
  stands_placed =
      let s = some_xy in
      let l = prefix_length (xy_of (words_in text table n) k) (drop q w) e in
      let d = length-drop q w in
      omega arith

  pub stands_letter : get_or text (start_of table k) 0 ≡ get_or w q 0
  stands_letter =
      let s = some_xy in
      let p = sym (xy_part text table n g.laid g.cut k h) in
      let b = part_length text (start_of table k) (z_start_of table k) (xy_span text table n g.laid g.cut k h).inside in
      let c : length (part text (start_of table k) (z_start_of table k)) ≡ length (xy_of (words_in text table n) k) = ap length p in
      let z : start_of table k + 0 ≡ start_of table k = omega arith in
      let y : q + 0 ≡ q = omega arith in
      sym (ap (λ i. get_or text i 0) z) ∙ sym (part_at text (start_of table k) (z_start_of table k) 0 (omega arith)) ∙ ap (λ u. get_or u 0 0) p
      ∙ prefix_at (xy_of (words_in text table n) k) (drop q w) e 0 s ∙ get_or-drop q w 0 0 ∙ ap (λ i. get_or w i 0) y

-- where no word can stand
none_found : (text table : List ℕ) (n : ℕ) → Checked text table n → (w : Word) (q : ℕ)
    → ((k : ℕ) → k < n → is_prefix (xy_of (words_in text table n) k) (drop q w) ≡ true → ⊥) → n ≡ relation_prefix_at (words_in text table n) w q
none_found text table n g w q f =
    let l = words_length text table n in
    sym l ∙ none_stands (words_in text table n) (checked_rigid text table n g) w q (λ k h. false_of (is_prefix (xy_of (words_in text table n) k) (drop q w)) (f k (omega arith)))

-- the X and Y of no word listed below place j stand in w at place q, and the last of these words has m letters in common with w there
pub record Seeking (text table : List ℕ) (n : ℕ) (w : Word) (q from to j m : ℕ) : Type 0 where
  pub bucket : Bucket text table n w q from to
  pub low : from ≤ j
  pub high : j ≤ to
  pub most : to ≤ n
  pub none : (i : ℕ) → from ≤ i → i < j → is_prefix (xy_of (words_in text table n) (order_of table i)) (drop q w) ≡ false
  pub start : j ≡ from → m ≡ 0
  pub same : from < j → m ≡ common_prefix (word (words_in text table n) (order_of table (j - 1))) (drop q w)

pub seek_start : (text table : List ℕ) (n : ℕ) (w : Word) (q from to : ℕ) → Bucket text table n w q from to → Seeking text table n w q from to from 0
seek_start text table n w q from to b =
    let l = b.checked.indexed.listed (get_or w q 0) b.letter in
    record {
      bucket = b;
      low = omega arith;
      high = omega (arith, b.first, b.last);
      most = omega (arith, b.first, b.last);
      none = λ i x y. absurd (omega arith);
      start = λ x. refl;
      same = λ x. absurd (omega arith);
    }

module _ (text table : List ℕ) (n : ℕ) (w : Word) (q from to j m : ℕ) (s : Seeking text table n w q from to j m) where
  pub seek_turn : j < to → Turn text table w q from j m
  seek_turn h =
      record {
        number = n;
        checked = s.bucket.checked;
        low = s.low;
        known = omega (arith, s.most);
        none = λ x. s.none (j - 1) (omega arith) (omega arith);
        start = s.start;
        same = s.same;
      }

  pub seek_none : to ≤ j → n ≡ relation_prefix_at (words_in text table n) w q
  seek_none h = none_found text table n s.bucket.checked w q none
    where
      none : (k : ℕ) → k < n → is_prefix (xy_of (words_in text table n) k) (drop q w) ≡ true → ⊥
      none k l e =
          let c = stands_letter text table n s.bucket.checked w q k l e in
          let f = s.bucket.checked.indexed.found k l in
          let f1 : from ≤ f.0 = rw (s.bucket.first, ← c) f.1 in
          let f2 : f.0 < to = rw (s.bucket.last, ← c) f.2 in
          let z = s.none f.0 f1 (omega arith) in
          true≢false (sym e ∙ rw f.3 at z)

  module _ (h : j < to) (x : Meeting) (e : x ≡ met_at text table (order_of table j) (drop q w)) where
    met_word : x ≡ met_of (words_in text table n) (order_of table j) (drop q w)
    met_word = e ∙ met_at_lem text table n s.bucket.checked (order_of table j) (s.bucket.checked.indexed.known j (omega (arith, s.most))) (drop q w)

    pub seek_found : (k : ℕ) → x ≡ Here k → k ≡ relation_prefix_at (words_in text table n) w q
    seek_found k f =
        let p = met_here (words_in text table n) (order_of table j) k (drop q w) (sym f ∙ met_word) in
        let y = s.bucket.checked.indexed.known j (omega (arith, s.most)) in
        let l = words_length text table n in
        p.0 ∙ found_one (words_in text table n) (checked_rigid text table n s.bucket.checked) w q (order_of table j) (omega arith) p.1

    pub seek_more : (l : ℕ) → x ≡ Past l → Seeking text table n w q from to (j + 1) l
    seek_more l f =
        let p = met_past (words_in text table n) (order_of table j) l (drop q w) (sym f ∙ met_word) in
        record {
          bucket = s.bucket;
          low = omega (arith, s.low);
          high = omega arith;
          most = s.most;
          none = λ i a b. by_cases (dec_lt i j) (λ c. s.none i a c)
              (λ c. subst (λ (k : ℕ). is_prefix (xy_of (words_in text table n) (order_of table k)) (drop q w) ≡ false) (omega arith) p.1);
          start = λ a. absurd (omega (arith, s.low));
          same = λ a. let z : j + 1 - 1 ≡ j = omega arith in rw z p.0;
        }

pub ruleset seeks = (seek_start, seek_turn, seek_none, seek_found, seek_more, rules)

-- the letter at place q says where to look
module _ (text table : List ℕ) (n : ℕ) (w : Word) (q c : ℕ) (g : AtLetter text table n w q c) where
  pub letter_high : letters_bound ≤ c → n ≡ relation_prefix_at (words_in text table n) w q
  letter_high h =
      none_found text table n g.checked w q
      (λ k l e.
      let z = stands_letter text table n g.checked w q k l e in
      let b = g.checked.laid.letters k (start_of table k) l (omega arith) (g.checked.laid.some k l) in
      omega (arith, g.letter))

  pub letter_low : c < letters_bound → first_cell c < length table
  letter_low h = omega (arith, g.checked.indexed.room)

  pub letter_next : c < letters_bound → first_cell (c + 1) < length table
  letter_next h = omega (arith, g.checked.indexed.room)

  pub letter_bucket : c < letters_bound → (from : ℕ) → from ≡ first_of table c → (to : ℕ) → to ≡ first_of table (c + 1) → Bucket text table n w q from to
  letter_bucket h from e to f =
      let l = g.letter in
      record { checked = g.checked; placed = g.placed; letter = omega arith; first = e ∙ ap (first_of table) l; last = f ∙ ap (λ i. first_of table (i + 1)) l }

pub ruleset unders = (letter_high, letter_low, letter_next, letter_bucket, rules)

-- the word has a letter at place q, or it has none
module _ (text table : List ℕ) (n : ℕ) (g : Checked text table n) (a b : Word) (q : ℕ) (r : Bool) (e : r ≡ has_place (a ++ b) q) where
  pub no_place : r ≡ false → n ≡ relation_prefix_at (words_in text table n) (a ++ b) q
  unfolding has_place
  no_place f =
      let p = ltb-false q (length (a ++ b)) (sym e ∙ f) in
      none_found text table n g (a ++ b) q (λ k l d. let z = stands_placed text table n g (a ++ b) q k l d in omega arith)

  pub a_place : r ≡ true → (x : ℕ) → x ≡ get_or (a ++ b) q 0 → (c : ℕ) → c ≡ x → AtLetter text table n (a ++ b) q c
  unfolding has_place
  a_place f x d c i = record { checked = g; placed = ltb-true q (length (a ++ b)) (sym e ∙ f); letter = i ∙ d }

pub place_fits : (a b : Word) (q : ℕ) (r : Bool) → r ≡ has_place (a ++ b) q → r ≡ true → q < length a + length b
unfolding has_place
place_fits a b q r e f =
    let p = ltb-true q (length (a ++ b)) (sym e ∙ f) in
    let l = length-append a b in
    omega arith

pub ruleset places = (no_place, a_place, place_fits, rules)
