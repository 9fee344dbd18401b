-- A relation word is inserted: words are compared where they part, and a word that takes its place moves others and loses none.
use Prim.Native.Nat.{ℕ, ◌+◌, ◌*◌, ◌-◌, ◌^◌, ◌≤◌, ◌<◌}
use mathlib.Core.Bool.{Bool}
use mathlib.Core.List.{List}
use mathlib.Core.Path.{◌≡◌, refl, sym, ap, ◌∙◌, subst}
use mathlib.Core.Logic.{by_cases}
use native.Mathlib.Omega.{arith}
use native.Mathlib.Decide.{dec_lt, ℕ_discrete}
use lib.Dec.{eqb, ltb}
use borrow.Author.Rules.{rules}
use borrow.Author.Tests.{eq-eqb}
use lib.ListN.{length, get_or, drop, set, length-set, length-drop}
use lib.Seq.{get_or-set_other, get_or-set_same, get_or-drop}
use mir.Syntax.{w64}
use mir.Val.{Fits}
use Rattle.words.specs.Words.{common_prefix, part}
use Rattle.words.proofs.Parts.{part_length, part_at}
use Rattle.words.proofs.Commons.{common_within, common_at, common_differ, common_is}
use Rattle.layout.specs.Places.{words_most, start_cell, end_cell, first_cell, order_cell, table_room}
use Rattle.layout.specs.Layout.{start_of, end_of, word_at, order_of, Laid, WordPair}
use Rattle.layout.proofs.Placed.{end_inside, row_inside, word_span}
use Rattle.joined.specs.Joined.{Agreed}
use Rattle.insertion.specs.Inserting.{first_letter, count, earlier, before_listed, SamePositions, Inserting, Movable, MovedUp, Lists, NextOfLetter, Gathered}
use Rattle.insertion.proofs.Counting.{count_bound, count_up, count_same, count_yes, count_split}
use Rattle.insertion.proofs.Keeping.{start_kept, laid_kept}

-- relation word k in the text behind its start: its fence ends what another word has in common with it
fence_common : (text table : List ℕ) (n : ℕ) → Laid text table n → (h k : ℕ) → h < n → k < n
    → common_prefix (word_at text table h) (drop (start_of table k) text) ≡ common_prefix (word_at text table h) (word_at text table k)
fence_common text table n l h k x y =
    let a = word_at text table h in
    let b = word_at text table k in
    let la = part_length text (start_of table h) (end_of table h) (word_span text table n l h x).inside in
    let lb = part_length text (start_of table k) (end_of table k) (word_span text table n l k y).inside in
    let w = common_within a b in
    let d = length-drop (start_of table k) text in
    let i = end_inside text table n l k y in
    let s = l.some k y in
    common_is a (drop (start_of table k) text) (common_prefix a b) (omega arith) (omega arith)
    (λ j c. common_at a b j c ∙ part_at text (start_of table k) (end_of table k) j (omega arith) ∙ sym (get_or-drop (start_of table k) text j 0))
    (λ c e f.
    let m = common_prefix a b in
    let u : get_or a m 0 ≡ get_or text (start_of table h + m) 0 = part_at text (start_of table h) (end_of table h) m (omega arith) in
    let v : get_or (drop (start_of table k) text) m 0 ≡ get_or text (start_of table k + m) 0 = get_or-drop (start_of table k) text m 0 in
    let o = l.letters h (start_of table h + m) x (omega arith) (omega arith) in
    by_cases (dec_lt m (length b))
    (λ z. common_differ a b c z (f ∙ v ∙ sym (part_at text (start_of table k) (end_of table k) m (omega arith))))
    (λ z.
    let q : start_of table k + m ≡ end_of table k = omega arith in
    let g = ap (λ j. get_or text j 0) q in
    let t = l.fence k y in
    omega arith))

-- the two words that are compared
module _ (text table : List ℕ) (h k : ℕ) (g : WordPair text table h k) where
  pub pair_end : end_cell h < length table
  pair_end = row_inside text table g.number g.laid h g.first

  pub pair_first : start_cell h < length table
  pair_first = omega (arith, pair_end)

  pub pair_second : start_cell k < length table
  pair_second = let r = row_inside text table g.number g.laid k g.second in omega (arith, r)

  module _ (from : ℕ) (e : from ≡ start_of table h) (to : ℕ) (f : to ≡ end_of table h) (q : ℕ) (d : q ≡ start_of table k) where
    pub pair_agreed : Agreed text from to text q 0
    pair_agreed = rw (e, f) (record { span = word_span text table g.number g.laid h g.first; passed = omega arith })

    pub pair_common : (r : ℕ) → r ≡ common_prefix (part text from to) (drop q text) → r ≡ common_prefix (word_at text table h) (word_at text table k)
    pair_common r c = c ∙ rw (e, f, d) (fence_common text table g.number g.laid h k g.first g.second)

  -- where they part, a letter or a fence of each stands in the text
  module _ (m : ℕ) (c : m ≡ common_prefix (word_at text table h) (word_at text table k)) where
    parts : (start_of table h + m < length text) × (start_of table k + m < length text)
    parts =
        let w = common_within (word_at text table h) (word_at text table k) in
        let a = word_span text table g.number g.laid h g.first in
        let b = word_span text table g.number g.laid k g.second in
        let la = part_length text (start_of table h) (end_of table h) a.inside in
        let lb = part_length text (start_of table k) (end_of table k) b.inside in
        let x = end_inside text table g.number g.laid h g.first in
        let y = end_inside text table g.number g.laid k g.second in
        omega arith

    pub parts_first : (from : ℕ) → from ≡ start_of table h → from + m < length text
    parts_first from e = let p = parts in omega arith

    pub parts_first_fits : (from : ℕ) → from ≡ start_of table h → length text < 2 ^ 64 → Fits w64 (from + m)
    parts_first_fits from e f = let p = parts in record { fits = omega arith }

    pub parts_second_fits : (to : ℕ) → to ≡ start_of table k → length text < 2 ^ 64 → Fits w64 (to + m)
    parts_second_fits to e f = let p = parts in record { fits = omega arith }

    pub parts_second : (to : ℕ) → to ≡ start_of table k → to + m < length text
    parts_second to e = let p = parts in omega arith

    pub parts_earlier : (from : ℕ) → from ≡ start_of table h → (to : ℕ) → to ≡ start_of table k → ltb (get_or text (from + m) 0) (get_or text (to + m) 0) ≡ earlier text table h k
    unfolding earlier
    parts_earlier from e to f = rw (e, f, c)

pub ruleset pairs = (pair_end, pair_first, pair_second, pair_agreed, pair_common, parts_first, parts_second, parts_first_fits, parts_second_fits, parts_earlier, rules)

-- a word seeks its place
module _ (text table : List ℕ) (i k : ℕ) (g : Inserting text table i k) where
  pub insert_order : order_cell (i - 1) < length table
  insert_order = omega (arith, g.place, g.room)

  module _ (h : ℕ) (e : h ≡ order_of table (i - 1)) where
    pub insert_pair : WordPair text table k h
    insert_pair = record { number = g.number; laid = g.laid; first = g.known; second = omega (arith, g.before) }

    pub insert_earlier : (r : Bool) → r ≡ earlier text table k h → r ≡ before_listed text table i k
    insert_earlier r f = rw (← e) f

pub ruleset insertings = (insert_order, insert_pair, insert_earlier, rules)

-- a place is left for a word that is to be listed
pub place_left : (text t : List ℕ) (n c from j k : ℕ) → NextOfLetter text t n c from j k → (from ≤ j) × (j < n)
place_left text t n c from j k g =
    let p : ℕ → Bool = λ i. eqb (first_letter text t i) c in
    let a = count_yes p k (eq-eqb (first_letter text t k) c g.begins) in
    let u = count_up p (k + 1) (n - (k + 1)) in
    let z : k + 1 + (n - (k + 1)) ≡ n = omega (arith, g.known) in
    let u' = subst (λ (i : ℕ). count p (k + 1) ≤ count p i) z u in
    let s = count_split (first_letter text t) c n in
    let b = count_bound (λ i. ltb (first_letter text t i) (c + 1)) n in
    omega (arith, g.gathering.counted, g.gathering.lists.counted)

-- what is listed below place `from` is kept where nothing changes but what is behind it
module _ (text t u : List ℕ) (n c from : ℕ) (l : Lists text t n c from) (long : length u ≡ length t) (same : (p : ℕ) → p < order_cell from → get_or u p 0 ≡ get_or t p 0) where
  pub kept_below : SamePositions t u
  kept_below = record { long = long; same = λ i h. same i (omega arith) }

  letter_kept : (i : ℕ) → i < n → first_letter text u i ≡ first_letter text t i
  letter_kept i h = ap (λ a. get_or text a 0) (start_kept t u kept_below i (omega (arith, l.laid.few)))

  pub lists_kept : Lists text u n c from
  lists_kept =
      record {
        laid = laid_kept t u kept_below text n l.laid;
        room = long ∙ l.room;
        letters = l.letters;
        counted = l.counted ∙ count_same _ _ n (λ i h. rw (letter_kept i h));
        last = same (first_cell c) (omega (arith, l.letters)) ∙ l.last;
        listed = λ x h.
            let a = same (first_cell x) (omega (arith, l.letters)) in
            let b = same (first_cell (x + 1)) (omega (arith, l.letters)) in
            let e = l.listed x h in
            omega arith;
        known = λ i h. let a = same (order_cell i) (omega arith) in let b = l.known i h in omega arith;
        found = λ k h d.
            let e = letter_kept k h in
            let d' : first_letter text t k < c = omega arith in
            let f = l.found k h d' in
            let b = l.listed (first_letter text t k) d' in
            let x = same (first_cell (first_letter text t k)) (omega (arith, l.letters)) in
            let y = same (first_cell (first_letter text t k + 1)) (omega (arith, l.letters)) in
            rw e (f.0, omega (arith, f.1), omega (arith, f.2), same (order_cell f.0) (omega (arith, f.2)) ∙ f.3);
      }

-- a word is moved up
module _ (t : List ℕ) (i : ℕ) (g : Movable t i) where
  pub move_down : 1 ≤ i
  move_down = g.some

  pub move_read : order_cell (i - 1) < length t
  move_read = omega (arith, g.room)

  pub move_place : order_cell i < length t
  move_place = g.room

  module _ (h : ℕ) (e : h ≡ order_of t (i - 1)) where
    pub move_done : (v : ℕ) → v ≡ h → MovedUp t i (set t (order_cell i) v)
    move_done v f = record { some = g.some; same = rw (f, e) }

pub ruleset moves = (move_down, move_read, move_place, move_done, rules)

-- place i is free: the words listed from it on are moved up by one place
pub record Shifting (text t₀ t : List ℕ) (n c from j k i : ℕ) : Type 0 where
  pub base : NextOfLetter text t₀ n c from j k
  pub low : from ≤ i
  pub high : i ≤ j
  pub long : length t ≡ length t₀
  pub same : (p : ℕ) → p < order_cell i → get_or t p 0 ≡ get_or t₀ p 0
  pub moved : (p : ℕ) → i < p → p ≤ j → order_of t p ≡ order_of t₀ (p - 1)

pub shift_start : (text t : List ℕ) (n c from j k : ℕ) → NextOfLetter text t n c from j k → Shifting text t t n c from j k j
shift_start text t n c from j k g =
    let r = place_left text t n c from j k g in
    record { base = g; low = omega arith; high = omega arith; long = refl; same = λ p h. refl; moved = λ p h l. absurd (omega arith) }

module _ (text t₀ t : List ℕ) (n c from j k i : ℕ) (s : Shifting text t₀ t n c from j k i) where
  room_here : (j < n) × (n ≤ words_most) × (length t ≡ table_room)
  room_here =
      let r = place_left text t₀ n c from j k s.base in
      (r.1, s.base.gathering.lists.laid.few, s.long ∙ s.base.gathering.lists.room)

  below_same : SamePositions t₀ t
  below_same = record { long = s.long; same = λ p h. s.same p (omega arith) }

  pub shift_inserting : from < i → Inserting text t i k
  shift_inserting h =
      let r = room_here in
      let a = s.same (order_cell (i - 1)) (omega arith) in
      let b = s.base.gathering.known (i - 1) (omega arith) (omega (arith, s.high)) in
      record {
        number = n;
        laid = laid_kept t₀ t below_same text n s.base.gathering.lists.laid;
        room = r.2;
        some = omega arith;
        place = omega (arith, s.high);
        known = s.base.known;
        before = omega arith;
      }

  pub shift_place : order_cell i < length t
  shift_place = let r = room_here in omega (arith, s.high)

  pub shift_fits : Fits w64 (order_cell i)
  shift_fits = let r = room_here in record { fits = omega (arith, s.high) }

  pub shift_scaled : Fits w64 (order_cell i * 2)
  shift_scaled = let r = room_here in record { fits = omega (arith, s.high) }

  pub shift_number : k < 65536
  shift_number = let r = room_here in omega (arith, s.base.known)

  module _ (above : from < i) where
    pub shift_movable : Movable t i
    shift_movable =
        let b = s.same (order_cell (i - 1)) (omega arith) in
        let c = s.base.gathering.known (i - 1) (omega arith) (omega (arith, s.high)) in
        let d = room_here in
        record { some = omega arith; room = shift_place; small = omega arith }

    moved_up : Shifting text t₀ (set t (order_cell i) (order_of t (i - 1))) n c from j k (i - 1)
    moved_up =
        let b = shift_place in
        record {
          base = s.base;
          low = omega arith;
          high = omega (arith, s.high);
          long = length-set t (order_cell i) (order_of t (i - 1)) ∙ s.long;
          same = λ p l. get_or-set_other t (order_cell i) p (order_of t (i - 1)) 0 (λ z. omega arith) ∙ s.same p (omega arith);
          moved = λ p l u.
              by_cases (ℕ_discrete p i)
              (λ z.
              subst (λ (v : ℕ). order_of (set t (order_cell i) (order_of t (i - 1))) v ≡ order_of t₀ (v - 1)) (sym z)
              (get_or-set_same t (order_cell i) (order_of t (i - 1)) 0 b ∙ s.same (order_cell (i - 1)) (omega arith)))
              (λ z. get_or-set_other t (order_cell i) (order_cell p) (order_of t (i - 1)) 0 (λ q. z (omega arith)) ∙ s.moved p (omega arith) u);
        }

    pub shift_more : (u : List ℕ) → MovedUp t i u → Shifting text t₀ u n c from j k (i - 1)
    shift_more u m = rw m.same moved_up

  -- k takes the free place
  at_free : order_of (set t (order_cell i) k) i ≡ k
  at_free = get_or-set_same t (order_cell i) k 0 shift_place

  at_below : (p : ℕ) → p < i → order_of (set t (order_cell i) k) p ≡ order_of t₀ p
  at_below p h = get_or-set_other t (order_cell i) (order_cell p) k 0 (λ z. omega arith) ∙ s.same (order_cell p) (omega arith)

  at_above : (p : ℕ) → i < p → p ≤ j → order_of (set t (order_cell i) k) p ≡ order_of t₀ (p - 1)
  at_above p h l = get_or-set_other t (order_cell i) (order_cell p) k 0 (λ z. omega arith) ∙ s.moved p h l

  below_free : (p : ℕ) → p < order_cell from → get_or (set t (order_cell i) k) p 0 ≡ get_or t₀ p 0
  below_free p h = get_or-set_other t (order_cell i) p k 0 (λ z. omega (arith, s.low)) ∙ s.same p (omega (arith, s.low))

  long_free : length (set t (order_cell i) k) ≡ length t₀
  long_free = length-set t (order_cell i) k ∙ s.long

  known_free : (p : ℕ) → from ≤ p → p < j + 1 → order_of (set t (order_cell i) k) p < n
  known_free p h l =
      by_cases (dec_lt p i)
      (λ a. let e = at_below p a in let b = s.base.gathering.known p h (omega (arith, s.high)) in omega arith)
      (λ a.
      by_cases (ℕ_discrete p i)
      (λ b.
      let e = ap (order_of (set t (order_cell i) k)) b in
      let f = at_free in
      omega (arith, s.base.known))
      (λ b. let e = at_above p (omega arith) (omega arith) in let d = s.base.gathering.known (p - 1) (omega (arith, s.low)) (omega arith) in omega arith))

  found_free : (v : ℕ) → v < k + 1 → first_letter text t₀ v ≡ c → (p : ℕ) × (from ≤ p) × (p < j + 1) × (order_of (set t (order_cell i) k) p ≡ v)
  found_free v h e =
      by_cases (ℕ_discrete v k)
      (λ z. (i, s.low, omega (arith, s.high), at_free ∙ sym z))
      (λ z.
      let f = s.base.gathering.found v (omega arith) e in
      by_cases (dec_lt f.0 i)
      (λ a. (f.0, f.1, omega (arith, f.2), at_below f.0 a ∙ f.3))
      (λ a.
      let y : f.0 + 1 - 1 ≡ f.0 = omega arith in
      (f.0 + 1, omega (arith, f.1), omega (arith, f.2), at_above (f.0 + 1) (omega arith) (omega (arith, f.2)) ∙ ap (order_of t₀) y ∙ f.3)))

  placed_free : Gathered text t₀ n c from (k + 1) (set t (order_cell i) k) (j + 1)
  placed_free =
      let g = s.base.gathering in
      let l = letter_kept text t₀ (set t (order_cell i) k) n c from g.lists long_free below_free in
      let p : ℕ → Bool = λ v. eqb (first_letter text t₀ v) c in
      let a = count_yes p k (eq-eqb (first_letter text t₀ k) c s.base.begins) in
      let b = count_same p (λ v. eqb (first_letter text (set t (order_cell i) k) v) c) (k + 1) (λ v h. rw (l v (omega (arith, s.base.known)))) in
      record {
        kept = kept_below text t₀ (set t (order_cell i) k) n c from g.lists long_free below_free;
        gathering = record {
          lists = lists_kept text t₀ (set t (order_cell i) k) n c from g.lists long_free below_free;
          letter = g.letter;
          within = omega (arith, s.base.known);
          counted = omega (arith, g.counted);
          known = known_free;
          found = λ v h e. found_free v h (sym (l v (omega (arith, s.base.known))) ∙ e);
        };
      }

  pub shift_end : (v : ℕ) → v ≡ k → Gathered text t₀ n c from (k + 1) (set t (order_cell i) v) (j + 1)
  shift_end v e = rw e placed_free

pub ruleset shifts = (shift_start, shift_inserting, shift_place, shift_fits, shift_scaled, shift_number, shift_movable, shift_more, shift_end, rules)
