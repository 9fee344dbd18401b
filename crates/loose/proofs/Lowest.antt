-- The lowest relation word that is a product of three or fewer pieces: the loop, and what the table of longest pieces says of the words.
use Prim.Native.Nat.{ℕ, ◌+◌, ◌-◌, ◌<◌, ◌≤◌}
use mathlib.Core.Bool.{Bool, true, false, ◌&&◌}
use mathlib.Core.List.{List}
use mathlib.Core.Logic.{by_cases}
use mathlib.Core.Path.{◌≡◌, sym, ap, ◌∙◌, subst}
use native.Mathlib.Omega.{arith}
use native.Mathlib.Decide.{dec_le}
use borrow.Author.Rules.{rules}
use borrow.Author.Tests.{lt-leb}
use lib.Dec.{leb}
use lib.ListN.{length}
use Rattle.words.proofs.Searching.{NoneBelow, none_start, none_more, any_same, least_is, least_none, least_same}
use Rattle.overlap.specs.Cuts.{piece_at, three, loose, first_loose}
use Rattle.layout.specs.Places.{word_most, start_cell, end_cell}
use Rattle.layout.specs.Layout.{words_in, start_of, end_of}
use Rattle.layout.proofs.Placed.{words_length, word_length, end_before}
use Rattle.longest.specs.Longest.{Space, Tabled}
use Rattle.loose.specs.Pieces.{held, Covered, Fenced, InTables, AllInTables, loose_by, lowest_loose, Measurable, Measured}
use Rattle.loose.proofs.Fences.{longest_inside, text_bounded, text_short, piece_longest}

-- one word

module _ (longest table : List ℕ) (i : ℕ) (f : InTables longest table i) where
  pub cells_start : start_cell i < length table
  cells_start = let r = f.room in omega (arith, r)

  pub length_small : (end_cell i < length table) × (start_of table i ≤ end_of table i) × (end_of table i ≤ start_of table i + word_most)
  length_small = (f.room, f.upwards, f.long)

  module _ (s n : ℕ) (d : s ≡ start_of table i) (e : n ≡ end_of table i - start_of table i) where
    pub covered_here : Covered longest s n × (n ≤ word_most)
    covered_here =
        let u = f.upwards in
        let k = f.inside in
        let l = f.long in
        (record { inside = omega (arith, d, e, u, k) }, omega (arith, e, l))

    pub loose_here : (r : Bool) → r ≡ three (held longest s) n → r ≡ loose_by longest table i
    unfolding loose_by
    loose_here r h = h ∙ rw (d, e)

pub ruleset loosing = (cells_start, length_small, covered_here, loose_here, rules)

-- the loop over the words

pub record Seeking (longest table : List ℕ) (n i : ℕ) : Type 0 where
  pub placed : AllInTables longest table n
  pub upto : i ≤ n
  pub none : NoneBelow (loose_by longest table) i

pub seek_start : (longest table : List ℕ) (n : ℕ) → AllInTables longest table n → Seeking longest table n 0
seek_start longest table n f = record { placed = f; upto = omega arith; none = none_start _ }

module _ (longest table : List ℕ) (n i : ℕ) (s : Seeking longest table n i) where
  pub seek_tables : i < n → InTables longest table i
  seek_tables h = s.placed.each i h

  module _ (h : i < n) (r : Bool) (e : r ≡ loose_by longest table i) where
    pub seek_more : r ≡ false → Seeking longest table n (i + 1)
    seek_more t = record { placed = s.placed; upto = omega (arith, h); none = none_more _ i s.none (sym e ∙ t) }

    pub seek_found : r ≡ true → i ≡ lowest_loose longest table n
    unfolding lowest_loose
    seek_found t = sym (least_is n (loose_by longest table) i h s.none (sym e ∙ t))

  pub seek_end : n ≤ i → n ≡ lowest_loose longest table n
  unfolding lowest_loose
  seek_end h =
      let e : i ≡ n = omega (arith, h, s.upto) in
      sym (least_none n (loose_by longest table) (subst (λ (k : ℕ). NoneBelow (loose_by longest table) k) e s.none))

pub ruleset seeking = (seek_start, seek_tables, seek_more, seek_found, seek_end, rules)

three_same : (f g : ℕ → ℕ → Bool) (n : ℕ) → ((a m : ℕ) → a + m ≤ n → f a m ≡ g a m) → three f n ≡ three g n
unfolding three
three_same f g n h =
    any_same (n + 1) _ _ (λ a l. rw (h 0 a (omega (arith, l))) (ap (g 0 a &&◌) (any_same (n + 1) _ _ (λ b k. by_cases (dec_le a b)
    (λ c. rw (h a (b - a) (omega (arith, c, k)), h b (n - b) (omega (arith, k))))
    (λ c. rw (lt-leb a b (omega (arith, c))))))))

-- the table of longest pieces judges the relation words of the text
module _ (text table longest : List ℕ) (n : ℕ) (f : Fenced text table n) (t : Tabled text longest) where
  pub held_piece : (i a m : ℕ) → i < n → start_of table i + a + m ≤ end_of table i → held longest (start_of table i) a m ≡ piece_at (words_in text table n) i a m
  held_piece i a m h u =
      let w = f.whole in
      let g = end_before text table n f.laid i h in
      ap (leb m) (t.at (start_of table i + a) (omega (arith, u, g, w))) ∙ sym (piece_longest text table n f i a m h u)

  pub loose_table : (i : ℕ) → i < n → loose_by longest table i ≡ loose (words_in text table n) i
  unfolding loose_by loose
  loose_table i h =
      let l = word_length text table n f.laid i h in
      let s = f.laid.some i h in
      rw l (three_same (held longest (start_of table i)) (piece_at (words_in text table n) i) (end_of table i - start_of table i) (λ a m u. held_piece i a m h (omega (arith, u, s))))

  pub lowest_table : lowest_loose longest table n ≡ first_loose (words_in text table n)
  unfolding lowest_loose first_loose
  lowest_table = rw (words_length text table n) (least_same n (loose_by longest table) (loose (words_in text table n)) loose_table)

  pub all_in_tables : AllInTables longest table n
  all_in_tables = record {
    few = f.laid.few;
    each = λ i h.
        let w = f.whole in
        let g = end_before text table n f.laid i h in
        let s = f.laid.some i h in
        let r = f.laid.room in
        let k = text_short text table n f in
        let o = t.room in
        record {
          room = omega (arith, h, r);
          pieces = omega (arith, h, f.laid.few, f.laid.wide);
          upwards = omega (arith, s);
          inside = omega (arith, g, w, o);
          short = omega (arith, g, w, k);
          long = f.laid.short i h;
          within = λ p l u.
              let e = t.at p (omega (arith, u, g, w)) in
              let c = longest_inside text table n f i p h l u in
              omega (arith, e, c, u);
        };
  }

module _ (text table : List ℕ) (n : ℕ) (longest : List ℕ) (m : Measurable text table n longest) where
  pub measure_space : Space text longest
  measure_space =
      let k = text_short text table n m.fenced in
      record { bounded = text_bounded text table n m.fenced; short = k; room = omega (arith, k, m.room) }

  module _ (longest' : List ℕ) (t : Tabled text longest') where
    pub measure_tables : AllInTables longest' table n
    measure_tables = all_in_tables text table longest' n m.fenced t

    pub measured : (r : ℕ) → r ≡ lowest_loose longest' table n → Measured text table n longest' r
    measured r e = record { tabled = t; lowest = e ∙ lowest_table text table longest' n m.fenced t }

pub ruleset measuring = (measure_space, measure_tables, measured, rules)
