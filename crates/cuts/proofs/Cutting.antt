-- The cuts of the relation words and their numbers of pieces: the loops that set them, and that they are the definition's.
use Prim.Native.Nat.{ℕ, ◌+◌, ◌-◌, ◌<◌, ◌≤◌}
use mathlib.Core.Bool.{Bool, true, false}
use mathlib.Core.List.{List}
use mathlib.Core.Logic.{by_cases}
use mathlib.Core.Path.{◌≡◌, refl, sym, ap, ◌∙◌, subst}
use native.Mathlib.Omega.{arith}
use native.Mathlib.Decide.{ℕ_discrete}
use borrow.Author.Rules.{rules}
use borrow.Author.Tests.{le-leb, lt-leb}
use lib.Dec.{leb}
use lib.ListN.{length, get_or, set, length-set}
use lib.Seq.{get_or-set_same, get_or-set_other}
use Rattle.words.specs.Search.{greatest}
use Rattle.words.proofs.Searching.{greatest_bound, greatest_is, greatest_same}
use Rattle.overlap.specs.Cuts.{len, piece_at, xlen, zlen}
use Rattle.overlap.specs.Counts.{number, fewest, longest_piece, piece_count}
use Rattle.overlap.proofs.Reaching.{fewest_same}
use Rattle.layout.specs.Places.{words_most, word_most, text_room, start_cell, x_end_cell, z_start_cell, pieces_cell, end_cell}
use Rattle.layout.specs.Layout.{Laid, Cut, words_in, start_of, x_end_of, z_start_of, pieces_of, end_of}
use Rattle.layout.proofs.Placed.{word_length, end_before, words_of_places, laid_of_places}
use Rattle.longest.specs.Longest.{longest_at, Tabled}
use Rattle.loose.specs.Pieces.{held, CutPoints, Fenced, InTables, AllInTables}
use Rattle.cuts.specs.Cutting.{x_by, tail_by, z_by, cut_word, Tail, OnlyCuts, CutBy}
use Rattle.loose.proofs.Fences.{longest_inside, piece_longest}
use Rattle.loose.proofs.Lowest.{cells_start, length_small}
use Rattle.products.specs.Products.{piece_by, number_from, number_by}

-- the search for the start of Z, by its place in the word: the place is at most 64, and the loop is left with it at the word's length

pub record Tailing (longest : List ℕ) (start n a : ℕ) : Type 0 where
  pub tail : Tail longest start (start + n)
  pub short : n ≤ word_most
  pub upto : a ≤ n
  pub none : (m : ℕ) → n - a < m → m ≤ n → leb m (get_or longest (start + n - m) 0) ≡ false

pub tail_first : (longest : List ℕ) (start n : ℕ) → Tail longest start (start + n) × (n ≤ word_most) → Tailing longest start n 0
tail_first longest start n t = record { tail = t.0; short = t.1; upto = omega arith; none = λ m l u. absurd (omega (arith, l, u)) }

module _ (longest : List ℕ) (start n a : ℕ) (s : Tailing longest start n a) where
  tail_is : (0 < n - a → leb (n - a) (get_or longest (start + n - (n - a)) 0) ≡ true) → a ≡ n - tail_by longest start (start + n)
  unfolding tail_by
  tail_is y =
      let h = s.upto in
      let e = greatest_is (start + n - start) (λ m. leb m (get_or longest (start + n - m) 0)) (n - a) (omega arith) y (λ m l u. s.none m l (omega (arith, u))) in
      omega (arith, e, h)

  module _ (h : a < n) where
    pub tail_asked : CutPoints longest start n a n × (n ≤ word_most)
    tail_asked = (record { inside = s.tail.inside; low = omega (arith, h); high = omega arith }, s.short)

    module _ (r : Bool) (e : r ≡ held longest start a (n - a)) where
      here : leb (n - a) (get_or longest (start + n - (n - a)) 0) ≡ r
      here = ap (λ k. leb (n - a) (get_or longest k 0)) (omega (arith, h)) ∙ sym e

      pub tail_found : r ≡ true → a ≡ n - tail_by longest start (start + n)
      tail_found t = tail_is (λ l. here ∙ t)

      pub tail_more : r ≡ false → Tailing longest start n (a + 1)
      tail_more t =
          record {
            tail = s.tail;
            short = s.short;
            upto = omega (arith, h);
            none = λ m l u. by_cases (ℕ_discrete m (n - a))
                (λ g. subst (λ (k : ℕ). leb k (get_or longest (start + n - k) 0) ≡ false) (sym g) (here ∙ t))
                (λ g. s.none m (omega (arith, l, g, h)) u);
          }

  pub tail_end : n ≤ a → n ≡ n - tail_by longest start (start + n)
  tail_end h = let e : n ≡ a = omega (arith, h, s.upto) in e ∙ tail_is (λ l. absurd (omega (arith, l, h)))

pub ruleset tails = (tail_first, tail_asked, tail_found, tail_more, tail_end, rules)

tail_bound : (longest : List ℕ) (start end : ℕ) → tail_by longest start end ≤ end - start
unfolding tail_by
tail_bound longest start end = greatest_bound (end - start) (λ m. leb m (get_or longest (end - m) 0))

-- the two cuts of a word
module _ (longest table : List ℕ) (i : ℕ) (f : InTables longest table i) (s : ℕ) (d : s ≡ start_of table i) where
  pub start_inside : s < length longest
  start_inside = let u = f.upwards in let k = f.inside in omega (arith, d, u, k)

  pub start_short : s ≤ text_room
  start_short = let u = f.upwards in let k = f.short in omega (arith, d, u, k)

  pub x_short : get_or longest s 0 ≤ word_most
  x_short =
      let w = f.within (start_of table i) (omega arith) f.upwards in
      let l = f.long in
      let c = ap (λ j. get_or longest j 0) d in
      omega (arith, c, w, l)

  pub x_here : (r : ℕ) → r ≡ s + get_or longest s 0 → r ≡ x_by longest table i
  unfolding x_by
  x_here r h = h ∙ rw d

  module _ (n : ℕ) (e : n ≡ end_of table i - start_of table i) where
    pub tail_here : Tail longest s (s + n) × (n ≤ word_most)
    tail_here =
        let u = f.upwards in
        let k = f.inside in
        let l = f.long in
        (record { upwards = omega arith; inside = omega (arith, d, e, u, k) }, omega (arith, e, l))

    module _ (a : ℕ) (h : a ≡ n - tail_by longest s (s + n)) where
      pub z_short : a ≤ word_most
      z_short = let l = f.long in omega (arith, e, h, l)

      pub z_here : (r : ℕ) → r ≡ s + a → r ≡ z_by longest table i
      z_here r c =
          let u = f.upwards in
          let g : s + n ≡ end_of table i = omega (arith, d, e, u) in
          let b = tail_bound longest s (s + n) in
          let t : tail_by longest s (s + n) ≡ tail_by longest (start_of table i) (end_of table i) = rw (g, d) in
          omega (arith, c, h, g, b, t)

pub ruleset ends = (cells_start, length_small, start_inside, start_short, x_short, x_here, tail_here, z_short, z_here, rules)

-- the loop over the words

pub record Cutting (longest table : List ℕ) (n i : ℕ) (b : List ℕ) : Type 0 where
  pub placed : AllInTables longest table n
  pub upto : i ≤ n
  pub long : length b ≡ length table
  pub done : CutBy longest table i b

pub cut_start : (longest table : List ℕ) (n : ℕ) → AllInTables longest table n → Cutting longest table n 0 table
cut_start longest table n p =
    record {
      placed = p;
      upto = omega arith;
      long = refl;
      done = record {
        kept = record { long = refl; starts = λ i h. refl; ends = λ i h. refl; between = λ k h l. refl; beyond = λ k h. refl };
        x_end = λ i h. absurd (omega (arith, h));
        z_start = λ i h. absurd (omega (arith, h));
        pieces = λ i h. absurd (omega (arith, h));
      };
    }

-- three cells are set, of which no two are the same
module _ (b : List ℕ) (k x l z m p : ℕ) (apart : (k < l) × (l < m) × (m < length b)) where
  abbrev pub three_set : List ℕ
  three_set = set (set (set b k x) l z) m p

  pub three_length : length three_set ≡ length b
  three_length = length-set (set (set b k x) l z) m p ∙ length-set (set b k x) l z ∙ length-set b k x

  pub three_other : (j : ℕ) → (j ≡ k → ⊥) → (j ≡ l → ⊥) → (j ≡ m → ⊥) → get_or three_set j 0 ≡ get_or b j 0
  three_other j d e g = get_or-set_other (set (set b k x) l z) m j p 0 g ∙ get_or-set_other (set b k x) l j z 0 e ∙ get_or-set_other b k j x 0 d

  pub three_first : get_or three_set k 0 ≡ x
  three_first =
      get_or-set_other (set (set b k x) l z) m k p 0 (λ g. absurd (omega (arith, g, apart)))
      ∙ get_or-set_other (set b k x) l k z 0 (λ g. absurd (omega (arith, g, apart)))
      ∙ get_or-set_same b k x 0 (omega (arith, apart))

  pub three_second : get_or three_set l 0 ≡ z
  three_second =
      let e = length-set b k x in
      get_or-set_other (set (set b k x) l z) m l p 0 (λ g. absurd (omega (arith, g, apart)))
      ∙ get_or-set_same (set b k x) l z 0 (omega (arith, apart, e))

  pub three_third : get_or three_set m 0 ≡ p
  three_third =
      let e = length-set (set b k x) l z ∙ length-set b k x in
      get_or-set_same (set (set b k x) l z) m p 0 (omega (arith, apart, e))

module _ (longest table : List ℕ) (n i : ℕ) (b : List ℕ) (s : Cutting longest table n i b) where
  start_same : i < n → start_of b i ≡ start_of table i
  start_same h = s.done.kept.starts i (omega (arith, h, s.placed.few))

  end_same : i < n → end_of b i ≡ end_of table i
  end_same h = s.done.kept.ends i (omega (arith, h, s.placed.few))

  pub cut_tables : i < n → InTables longest b i
  cut_tables h =
      let p = s.placed.each i h in
      let d = start_same h in
      let e = end_same h in
      let l = s.long in
      record {
        room = omega (arith, p.room, l);
        pieces = omega (arith, p.pieces, l);
        upwards = omega (arith, p.upwards, d, e);
        inside = omega (arith, p.inside, e);
        short = omega (arith, p.short, e);
        long = omega (arith, p.long, d, e);
        within = λ q a z. let w = p.within q (omega (arith, a, d)) (omega (arith, z, e)) in omega (arith, w, e);
      }

  x_same : i < n → x_by longest b i ≡ x_by longest table i
  unfolding x_by
  x_same h = rw (start_same h)

  z_same : i < n → z_by longest b i ≡ z_by longest table i
  z_same h = rw (start_same h, end_same h)

  number_same : i < n → number_by longest b i ≡ number_by longest table i
  number_same h = rw (start_same h, end_same h)

  -- another word's cells, and those of no cut, are other cells
  pub cut_more : (c : List ℕ) → i < n → c ≡ cut_word longest b i → Cutting longest table n (i + 1) c
  cut_more c h e =
      let p = s.placed.each i h in
      let l = s.long in
      let k = s.done.kept in
      let w = s.placed.few in
      let x = x_by longest b i in
      let z = z_by longest b i in
      let v = number_by longest b i in
      let q : (x_end_cell i < z_start_cell i) × (z_start_cell i < pieces_cell i) × (pieces_cell i < length b) = (omega arith, omega (arith, h, w), omega (arith, p.pieces, l)) in
      let m : length c ≡ length table = rw e (three_length b (x_end_cell i) x (z_start_cell i) z (pieces_cell i) v q ∙ l) in
      let other : (j : ℕ) → (j ≡ x_end_cell i → ⊥) → (j ≡ z_start_cell i → ⊥) → (j ≡ pieces_cell i → ⊥) → get_or c j 0 ≡ get_or b j 0 =
      λ j d f a. rw e (three_other b (x_end_cell i) x (z_start_cell i) z (pieces_cell i) v q j d f a) in
      record {
        placed = s.placed;
        upto = omega (arith, h);
        long = m;
        done = record {
          kept = record {
            long = m;
            starts = λ j t. other (start_cell j) (λ d. absurd (omega (arith, d))) (λ d. absurd (omega (arith, d))) (λ d. absurd (omega (arith, d, t))) ∙ k.starts j t;
            ends = λ j t. other (end_cell j) (λ d. absurd (omega (arith, d))) (λ d. absurd (omega (arith, d))) (λ d. absurd (omega (arith, d, t))) ∙ k.ends j t;
            between = λ j t g.
                other j (λ d. absurd (omega (arith, d, t))) (λ d. absurd (omega (arith, d, t))) (λ d. absurd (omega (arith, d, g)))
                ∙ k.between j (omega (arith, t)) g;
            beyond = λ j t.
                other j (λ d. absurd (omega (arith, d, t, h, w))) (λ d. absurd (omega (arith, d, t, h, w))) (λ d. absurd (omega (arith, d, t)))
                ∙ k.beyond j (omega (arith, t));
          };
          x_end = λ j t. by_cases (ℕ_discrete j i)
              (λ d. ap (x_end_of c) d ∙ rw e (three_first b (x_end_cell i) x (z_start_cell i) z (pieces_cell i) v q) ∙ x_same h ∙ ap (x_by longest table) (sym d))
              (λ d. other (x_end_cell j) (λ a. absurd (omega (arith, a, d))) (λ a. absurd (omega (arith, a))) (λ a. absurd (omega (arith, a, t, h, w)))
              ∙ s.done.x_end j (omega (arith, t, d)));
          z_start = λ j t. by_cases (ℕ_discrete j i)
              (λ d. ap (z_start_of c) d ∙ rw e (three_second b (x_end_cell i) x (z_start_cell i) z (pieces_cell i) v q) ∙ z_same h ∙ ap (z_by longest table) (sym d))
              (λ d. other (z_start_cell j) (λ a. absurd (omega (arith, a))) (λ a. absurd (omega (arith, a, d))) (λ a. absurd (omega (arith, a, t, h, w)))
              ∙ s.done.z_start j (omega (arith, t, d)));
          pieces = λ j t. by_cases (ℕ_discrete j i)
              (λ d. ap (pieces_of c) d ∙ rw e (three_third b (x_end_cell i) x (z_start_cell i) z (pieces_cell i) v q) ∙ number_same h ∙ ap (number_by longest table) (sym d))
              (λ d. other (pieces_cell j) (λ a. absurd (omega (arith, a, h, w))) (λ a. absurd (omega (arith, a, h, w))) (λ a. absurd (omega (arith, a, d)))
              ∙ s.done.pieces j (omega (arith, t, d)));
        };
      }

  pub cut_end : n ≤ i → CutBy longest table n b
  cut_end h = subst (λ (k : ℕ). CutBy longest table k b) (omega (arith, h, s.upto)) s.done

pub ruleset cuts = (cut_start, cut_tables, cut_more, cut_end, rules)

-- tables that differ in cuts and numbers of pieces alone have the same relation words, and they stay laid out
module _ (text table after : List ℕ) (n : ℕ) (k : OnlyCuts table n after) where
  pub words_kept : n ≤ words_most → words_in text after n ≡ words_in text table n
  words_kept w = words_of_places text table after n (λ i h. k.starts i (omega (arith, h, w))) (λ i h. k.ends i (omega (arith, h, w)))

  pub laid_kept : Laid text table n → Laid text after n
  laid_kept f =
      let w = f.few in
      laid_of_places text table after n (λ i h. k.starts i (omega (arith, h, w))) (λ i h. k.ends i (omega (arith, h, w))) k.long f

-- the cuts and the numbers of pieces by the table of longest pieces are those of the relation words
module _ (text table longest : List ℕ) (n : ℕ) (f : Fenced text table n) (t : Tabled text longest) (i : ℕ) (h : i < n) where
  -- the table's entry at place a of the word
  entry_here : (a : ℕ) → a ≤ end_of table i - start_of table i → get_or longest (start_of table i + a) 0 ≡ longest_at text (start_of table i + a)
  entry_here a u =
      let w = f.whole in
      let g = end_before text table n f.laid i h in
      let s = f.laid.some i h in
      t.at (start_of table i + a) (omega (arith, u, s, g, w))

  entry_inside : (a : ℕ) → a ≤ end_of table i - start_of table i → longest_at text (start_of table i + a) ≤ end_of table i - start_of table i - a
  entry_inside a u =
      let s = f.laid.some i h in
      let c = longest_inside text table n f i (start_of table i + a) h (omega arith) (omega (arith, u, s)) in
      omega (arith, c)

  -- the longest piece at place a
  piece_here : (a : ℕ) → a ≤ end_of table i - start_of table i
      → greatest (len (words_in text table n) i - a) (piece_at (words_in text table n) i a) ≡ longest_at text (start_of table i + a)
  piece_here a u =
      let l = word_length text table n f.laid i h in
      let s = f.laid.some i h in
      let c = entry_inside a u in
      let test : (m : ℕ) → m ≤ end_of table i - start_of table i - a → piece_at (words_in text table n) i a m ≡ leb m (longest_at text (start_of table i + a)) =
      λ m v. piece_longest text table n f i a m h (omega (arith, u, v, s)) in
      rw l
      (greatest_is (end_of table i - start_of table i - a) (piece_at (words_in text table n) i a) (longest_at text (start_of table i + a)) c
      (λ b. test (longest_at text (start_of table i + a)) c ∙ le-leb (longest_at text (start_of table i + a)) (longest_at text (start_of table i + a)) (omega arith))
      (λ k b v. test k v ∙ lt-leb k (longest_at text (start_of table i + a)) b))

  pub x_cut : x_by longest table i ≡ start_of table i + xlen (words_in text table n) i
  unfolding x_by xlen
  x_cut =
      let p = piece_here 0 (omega arith) in
      let e = entry_here 0 (omega arith) in
      let z : start_of table i + 0 ≡ start_of table i = omega arith in
      let y : len (words_in text table n) i - 0 ≡ len (words_in text table n) i = omega arith in
      ap (start_of table i +◌) (rw z at (e ∙ sym (rw y at p)))

  pub number_cut : number_by longest table i ≡ number (piece_count (words_in text table n) i)
  unfolding number_from piece_count longest_piece
  number_cut =
      let l = word_length text table n f.laid i h in
      ap number
      (fewest_same (piece_by longest (start_of table i)) (end_of table i - start_of table i)
      (λ a u. let e = entry_here a u in let c = entry_inside a u in omega (arith, e, c, u))
      (longest_piece (words_in text table n) i)
      (λ a u. entry_here a u ∙ sym (piece_here a u))
      ∙ ap (fewest (longest_piece (words_in text table n) i)) (sym l))

  pub z_cut : tail_by longest (start_of table i) (end_of table i) ≡ zlen (words_in text table n) i
  unfolding tail_by zlen
  z_cut =
      let l = word_length text table n f.laid i h in
      let w = f.whole in
      let g = end_before text table n f.laid i h in
      let s = f.laid.some i h in
      rw l
      (greatest_same (end_of table i - start_of table i) _ _ (λ m u.
      let e : start_of table i + (end_of table i - start_of table i - m) ≡ end_of table i - m = omega (arith, u, s) in
      ap (leb m) (t.at (end_of table i - m) (omega (arith, g, w))) ∙ ap (λ k. leb m (longest_at text k)) (sym e)
      ∙ sym (piece_longest text table n f i (end_of table i - start_of table i - m) m h (omega (arith, u, s)))))

pub cut_true : (text table longest after : List ℕ) (n : ℕ) → Fenced text table n → Tabled text longest → CutBy longest table n after → Cut text after n
cut_true text table longest after n f t c =
    let k = c.kept in
    let few = f.laid.few in
    let w = words_kept text table after n k few in
    record {
      x_end = λ i h. rw (w, k.starts i (omega (arith, h, few))) (c.x_end i h ∙ x_cut text table longest n f t i h);
      z_start = λ i h.
          let z = z_cut text table longest n f t i h in
          let a = c.z_start i h in
          let e = k.ends i (omega (arith, h, few)) in
          let b = tail_bound longest (start_of table i) (end_of table i) in
          rw (w, e, ← z) (omega (arith, a, b));
      pieces = λ i h. rw w (c.pieces i h ∙ number_cut text table longest n f t i h);
    }
