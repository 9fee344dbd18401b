-- Relation words laid out in a text: how many they are, where each stands, and what keeps them.
use Prim.Native.Nat.{ℕ, zero, suc, ◌+◌, ◌*◌, ◌-◌, ◌≤◌, ◌<◌}
use mathlib.Core.List.{List, [], ◌∷◌}
use mathlib.Core.Path.{◌≡◌, refl, ap, ◌∙◌}
use mathlib.Core.Logic.{by_cases}
use native.Mathlib.Omega.{arith}
use native.Mathlib.Numerals.{add-one}
use native.Mathlib.Decide.{dec_lt, ℕ_discrete}
use lib.ListN.{length, get_or, length-append, get_or-append}
use lib.Seq.{get_or_at}
use Rattle.words.proofs.Parts.{part_length, part_at, same_part}
use Rattle.overlap.specs.Pieces.{word}
use Rattle.overlap.specs.Cuts.{len}
use Rattle.layout.specs.Places.{word_most, fence_of, end_cell}
use Rattle.layout.specs.Layout.{start_of, end_of, Span, word_at, words_in, Laid}

pub words_length : (text table : List ℕ) (n : ℕ) → length (words_in text table n) ≡ n
unfolding words_in
words_length text table zero = refl
words_length text table (suc n) =
    length-append (words_in text table n) (word_at text table n ∷ []) ∙ rw (words_length text table n) (omega arith)

-- word i is the text from its start to its end
pub word_part : (text table : List ℕ) (n i : ℕ) → i < n → word (words_in text table n) i ≡ word_at text table i
unfolding words_in
word_part text table zero i h = absurd (omega arith)
word_part text table (suc n) i h =
    let l = words_length text table n in
    by_cases (ℕ_discrete i n)
    (λ e. rw e (get_or_at (words_in text table n) (word_at text table n) [] [] n l))
    (λ e. get_or-append (words_in text table n) (word_at text table n ∷ []) [] i (omega (arith, l, e, h))
    ∙ word_part text table n i (omega (arith, e, h)))

module _ (text table : List ℕ) (n : ℕ) (f : Laid text table n) where
  -- the words lie one behind the other
  pub start_after : (i j : ℕ) → i < j → j ≤ n → end_of table i < start_of table j
  start_after i zero h l = absurd (omega arith)
  start_after i (suc j) h l =
      let e = f.next j (omega (arith, l)) in
      let s = ap (start_of table) (add-one j) in
      by_cases (ℕ_discrete i j)
      (λ g. let d = ap (end_of table) g in omega (arith, e, s, d))
      (λ g. let r = start_after i j (omega (arith, g, h)) (omega (arith, l)) in let k = f.some j (omega (arith, l)) in omega (arith, r, k, e, s))

  pub end_before : (i : ℕ) → i < n → end_of table i < start_of table n
  end_before i h = start_after i n h (omega arith)

  pub end_inside : (i : ℕ) → i < n → end_of table i < length text
  end_inside i h = let e = end_before i h in let s = f.inside in omega (arith, e, s)

  -- the row of word i is in the table
  pub row_inside : (i : ℕ) → i < n → end_cell i < length table
  row_inside i h = omega (arith, f.room, h)

  pub word_span : (i : ℕ) → i < n → Span text (start_of table i) (end_of table i)
  word_span i h = let e = end_inside i h in let s = f.some i h in record { upwards = omega (arith, s); inside = omega (arith, e) }

  -- each takes at most the places of the longest and its fence
  pub start_bound : (i : ℕ) → i ≤ n → start_of table i ≤ (word_most + 1) * i
  start_bound zero h = let e = f.first in omega (arith, e)
  start_bound (suc i) h =
      let e = f.next i (omega (arith, h)) in
      let s = ap (start_of table) (add-one i) in
      let r = start_bound i (omega (arith, h)) in
      let k = f.short i (omega (arith, h)) in
      omega (arith, e, s, r, k)

  -- word i letter by letter
  pub word_length : (i : ℕ) → i < n → len (words_in text table n) i ≡ end_of table i - start_of table i
  word_length i h =
      let e = end_inside i h in
      ap length (word_part text table n i h) ∙ part_length text (start_of table i) (end_of table i) (omega (arith, e))

  pub word_at_lem : (i k : ℕ) → i < n → k < end_of table i - start_of table i → get_or (word (words_in text table n) i) k 0 ≡ get_or text (start_of table i + k) 0
  word_at_lem i k h l = ap (λ w. get_or w k 0) (word_part text table n i h) ∙ part_at text (start_of table i) (end_of table i) k l

  -- every place before the last fence lies in a word or at its fence
  pub owner : (q m : ℕ) → m ≤ n → q < start_of table m → (j : ℕ) × (j < m) × (start_of table j ≤ q) × (q ≤ end_of table j)
  owner q zero h l = let e = f.first in absurd (omega (arith, e, l))
  owner q (suc m) h l =
      let e = f.next m (omega (arith, h)) in
      let s = ap (start_of table) (add-one m) in
      by_cases (dec_lt q (start_of table m))
      (λ g. let r = owner q m (omega (arith, h)) g in (r.0, omega (arith, r.1), r.2, r.3))
      (λ g. (m, omega arith, omega (arith, g), omega (arith, e, s, l)))

  -- one place of the text is one place of one word
  pub place_once : (i j p q : ℕ) → i < n → j < n → start_of table i + p ≤ end_of table i → start_of table j + q ≤ end_of table j
      → start_of table j + q ≡ start_of table i + p → (i ≡ j) × (p ≡ q)
  place_once i j p q h g u v e = by_cases (dec_lt i j)
      (λ l. let a = start_after i j l (omega (arith, g)) in absurd (omega (arith, a, u, e)))
      (λ l. by_cases (dec_lt j i)
      (λ k. let a = start_after j i k (omega (arith, h)) in absurd (omega (arith, a, v, e)))
      (λ k. let d : i ≡ j = omega (arith, l, k) in let c = ap (start_of table) d in (d, omega (arith, c, e))))

  -- a fence's code stands nowhere else
  pub fence_once : (i q : ℕ) → i < n → q < start_of table n → get_or text q 0 ≡ fence_of i → q ≡ end_of table i
  fence_once i q h l e =
      let r = owner q n (omega arith) l in
      by_cases (dec_lt q (end_of table r.0))
      (λ g. let c = f.letters r.0 q r.1 r.2 g in absurd (omega (arith, c, e)))
      (λ g.
      let d : q ≡ end_of table r.0 = omega (arith, g, r.3) in
      let c = f.fence r.0 r.1 in
      let b = ap (λ k. get_or text k 0) d in
      let a : r.0 ≡ i = omega (arith, c, b, e) in
      d ∙ ap (end_of table) a)

-- the same starts, ends and letters give the same words
pub same_words : (text table text' table' : List ℕ) (n : ℕ) → length text' ≡ length text
    → ((i : ℕ) → i < n → (start_of table' i ≡ start_of table i) × (end_of table' i ≡ end_of table i))
    → ((i q : ℕ) → i < n → start_of table i ≤ q → q < end_of table i → get_or text' q 0 ≡ get_or text q 0) → words_in text' table' n ≡ words_in text table n
unfolding words_in
same_words text table text' table' zero e p f = refl
same_words text table text' table' (suc n) e p f =
    let r = same_words text table text' table' n e (λ i h. p i (omega arith)) (λ i q h. f i q (omega arith)) in
    let t = p n (omega arith) in
    let s = same_part text text' (start_of table n) (end_of table n) e (λ q. f n q (omega arith)) in
    rw (r, t.0, t.1, s)

-- another table with the same starts and ends
module _ (text table table' : List ℕ) (n : ℕ) (starts : (i : ℕ) → i ≤ n → start_of table' i ≡ start_of table i) (ends : (i : ℕ) → i < n → end_of table' i ≡ end_of table i) where
  pub words_of_places : words_in text table' n ≡ words_in text table n
  words_of_places = same_words text table text table' n refl (λ i h. (starts i (omega arith), ends i h)) (λ i q h a b. refl)

  pub laid_of_places : length table' ≡ length table → Laid text table n → Laid text table' n
  laid_of_places e f =
      record {
        few = f.few;
        room = rw e f.room;
        wide = rw e f.wide;
        inside = rw (starts n (omega arith)) f.inside;
        first = starts 0 (omega arith) ∙ f.first;
        next = λ i h. rw (starts (i + 1) (omega arith), ends i h) (f.next i h);
        some = λ i h. rw (starts i (omega arith), ends i h) (f.some i h);
        short = λ i h. rw (starts i (omega arith), ends i h) (f.short i h);
        letters = λ i q h a b. f.letters i q h (rw (starts i (omega arith)) at a) (rw (ends i h) at b);
        fence = λ i h. rw (ends i h) (f.fence i h);
      }
