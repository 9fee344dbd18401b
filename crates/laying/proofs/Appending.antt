-- One relation word more: what a word and its fence in the text, and two numbers in the table, make of the words laid before.
use Prim.Native.Nat.{ℕ, suc, ◌+◌, ◌-◌, ◌≤◌, ◌<◌}
use mathlib.Core.List.{List, [], ◌∷◌, ◌++◌}
use mathlib.Core.Path.{◌≡◌, refl, sym, ap, ◌∙◌, subst}
use mathlib.Core.Logic.{by_cases}
use native.Mathlib.Omega.{arith}
use native.Mathlib.Numerals.{add-one}
use native.Mathlib.Decide.{dec_lt}
use borrow.Author.Rules.{rules}
use lib.ListN.{length, get_or, take, drop, set, length-append, length-set, get_or-append}
use lib.Seq.{get_or_at, take-take, take-append_seam, get_or-set_same, get_or-set_other}
use mir.Syntax.{w16}
use mir.Val.{Fits}
use Rattle.words.specs.Words.{Word, part}
use Rattle.words.specs.Writing.{written}
use Rattle.writing.proofs.Writing.{written_length, written_before, written_in, written_there, written_behind, written_one}
use Rattle.layout.specs.Places.{word_most, text_room, table_room, letters_bound, fence_of, start_cell, end_cell}
use Rattle.layout.specs.Layout.{start_of, end_of, words_in, Laid}
use Rattle.laying.specs.Appending.{WordRoom, Appended}
use Rattle.layout.proofs.Placed.{start_bound, end_before, same_words}

-- a word and its fence
abbrev pub fenced : Word → ℕ → List ℕ
fenced word fence = word ++ (fence ∷ [])

module _ (word : Word) (fence at : ℕ) (text : List ℕ) (h : at + length word < length text) where
  fenced_long : length (fenced word fence) ≡ length word + 1
  fenced_long = length-append word (fence ∷ [])

  fenced_room : at + length (fenced word fence) ≤ length text
  fenced_room = omega (arith, fenced_long)

  pub written_fence : get_or (written at (fenced word fence) text) (at + length word) 0 ≡ fence
  written_fence =
      written_in at (fenced word fence) text fenced_room (length word) (omega (arith, fenced_long))
      ∙ get_or_at word fence [] 0 (length word) refl

  pub word_written : (k : ℕ) → k < length word → get_or (written at (fenced word fence) text) (at + k) 0 ≡ get_or word k 0
  word_written k l =
      written_in at (fenced word fence) text fenced_room k (omega (arith, fenced_long)) ∙ get_or-append word (fence ∷ []) 0 k l

  pub word_there : take (length word) (drop at (written at (fenced word fence) text)) ≡ word
  word_there =
      sym (take-take (length word) (length (fenced word fence)) (drop at (written at (fenced word fence) text)) (omega (arith, fenced_long)))
      ∙ ap (take (length word)) (written_there at (fenced word fence) text fenced_room)
      ∙ take-append_seam word (fence ∷ [])

  -- the word is written, then its fence
  pub fence_behind : (b : List ℕ) → b ≡ written at word text → set b (at + length word) fence ≡ written at (fenced word fence) text
  fence_behind b e =
      let l = written_length at word text (omega arith) in
      ap (λ (x : List ℕ). set x (at + length word) fence) e
      ∙ written_one (at + length word) fence (written at word text) (omega arith)
      ∙ written_behind at word (fence ∷ []) text (at + length word) refl (omega arith)

  pub word_room : at + length word ≤ length text
  word_room = omega arith

  pub fence_room : (b : List ℕ) → b ≡ written at word text → at + length word < length b
  fence_room b e = let l = ap length e ∙ written_length at word text (omega arith) in omega arith

pub ruleset fences = (word_room, fence_behind, fence_room, rules)

-- the word's end and the next start in the table
abbrev pub tabled : ℕ → ℕ → List ℕ → List ℕ
tabled i end table = set (set table (end_cell i) end) (start_cell (i + 1)) (end + 1)

module _ (i end : ℕ) (table : List ℕ) (h : start_cell (i + 1) < length table) where
  pub tabled_before : (q : ℕ) → q < end_cell i → get_or (tabled i end table) q 0 ≡ get_or table q 0
  tabled_before q l =
      get_or-set_other (set table (end_cell i) end) (start_cell (i + 1)) q (end + 1) 0 (λ e. omega arith)
      ∙ get_or-set_other table (end_cell i) q end 0 (λ e. omega arith)

  pub tabled_end : end_of (tabled i end table) i ≡ end
  tabled_end =
      get_or-set_other (set table (end_cell i) end) (start_cell (i + 1)) (end_cell i) (end + 1) 0 (λ e. omega arith)
      ∙ get_or-set_same table (end_cell i) end 0 (omega arith)

  pub tabled_next : start_of (tabled i end table) (i + 1) ≡ end + 1
  tabled_next =
      get_or-set_same (set table (end_cell i) end) (start_cell (i + 1)) (end + 1) 0 (simp length-set (omega arith))

  pub tabled_beyond : (q : ℕ) → start_cell (i + 1) < q → get_or (tabled i end table) q 0 ≡ get_or table q 0
  tabled_beyond q l =
      get_or-set_other (set table (end_cell i) end) (start_cell (i + 1)) q (end + 1) 0 (λ e. omega arith)
      ∙ get_or-set_other table (end_cell i) q end 0 (λ e. omega arith)

  pub tabled_length : length (tabled i end table) ≡ length table
  tabled_length = simp length-set

-- one word more
module _ (word text table : List ℕ) (i : ℕ) (r : WordRoom word text table i) where
  abbrev start : ℕ
  start = start_of table i

  abbrev end : ℕ
  end = start_of table i + length word

  abbrev text' : List ℕ
  text' = written start (fenced word (fence_of i)) text

  abbrev table' : List ℕ
  table' = tabled i end table

  -- the words before leave room for one more
  start_low : start + (word_most + 1) ≤ text_room
  start_low = let b = start_bound text table i r.laid i (omega arith) in omega (arith, r.more)

  fits : start + length word < length text
  fits = omega (arith, start_low, r.short, r.arrays.text_long)

  inside : start_cell (i + 1) < length table
  inside = omega (arith, r.more, r.arrays.table_long)

  -- the words before keep their starts, ends and letters
  start_kept : (j : ℕ) → j ≤ i → start_of table' j ≡ start_of table j
  start_kept j h = tabled_before i end table inside (start_cell j) (omega arith)

  end_kept : (j : ℕ) → j < i → end_of table' j ≡ end_of table j
  end_kept j h = tabled_before i end table inside (end_cell j) (omega arith)

  end_low : (j : ℕ) → j < i → end_of table j < start
  end_low j h = end_before text table i r.laid j h

  letter_kept : (q : ℕ) → q < start → get_or text' q 0 ≡ get_or text q 0
  letter_kept q h = written_before start (fenced word (fence_of i)) text (fenced_room word (fence_of i) start text fits) q h

  -- what holds of the words before and of the new one
  upto : (P : ℕ → Type 0) → ((j : ℕ) → j < i → P j) → P i → (j : ℕ) → j < i + 1 → P j
  upto P f p j h = by_cases (dec_lt j i) (λ a. f j a) (λ a. subst P (omega arith) p)

  part_there : part text' start end ≡ word
  part_there = let z : end - start ≡ length word = omega arith in rw z (word_there word (fence_of i) start text fits)

  pub words_appended : words_in text' table' (i + 1) ≡ words_in text table i ++ (word ∷ [])
  unfolding words_in
  words_appended =
      let a = same_words text table text' table' i (written_length start (fenced word (fence_of i)) text (fenced_room word (fence_of i) start text fits)) (λ j h. (start_kept j (omega arith), end_kept j h))
      (λ j q h lo hi. letter_kept q (omega (arith, end_low j h))) in
      let b : words_in text' table' (suc i) ≡ words_in text table i ++ (word ∷ []) = rw (a, start_kept i (omega arith), tabled_end i end table inside, part_there) in
      ap (words_in text' table') (add-one i) ∙ b

  pub laid_appended : Laid text' table' (i + 1)
  laid_appended =
      record {
        few = omega (arith, r.more);
        room = omega (arith, tabled_length i end table inside, r.more, r.arrays.table_long);
        wide = omega (arith, tabled_length i end table inside, r.arrays.table_long);
        inside = rw (tabled_next i end table inside, written_length start (fenced word (fence_of i)) text (fenced_room word (fence_of i) start text fits)) (omega (arith, fits));
        first = start_kept 0 (omega arith) ∙ r.laid.first;
        next = upto (λ j. start_of table' (j + 1) ≡ end_of table' j + 1)
            (λ j h. start_kept (j + 1) (omega arith) ∙ r.laid.next j h ∙ ap (λ n. n + 1) (sym (end_kept j h)))
            (tabled_next i end table inside ∙ ap (λ n. n + 1) (sym (tabled_end i end table inside)));
        some = upto (λ j. start_of table' j < end_of table' j)
            (λ j h. rw (start_kept j (omega arith), end_kept j h) (r.laid.some j h))
            (rw (start_kept i (omega arith), tabled_end i end table inside) (omega (arith, r.some)));
        short = upto (λ j. end_of table' j ≤ start_of table' j + word_most)
            (λ j h. rw (start_kept j (omega arith), end_kept j h) (r.laid.short j h))
            (rw (start_kept i (omega arith), tabled_end i end table inside) (omega (arith, r.short)));
        letters = λ j q h. upto (λ j. start_of table' j ≤ q → q < end_of table' j → get_or text' q 0 < letters_bound)
            (λ j h. rw (start_kept j (omega arith), end_kept j h) (λ lo hi. rw (letter_kept q (omega (arith, end_low j h))) (r.laid.letters j q h lo hi)))
            (rw (start_kept i (omega arith), tabled_end i end table inside) (λ lo hi.
            let z : q ≡ start + (q - start) = omega arith in
            let e : get_or text' q 0 ≡ get_or word (q - start) 0
            = ap (λ n. get_or text' n 0) z ∙ word_written word (fence_of i) start text fits (q - start) (omega arith) in
            rw e (r.known (q - start) (omega arith))))
            j h;
        fence = upto (λ j. get_or text' (end_of table' j) 0 ≡ fence_of j)
            (λ j h. rw (end_kept j h) (letter_kept (end_of table j) (end_low j h) ∙ r.laid.fence j h))
            (rw (tabled_end i end table inside) (written_fence word (fence_of i) start text fits));
      }

  pub appended : Appended word text table i text' table'
  appended =
      record {
        laid = laid_appended;
        words = words_appended;
        beyond = λ k h. tabled_beyond i end table inside k (omega (arith, r.more));
        text_long = written_length start (fenced word (fence_of i)) text (fenced_room word (fence_of i) start text fits);
        table_long = tabled_length i end table inside;
      }

-- no relation word yet
pub nothing_laid : (text table : List ℕ) → length table ≡ table_room → Laid text (set table (start_cell 0) 0) 0
nothing_laid text table h =
    let f : get_or (set table (start_cell 0) 0) 0 0 ≡ 0 = get_or-set_same table 0 0 0 (omega arith) in
    record {
      few = omega arith;
      room = simp length-set (omega arith);
      wide = simp length-set (omega arith);
      inside = rw f (omega arith);
      first = f;
      next = λ i l. absurd (omega arith);
      some = λ i l. absurd (omega arith);
      short = λ i l. absurd (omega arith);
      letters = λ i q l. absurd (omega arith);
      fence = λ i l. absurd (omega arith);
    }

-- what the code asks before it lays a word
module _ (word text table : List ℕ) (i : ℕ) (r : WordRoom word text table i) where
  pub room_read : start_cell i < length table
  room_read = omega (arith, r.more, r.arrays.table_long)

  pub room_fence : Fits w16 (fence_of i)
  room_fence = omega (arith, r.more)

  pub room_write : end_cell i < length table
  room_write = omega (arith, r.more, r.arrays.table_long)

  pub room_write_next : (v : ℕ) → start_cell (i + 1) < length (set table (end_cell i) v)
  room_write_next v = simp length-set (omega (arith, r.more, r.arrays.table_long))

  module _ (s : ℕ) (e : s ≡ start_of table i) where
    pub room_text : s + length word < length text
    room_text = omega (arith, start_low word text table i r, r.short, r.arrays.text_long)

    pub room_start : Fits w16 s
    room_start = omega (arith, start_low word text table i r)

    pub room_end : Fits w16 (s + length word)
    room_end = omega (arith, start_low word text table i r, r.short)

    pub room_next : Fits w16 (s + length word + 1)
    room_next = omega (arith, start_low word text table i r, r.short)

    pub room_appended : (b : List ℕ) → b ≡ written s (fenced word (fence_of i)) text
        → Appended word text table i b (set (set table (end_cell i) (s + length word)) (start_cell (i + 1)) (s + length word + 1))
    room_appended b f = rw (f, e) (appended word text table i r)

pub ruleset rooms = (room_read, room_fence, room_write, room_write_next, room_text, room_start, room_end, room_next, room_appended, rules)
