-- A law for each way that the call of a least word can go once the book is loaded.
use Prim.Native.Nat.{ℕ, ◌-◌, ◌<◌, ◌≤◌}
use mathlib.Core.Bool.{Bool, true, false}
use mathlib.Core.List.{List, [], ◌++◌, append-nil}
use mathlib.Core.Path.{◌≡◌, refl, sym, ap, ◌∙◌}
use Rattle.std.proofs.Common.{Option, Some, None}
use native.Mathlib.Omega.{arith}
use borrow.Author.Rules.{rules}
use borrow.Author.Tests.{lt-ltb, le-ltb, ltb-false}
use lib.Dec.{ltb}
use lib.ListN.{length, take, drop, replicate, length-replicate, length-drop, drop_of_length-le}
use lib.Seq.{take_all}
use Rattle.std.specs.Prelude.{Result, Ok, Err}
use Rattle.words.specs.Words.{Word}
use Rattle.words.specs.Writing.{over}
use Rattle.layout.specs.Layout.{words_in}
use Rattle.layout.specs.Families.{family_by}
use Rattle.limits.specs.Limits.{compared_most}
use Rattle.refusals.specs.declared.Refusal.{Refusal}
use Rattle.refusals.specs.declared.Refusal.TheVariants.{NoSpace, NoPrefix}
use Rattle.given.specs.Given.{Widened}
use Rattle.asked.specs.Given.{one_of}
use Rattle.given.proofs.Laws.{fine_short, fine_known}
use Rattle.overlap.specs.Pieces.{IsPiece, empty}
use Rattle.least.specs.Writing.{Found, found, absent}
use Rattle.moves.specs.declared.Mark.{Mark}
use Rattle.moves.specs.State.{placed_mark, MarkFits}
use Rattle.leastword.specs.Writing.{Asked, counted_of, PutFound}
use Rattle.asked.specs.Least.{least_from}
use Rattle.leastword.proofs.Rounds.{least_found}
use Rattle.answers.specs.Answers.{wrote, of_written_word}
use Rattle.answers.specs.Entries.{WordOutcome, lacks_space, placed_at, found_at, loaded_least}
use Rattle.answers.specs.Parts.{LeastLoaded, LeastCounted, LeastWidenable}

-- the space behind an offset
module _ (room offset long : ℕ) where
  pub offset_past : room < offset → true ≡ lacks_space room offset long
  unfolding lacks_space
  offset_past h = rw (lt-ltb room offset h)

  pub offset_inside : offset ≤ room → ltb (room - offset) long ≡ lacks_space room offset long
  unfolding lacks_space
  offset_inside h = rw (le-ltb room offset h)

pub ruleset spaces = (offset_past, offset_inside, rules)

-- where there is space, the offset lies in the buffer, and the word has room behind it
some_space : (room offset long : ℕ) → lacks_space room offset long ≡ false → (offset ≤ room) × (long ≤ room - offset)
unfolding lacks_space
some_space room offset long e = go (ltb room offset) refl
  where
    go : (t : Bool) → ltb room offset ≡ t → (offset ≤ room) × (long ≤ room - offset)
    go true q = let f : true ≡ false = rw q at e in let z : ◌≡◌ {A = ℕ} 0 1 = cc in absurd (omega arith)
    go false q = let f : ltb (room - offset) long ≡ false = rw q at e in (ltb-false room offset q, ltb-false (room - offset) long f)

-- what was counted is the length of a word that was found, or there is none
counted_found : (f : Found) (long : ℕ) → Some long ≡ counted_of f → (w : Word) × (f ≡ found w) × (long ≡ length w)
counted_found (found w) long e = let d : long ≡ length w = cc in (w, refl, d)
counted_found absent long e = let z : ◌≡◌ {A = ℕ} 0 1 = cc in absurd (omega arith)

counted_absent : (f : Found) → None ≡ counted_of f → f ≡ absent
counted_absent (found w) e = let z : ◌≡◌ {A = ℕ} 0 1 = cc in absurd (omega arith)
counted_absent absent e = refl

-- there is no such word, or it has so many letters
module _ (text table : List ℕ) (n : ℕ) (u : Word) (piece : Mark) (a : Asked text table n u piece) (c : Option ℕ)
    (k : c ≡ counted_of (least_from (words_in text table n) (family_by table n) (placed_mark text piece) u)) where
  pub place_absent : (offset : ℕ) (buffer : List ℕ) → c ≡ None
      → WordOutcome.after (of_written_word (Err NoPrefix)) buffer ≡ found_at offset (least_from (words_in text table n) (family_by table n) (placed_mark text piece) u) buffer
  place_absent offset buffer e =
      ap (λ (x : Found). found_at offset x buffer) (sym (counted_absent (least_from (words_in text table n) (family_by table n) (placed_mark text piece) u) (sym e ∙ k)))

  pub place_counted : (letters : ℕ) → c ≡ Some letters → LeastCounted text table n u piece letters
  place_counted letters e = record { asked = a; counted = sym e ∙ k }

pub ruleset countings = (place_absent, place_counted, rules)

-- the part of a buffer from an offset on is all that follows it
module _ (offset : ℕ) (f : Found) (buffer : List ℕ) (long : ℕ) (k : Some long ≡ counted_of f) (t : Bool) (e : t ≡ lacks_space (length buffer) offset long) where
  that : (w : Word) × (f ≡ found w) × (long ≡ length w)
  that = counted_found f long k

  placed : found_at offset f buffer ≡ placed_at offset that.0 buffer
  placed = ap (λ (x : Found). found_at offset x buffer) that.1

  lacks : (b : Bool) → t ≡ b → lacks_space (length buffer) offset (length that.0) ≡ b
  lacks b g = ap (lacks_space (length buffer) offset) (sym that.2) ∙ sym e ∙ g

  pub place_refused : t ≡ true → WordOutcome.after (of_written_word (Err NoSpace)) buffer ≡ found_at offset f buffer
  unfolding placed_at
  place_refused g = sym (placed ∙ rw (lacks true g))

  module _ (g : t ≡ false) where
    space : (offset ≤ length buffer) × (long ≤ length buffer - offset)
    space = some_space (length buffer) offset long (sym e ∙ g)

    pub place_inside : offset ≤ length buffer
    place_inside = space.0

    whole_rest : take (length buffer - offset) (drop offset buffer) ≡ drop offset buffer
    whole_rest = take_all (length buffer - offset) (drop offset buffer) (omega (arith, length-drop offset buffer))

    pub place_written : (part : List ℕ) (r : Option ℕ) → PutFound f (take (length buffer - offset) (drop offset buffer)) part r
        → WordOutcome.after (of_written_word (Ok long)) (take offset buffer ++ (part ++ drop (length buffer - offset) (drop offset buffer))) ≡ found_at offset f buffer
    unfolding placed_at
    place_written part r p =
        let d = length-drop offset buffer in
        let q = rw whole_rest at p in
        let s : part ≡ over that.0 (drop offset buffer) = q.same that.0 that.1 (omega (arith, space.1, that.2)) in
        let n : drop (length buffer - offset) (drop offset buffer) ≡ [] = drop_of_length-le (drop offset buffer) {i = length buffer - offset} (omega arith) in
        let whole : take offset buffer ++ (part ++ drop (length buffer - offset) (drop offset buffer)) ≡ take offset buffer ++ over that.0 (drop offset buffer) = rw (n, append-nil part, s) in
        let there : placed_at offset that.0 buffer ≡ WordOutcome.after (wrote (length that.0)) (take offset buffer ++ over that.0 (drop offset buffer)) = rw (lacks false g) in
        cc (whole, there, placed, that.2)

pub ruleset placings = (place_refused, place_inside, place_written, rules)

-- a word in bytes
module _ (text table : List ℕ) (n : ℕ) (u : Word) (piece : Mark) (wide wide' : List ℕ) (m : LeastWidenable text table n u piece wide) (x : Widened u wide') where
  pub wide_asked : Asked text table n (take (length u) wide') piece
  wide_asked = rw x.same m.asked

  pub wide_placed : (offset : ℕ) (buffer : List ℕ) (o : WordOutcome)
      → o ≡ found_at offset (least_from (words_in text table n) (family_by table n) (placed_mark text piece) (take (length u) wide')) buffer
      → o ≡ found_at offset (least_from (words_in text table n) (family_by table n) (placed_mark text piece) u) buffer
  wide_placed offset buffer o e = rw x.same at e

pub ruleset widened = (wide_asked, wide_placed, rules)

-- an array for it, made for the call: a short one, or one that holds the longest words
module _ (text table : List ℕ) (n : ℕ) (u : Word) (piece : Mark) (a : Asked text table n u piece) where
  pub long_widenable : LeastWidenable text table n u piece (replicate compared_most 0)
  long_widenable = record { asked = a; room = omega (arith, a.short, length-replicate {A = ℕ} compared_most 0) }

  pub short_widenable : (most : ℕ) → length u ≤ most → LeastWidenable text table n u piece (replicate most 0)
  short_widenable most h = record { asked = a; room = omega (arith, h, length-replicate {A = ℕ} most 0) }

pub ruleset arrays = (long_widenable, short_widenable, rules)

-- where the book has so many letters, a word that is fine can be asked for, with any piece that lies in the text
pub fine_asked : (text table : List ℕ) (n letters : ℕ) → LeastLoaded text table n letters → (u : Word) → one_of letters u ≡ Ok tt
    → (piece : Mark) → MarkFits text piece → IsPiece (words_in text table n) (placed_mark text piece) → Asked text table n u piece
fine_asked text table n letters k u f piece m p =
    record {
      ready = k.ready;
      short = fine_short 0 compared_most letters u f;
      low = record { at = λ i h. omega (arith, fine_known 0 compared_most letters u f i h, k.few) };
      fits = m;
      piece = p;
    }

-- a word that is fine, behind the empty piece
pub least_asked : (text table : List ℕ) (n letters : ℕ) → LeastLoaded text table n letters → (u : Word) → Ok tt ≡ one_of letters u
    → Asked text table n u (record { at = 0; to = 0 })
least_asked text table n letters k u e =
    fine_asked text table n letters k u (sym e) (record { at = 0; to = 0 }) (record { up = omega arith; inside = omega arith; short = omega arith }) (empty refl)

-- a given word
module _ (text table : List ℕ) (n letters : ℕ) (k : LeastLoaded text table n letters) (u : Word) (g : Result (Unit {0}) Refusal) (e : g ≡ one_of letters u) where
  pub least_refused : (buffer : List ℕ) (offset : ℕ) (r : Refusal) → g ≡ Err r
      → WordOutcome.after (of_written_word (Err r)) buffer ≡ loaded_least letters (words_in text table n) (family_by table n) u buffer offset
  unfolding loaded_least
  least_refused buffer offset r f = sym (rw (sym e ∙ f))

  pub least_placed : g ≡ Ok tt → (buffer : List ℕ) (offset : ℕ) (o : WordOutcome)
      → o ≡ found_at offset (least_from (words_in text table n) (family_by table n) [] u) buffer
      → o ≡ loaded_least letters (words_in text table n) (family_by table n) u buffer offset
  unfolding loaded_least
  least_placed f buffer offset o h =
      rw (sym e ∙ f) (h ∙ ap (λ (x : Found). found_at offset x buffer) (least_found (words_in text table n) (family_by table n) k.ready.grouped.checked.accepted u))

pub ruleset given_leasts = (least_refused, least_asked, least_placed, rules)
