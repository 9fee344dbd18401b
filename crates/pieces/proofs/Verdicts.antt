-- The verdict on the relation words of a text: refusal 8, or the cuts.
use Prim.Native.Nat.{ℕ, ◌<◌, ◌≤◌}
use mathlib.Core.List.{List}
use mathlib.Core.Logic.{by_cases}
use mathlib.Core.Path.{◌≡◌, refl, sym, ap, ◌∙◌, subst}
use native.Mathlib.Omega.{arith}
use native.Mathlib.Decide.{dec_lt}
use borrow.Author.Rules.{rules}
use borrow.Author.Tests.{lt-ltb, le-ltb}
use lib.ListN.{length, get_or, take, replicate, length-replicate, length-take}
use lib.Seq.{length-take-le, get_or-take, take_all}
use Rattle.std.specs.Prelude.{Result, Ok, Err, ⊤}
use Rattle.words.specs.Words.{Word}
use Rattle.overlap.specs.Pieces.{C4}
use Rattle.overlap.specs.Cuts.{first_loose}
use Rattle.overlap.proofs.Agree.{first_loose_bound, first_loose_iff_c4}
use Rattle.layout.specs.Places.{text_room}
use Rattle.layout.specs.Layout.{Laid, words_in, start_of}
use Rattle.layout.proofs.Placed.{words_length, start_bound}
use Rattle.layout.proofs.Whole.{words_take, whole_inside, whole_long, whole_laid, whole_ends, whole_words, whole_bytes}
use Rattle.writing.specs.Writing.{Narrowing}
use Rattle.words.specs.Writing.{written}
use Rattle.writing.proofs.Writing.{written_length, written_taken}
use Rattle.longest.specs.Longest.{Tabled}
use Rattle.loose.specs.Pieces.{Fenced, AllInTables, Measurable, Measured}
use Rattle.loose.proofs.Fences.{text_short}
use Rattle.loose.proofs.Lowest.{all_in_tables}
use Rattle.cuts.specs.Cutting.{CutBy}
use Rattle.cuts.proofs.Cutting.{cut_true, words_kept, laid_kept}
use Rattle.pieces.specs.declared.Loose.{Loose}
use Rattle.pieces.specs.Judging.{Recut, Judging, judged_of, PiecesTabled, LongestKept, JudgedKept}

-- the answers have different names
said : Result ⊤ Loose → ℕ
said (Ok u) = 0
said (Err loose) = 1

accepted_not_loose : {A : Type 0} {loose : Loose} → ◌≡◌ {A = Result ⊤ Loose} (Ok tt) (Err loose) → A
unfolding said
accepted_not_loose e = let d = ap said e in absurd (omega (arith, d))

loose_same : (k l : Loose) → ◌≡◌ {A = Result ⊤ Loose} (Err k) (Err l) → k ≡ l
loose_same k l e = cc

-- a word of this number is loose
abbrev loose_at : ℕ → Result ⊤ Loose
loose_at i = Err (record { word = i })

-- the table is copied, or the array has no room
pub keep_copied : (longest array kept : List ℕ) → kept ≡ written 0 longest array → LongestKept longest array kept
keep_copied longest array kept e = record { same = λ h. written_taken longest array kept e }

pub keep_nothing : (longest array : List ℕ) → length array < length longest → LongestKept longest array array
keep_nothing longest array h = record { same = λ k. absurd (omega arith) }

pub ruleset keeps = (keep_copied, keep_nothing, rules)

-- a copy of a table, as far as the text goes, is one
tabled_copy : (text longest kept : List ℕ) → Tabled text longest → take (length text) kept ≡ take (length text) longest → Tabled text kept
tabled_copy text longest kept t e =
    let l = ap length e in
    let m = length-take (length text) kept in
    let n = length-take-le (length text) longest t.room in
    record {
      room = omega arith;
      at = λ p h.
          sym (get_or-take (length text) kept p 0 h) ∙ ap (λ (w : List ℕ). get_or w p 0) e ∙ get_or-take (length text) longest p 0 h ∙ t.at p h;
    }

-- a text that ends with its last fence
module _ (text table : List ℕ) (n : ℕ) (f : Fenced text table n) where
  pub whole_measurable : Measurable text table n (replicate text_room 0)
  whole_measurable = let l = length-replicate {A = ℕ} text_room 0 in record { fenced = f; room = omega (arith, l) }

  module _ (longest : List ℕ) (r : ℕ) (m : Measured text table n longest r) where
    pub whole_tables : AllInTables longest table n
    whole_tables = all_in_tables text table longest n f m.tabled

    pub whole_covered : length text ≤ length longest
    whole_covered = m.tabled.room

    pub whole_part : length text ≡ length (take (length text) longest)
    whole_part = sym (length-take-le (length text) longest whole_covered)

    module _ (array kept : List ℕ) (k : LongestKept (take (length text) longest) array kept) where
      -- it is the text as far as its last fence
      whole_kept : text_room ≤ length array → PiecesTabled text table n kept
      whole_kept h =
          let e = k.same (omega (arith, whole_part, text_short text table n f)) in
          subst (λ (t : List ℕ). Tabled t kept) (sym (take_all (start_of table n) text (omega (arith, f.whole))))
          (tabled_copy text longest kept m.tabled (ap (λ (i : ℕ). take i kept) whole_part ∙ e))

      pub whole_loose : r < n → JudgedKept text table n array table kept (loose_at r)
      unfolding judged_of
      whole_loose h =
          let e = m.lowest in
          let l = words_length text table n in
          let t = lt-ltb (first_loose (words_in text table n)) (length (words_in text table n)) (omega (arith, e, l, h)) in
          record {
            judging = record {
              verdict = rw t (ap loose_at e);
              cuts = λ d. accepted_not_loose (sym d);
              looses = λ l d. refl;
            };
            tabled = whole_kept;
          }

      pub whole_cut : n ≤ r → (after : List ℕ) → CutBy longest table n after → JudgedKept text table n array after kept (Ok tt)
      unfolding judged_of
      whole_cut h after c =
          let e = m.lowest in
          let l = words_length text table n in
          let t = le-ltb (first_loose (words_in text table n)) (length (words_in text table n)) (omega (arith, e, l, h)) in
          record {
            judging = record {
              verdict = rw t;
              cuts = λ d. record { kept = c.kept; cut = cut_true text table longest after n f m.tabled c };
              looses = λ l d. accepted_not_loose d;
            };
            tabled = whole_kept;
          }

pub ruleset wholes = (whole_measurable, whole_tables, whole_covered, whole_part, whole_loose, whole_cut, rules)

-- the text as far as its last fence, copied in bytes
module _ (text table : List ℕ) (n : ℕ) (f : Laid text table n) (t : ℕ) (e : t ≡ start_of table n) where
  pub copy_inside : t ≤ length text
  copy_inside = whole_inside text table n f t e

  pub copy_long : t ≡ length (take t text)
  copy_long = whole_long text table n f t e

  copy_room : length (take t text) ≤ length (replicate {A = ℕ} text_room 0)
  copy_room =
      let l = length-replicate {A = ℕ} text_room 0 in
      omega (arith, l, copy_long, e, start_bound text table n f n (omega arith), f.few)

  pub copy_narrowing : Narrowing (take t text) (replicate text_room 0) 0
  copy_narrowing = record { room = omega (arith, copy_room); bytes = whole_bytes text table n f t e }

  module _ (b : List ℕ) (g : b ≡ written 0 (take t text) (replicate text_room 0)) where
    copied : take t b ≡ take t text
    copied = ap (λ (k : ℕ). take k b) copy_long ∙ written_taken (take t text) (replicate text_room 0) b g

    pub copied_inside : t ≤ length b
    copied_inside =
        omega (arith, ap length g ∙ written_length 0 (take t text) (replicate text_room 0) (omega (arith, copy_room)), copy_room, copy_long)

    pub copied_long : t ≡ length (take t b)
    copied_long = sym (length-take-le t b copied_inside)

    pub copied_fenced : Fenced (take t b) table n
    copied_fenced = rw copied (record { laid = whole_laid text table n f t e; whole = sym copy_long ∙ e })

    whole_recut : (after : List ℕ) → Recut (take t text) table n after → Recut text table n after
    whole_recut after r =
        let k = r.kept in
        let w = words_take text after t n (λ i h. let a = whole_ends text table n f t e i h in let c = k.ends i (omega (arith, h, f.few)) in omega (arith, a, c)) in
        let c = r.cut in
        record { kept = k; cut = record { x_end = λ i h. rw w at (c.x_end i h); z_start = λ i h. rw w at (c.z_start i h); pieces = λ i h. rw w at (c.pieces i h) } }

    -- the text as far as its last fence has itself as that part
    copied_tabled : (kept : List ℕ) → PiecesTabled (take t b) table n kept → PiecesTabled text table n kept
    copied_tabled kept p =
        let w : take (start_of table n) (take t b) ≡ take (start_of table n) text = ap (λ (k : ℕ). take k (take t b)) (sym e) ∙ take_all t (take t b) (omega (arith, copied_long)) ∙ copied ∙ ap (λ (k : ℕ). take k text) e in
        subst (λ (u : List ℕ). Tabled u kept) w p

    pub copied_judged : (array after kept : List ℕ) (r : Result ⊤ Loose) → JudgedKept (take t b) table n array after kept r → JudgedKept text table n array after kept r
    copied_judged array after kept r k =
        let w : Judging (take t text) table n after r = rw copied at k.judging in
        record {
          judging = record {
            verdict = rw (← whole_words text table n f t e) w.verdict;
            cuts = λ d. whole_recut after (w.cuts d);
            looses = w.looses;
          };
          tabled = λ h. copied_tabled kept (k.tabled h);
        }

pub ruleset copies = (copy_inside, copy_long, copy_narrowing, copied_inside, copied_long, copied_fenced, copied_judged, rules)

-- where the words are accepted, none is loose
pub none_loose : (B : List Word) → judged_of B ≡ Ok tt → first_loose B ≡ length B
unfolding judged_of
none_loose B e =
    let b = first_loose_bound B in
    by_cases (dec_lt (first_loose B) (length B))
    (λ h. accepted_not_loose {loose = record { word = first_loose B }} (sym e ∙ rw (lt-ltb (first_loose B) (length B) h))) (λ h. omega (arith, b, h))

-- where one is, it is the lowest
pub lowest_loose : (B : List Word) (loose : Loose) → judged_of B ≡ Err loose → (loose.word < length B) × (first_loose B ≡ loose.word)
unfolding judged_of
lowest_loose B loose e = by_cases (dec_lt (first_loose B) (length B))
    (λ h.
    let f : first_loose B ≡ loose.word
    = ap (λ (l : Loose). l.word) (loose_same (record { word = first_loose B }) loose (sym (rw (lt-ltb (first_loose B) (length B) h)) ∙ e)) in
    (omega (arith, f, h), f))
    (λ h. accepted_not_loose {loose = loose} (sym (rw (le-ltb (first_loose B) (length B) (omega (arith, h)))) ∙ e))

-- accepted words: the table that is left has them at the same places, and they meet C(4)
module _ (text table : List ℕ) (n : ℕ) (after : List ℕ) (r : Result ⊤ Loose) (j : Judging text table n after r) (e : r ≡ Ok tt) (f : Laid text table n) where
  pub accepted_laid : Laid text after n
  accepted_laid = laid_kept text table after n (j.cuts e).kept f

  pub accepted_words : words_in text after n ≡ words_in text table n
  accepted_words = words_kept text table after n (j.cuts e).kept f.few

  pub accepted_c4 : C4 (words_in text after n)
  accepted_c4 = subst C4 (sym accepted_words) ((first_loose_iff_c4 (words_in text table n)).0 (none_loose (words_in text table n) (sym j.verdict ∙ e)))
