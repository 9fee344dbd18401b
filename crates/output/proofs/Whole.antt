-- Laws of the code that loads the book and writes the whole output.
use Prim.Native.Nat.{ℕ, ◌+◌, ◌≤◌}
use mathlib.Core.Bool.{Bool, true, false, cond}
use mathlib.Core.List.{List}
use mathlib.Core.Path.{◌≡◌, refl, sym, ap, ◌∙◌, subst}
use native.Mathlib.Omega.{arith}
use borrow.Author.Rules.{rules}
use lib.Dec.{ltb}
use lib.ListN.{length, get_or, take}
use mir.Val.{Fits}
use mir.Syntax.{w8}
use lib.Seq.{length-take-le}
use Rattle.std.specs.Prelude.{Option, Some, None, Result, Ok, Err}
use Rattle.refusals.specs.declared.Refusal.{Refusal}
use Rattle.refusals.specs.declared.Refusal.TheVariants.{Heavy}
use Rattle.format.specs.declared.BookSize.{BookSize}
use Rattle.limits.specs.declared.Input.{Input}
use Rattle.limits.specs.Limits.{input_most, input_of}
use Rattle.format.specs.Book.{BookReading}
use Rattle.layout.specs.Families.{count_of, Ready}
use Rattle.presentation.specs.Loading.{Holding, BookLoaded}
use Rattle.loading.specs.Loading.{load_book}
use Rattle.presentation.proofs.Laws.{load_refused}
use Rattle.lines.specs.Lines.{WrittenTo}
use Rattle.output.specs.Program.{refused_line, book_end, by_loading, loaded_output, program_of}
use Rattle.output.specs.Size.{output_most}
use Rattle.output.specs.Writing.{lines_of_accepted, Accepted, Roomy}
use Rattle.output.proofs.Size.{end_within, refused_short, output_fits}

-- loading the book, and what is written for it
module _ (input : List ℕ) (end : ℕ) (e : end ≡ book_end input) where
  pub book_within : end ≤ length input
  book_within = omega (arith, end_within (length input) input 0 (omega arith))

  pub book_long : end ≡ length (take end input)
  book_long = sym (length-take-le end input book_within)

  module _ (r : Result BookSize Refusal) (text table : List ℕ) (l : BookLoaded (take end input) r text table) where
    module _ (x : Refusal) (f : r ≡ Err x) where
      refused_whole : loaded_output input ≡ refused_line x
      refused_whole =
          let q : load_book (take (book_end input) input) ≡ BookReading.refused x =
          subst (λ (n : ℕ). load_book (take n input) ≡ BookReading.refused x) e (load_refused (take end input) r text table l x f) in
          ap (by_loading input) q

      pub refused_fits : (out : List ℕ) → Roomy input out → 0 + length (refused_line x) ≤ length out
      refused_fits out h = omega (arith, h.room, ap length refused_whole)

      pub refused_written : (out b : List ℕ) (q : ℕ) → WrittenTo out 0 (refused_line x) b q → WrittenTo out 0 (loaded_output input) b q
      refused_written out b q p = subst (λ (s : List ℕ). WrittenTo out 0 s b q) (sym refused_whole) p

    module _ (size : BookSize) (f : r ≡ Ok size) where
      held : Holding (take end input) size.letters size.relations text table
      held = l.held size f

      accepted_whole : loaded_output input ≡ lines_of_accepted text table size.relations size.letters input end
      accepted_whole =
          let h = held in
          let q : load_book (take (book_end input) input) ≡ BookReading.read h.presentation =
          subst (λ (n : ℕ). load_book (take n input) ≡ BookReading.read h.presentation) e h.is in
          ap (by_loading input) q ∙ rw (h.words, h.families, ← e, ← h.many, ← h.lettered)

      pub accepted_ready : (n : ℕ) → n ≡ count_of table → Ready text table n
      accepted_ready n c = rw c (record { grouped = held.grouped; text_short = omega (arith, l.memory.text_roomy) })

      pub accepted_fits : (out : List ℕ) → Roomy input out → Accepted text table size.relations size.letters input end out
      accepted_fits out h =
          let k = held in
          record {
            ready = accepted_ready (count_of table) refl;
            within = book_within;
            room = omega (arith, h.room, ap length accepted_whole);
          }

      pub accepted_written : (out b : List ℕ) (q : ℕ) → WrittenTo out 0 (lines_of_accepted text table size.relations size.letters input end) b q → WrittenTo out 0 (loaded_output input) b q
      accepted_written out b q p = subst (λ (s : List ℕ). WrittenTo out 0 s b q) (sym accepted_whole) p

pub ruleset books = (book_within, book_long, refused_fits, refused_written, accepted_fits, accepted_written, rules)

pub heavy_fits : (out : List ℕ) → output_most ≤ length out → 0 + length (refused_line Heavy) ≤ length out
heavy_fits out h = omega (arith, refused_short Heavy (omega arith))

-- 13, or what is written for an input that is not too long
module _ (input : List ℕ) (made : Option Input) (e : made ≡ input_of (length input)) where
  heavy : made ≡ None → refused_line Heavy ≡ program_of input
  unfolding input_of program_of
  heavy f = step (ltb input_most (length input)) refl (sym e ∙ f)
    where
      step : (b : Bool) → ltb input_most (length input) ≡ b → cond {A = Option Input} b None (Some (record { length = length input })) ≡ None → refused_line Heavy ≡ program_of input
      step true q g = rw q
      step false q g = absurd (let z : ◌≡◌ {A = ℕ} 0 1 = cc in omega arith)

  light : (x : Input) → made ≡ Some x → loaded_output input ≡ program_of input
  unfolding input_of program_of
  light x f = step (ltb input_most (length input)) refl (sym e ∙ f)
    where
      step : (b : Bool) → ltb input_most (length input) ≡ b → cond {A = Option Input} b None (Some (record { length = length input })) ≡ Some x → loaded_output input ≡ program_of input
      step true q g = absurd (let z : ◌≡◌ {A = ℕ} 0 1 = cc in omega arith)
      step false q g = rw q

  pub heavy_written : made ≡ None → (out b : List ℕ) (q : ℕ) → WrittenTo out 0 (refused_line Heavy) b q → WrittenTo out 0 (program_of input) b q
  heavy_written f out b q p = subst (λ (s : List ℕ). WrittenTo out 0 s b q) (heavy f) p

  module _ (x : Input) (f : made ≡ Some x) where
    pub light_fits : ((i : ℕ) → Fits w8 (get_or input i 0)) → (out : List ℕ) → output_most ≤ length out → Roomy input out
    light_fits b out h = record { room = omega (arith, output_fits input (λ i. omega (arith, b i)), ap length (light x f)) }

    pub light_written : (out b : List ℕ) (q : ℕ) → WrittenTo out 0 (loaded_output input) b q → WrittenTo out 0 (program_of input) b q
    light_written out b q p = subst (λ (s : List ℕ). WrittenTo out 0 s b q) (light x f) p

pub ruleset wholes = (heavy_fits, heavy_written, light_fits, light_written, rules)
