-- A law for each way that the writing of letters can go.
use Prim.Native.Nat.{ℕ, ◌+◌, ◌*◌, ◌^◌, ◌<◌, ◌≤◌}
use mathlib.Core.List.{List}
use mathlib.Core.Path.{◌≡◌, refl, ap, ◌∙◌, subst}
use native.Mathlib.Omega.{arith}
use borrow.Author.Rules.{rules}
use lib.ListN.{length}
use mir.Val.{Fits}
use mir.Syntax.{w64}
use Rattle.words.specs.Words.{Word, part}
use Rattle.words.proofs.Parts.{part_length}
use Rattle.writing.specs.Writing.{Bytes, Narrowing}
use Rattle.words.specs.Writing.{written}
use Rattle.writing.proofs.Writing.{written_length}
use Rattle.limits.specs.Limits.{side_most}
use Rattle.parts.specs.declared.Source.{Source}
use Rattle.parts.specs.declared.Source.TheVariants as Sources
use Rattle.parts.specs.State.{LettersLow, LettersFit, SourceFits, source_word}
use Rattle.leastword.specs.Writing.{LettersPuttable, Puttable, Put}

-- letters fit in bytes
pub low_bytes : (w : Word) → LettersLow w → Bytes w
low_bytes w l = record { at = λ k h. omega (arith, l.at k h) }

module _ (c d : List ℕ) (at : ℕ) (p : LettersPuttable c at) where
  pub letters_narrow : at + length c ≤ length d → Narrowing c d at
  letters_narrow h = record { room = h; bytes = p.bytes }

  pub letters_put : (b : List ℕ) → at + length c ≤ length d → b ≡ written at c d → Put c d at b (at + length c)
  letters_put b h e = record { behind = refl; long = ap length e ∙ written_length at c d h; same = λ _. e }

  pub letters_kept : length d < at + length c → Put c d at d (at + length c)
  letters_kept h = record { behind = refl; long = refl; same = λ k. absurd (omega arith) }

pub ruleset puts = (letters_narrow, letters_put, letters_kept, rules)

-- a part has no more letters than a relation word
pub source_short : (text : List ℕ) (given : Word) (source : Source) → SourceFits text given source → length (source_word text given source) ≤ side_most
unfolding source_word
source_short text given (Sources.Text from to) f = omega (arith, part_length text from to f.inside, f.short)
source_short text given (Sources.Given from to) f = omega (arith, part_length given from to f.inside, f.short)

module _ (text : List ℕ) (given : Word) (source : Source) (at : ℕ) (p : Puttable text given source at) (from to : ℕ) where
  module _ (e : source ≡ Sources.Given from to) where
    given_fits : LettersFit given given from to
    given_fits = subst (SourceFits text given) e p.fits

    pub given_up : from ≤ to
    given_up = given_fits.up

    pub given_inside : to ≤ length given
    given_inside = given_fits.inside

    pub given_scaled : length given * 2 < 2 ^ 63 → Fits w64 (from * 2)
    given_scaled h = let i = given_inside in let u = given_up in omega arith

    pub given_puttable : LettersPuttable (part given from to) at
    given_puttable =
        let l = part_length given from to given_inside in
        record { bytes = low_bytes _ (given_fits.low p.low); short = omega (arith, given_fits.short); few = p.few }

    pub given_put : (d b : List ℕ) (r : ℕ) → Put (part given from to) d at b r → Put (source_word text given source) d at b r
    unfolding source_word
    given_put d b r h = rw e h

  module _ (e : source ≡ Sources.Text from to) where
    text_fits : LettersFit text given from to
    text_fits = subst (SourceFits text given) e p.fits

    pub text_up : from ≤ to
    text_up = text_fits.up

    pub text_inside : to ≤ length text
    text_inside = text_fits.inside

    pub text_scaled : length text * 2 < 2 ^ 63 → Fits w64 (from * 2)
    text_scaled h = let i = text_inside in let u = text_up in omega arith

    pub text_puttable : LettersPuttable (part text from to) at
    text_puttable =
        let l = part_length text from to text_inside in
        record { bytes = low_bytes _ (text_fits.low p.low); short = omega (arith, text_fits.short); few = p.few }

    pub text_put : (d b : List ℕ) (r : ℕ) → Put (part text from to) d at b r → Put (source_word text given source) d at b r
    unfolding source_word
    text_put d b r h = rw e h

pub ruleset sources = (given_up, given_inside, given_scaled, given_puttable, given_put, text_up, text_inside, text_scaled, text_puttable, text_put, rules)
