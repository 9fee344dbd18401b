-- Numbers and lines worked out by hand, as the codes of their characters; that the definitions give them is one theorem (proofs/Examples.antt).
use Rattle.std.specs.Prelude.{[], ◌∷◌, ◌≡◌}
use Rattle.spelling.specs.Decimal.{decimal}
use Rattle.spelling.specs.Lines.{line_of, pair_line_of}

-- the digits 0 to 9 are the codes 48 to 57; a space is 32, a newline 10
pub record SpellingsHold : Type 0 where
  pub zero : decimal 0 ≡ (48 ∷ [])
  pub nine : decimal 9 ≡ (57 ∷ [])
  pub ten : decimal 10 ≡ (49 ∷ 48 ∷ [])
  pub place : decimal 5043 ≡ (53 ∷ 48 ∷ 52 ∷ 51 ∷ [])
  -- `ab 20`, and `ab 8 0`
  pub line : line_of (97 ∷ 98 ∷ []) 20 ≡ (97 ∷ 98 ∷ 32 ∷ 50 ∷ 48 ∷ 10 ∷ [])
  pub pair : pair_line_of (97 ∷ 98 ∷ []) 8 0 ≡ (97 ∷ 98 ∷ 32 ∷ 56 ∷ 32 ∷ 48 ∷ 10 ∷ [])
