-- A field as a part of its text, and a decimal text's value, kept small step by step.
use Rattle.std.proofs.Common.{ℕ, zero, suc, ◌≡◌, ◌+◌, ◌-◌, ◌*◌, ◌^◌, min, List, [], ◌∷◌, get_or, fold, Bor, Option, Some, None, option_map, unwrap_or, slice_get, refl, arith}
use Rattle.std.proofs.lemmas.List.Folds.{fold_along}
use Rattle.fields.specs.Texts.{digit_of, decimal_of}

-- the element at a number, or another where there is none
pub read_or : (parts : List (List ℕ)) (n : ℕ) (r : Option (Bor (List ℕ))) (d : Bor (List ℕ)) → option_map (λ y. y.now) r ≡ slice_get parts n
    → (unwrap_or r d).now ≡ get_or parts n d.now
read_or [] n None d e = refl
read_or [] n (Some x) d e = cc
read_or (part ∷ parts) zero None d e = cc
read_or (part ∷ parts) zero (Some x) d e = cc
read_or (part ∷ parts) (suc n) r d e = read_or parts n r d e

-- a step of a decimal text's value, kept below 2³²
abbrev pub step : ℕ → ℕ → ℕ
step value c = min (min (value * 10) (2 ^ 32 - 1) + digit_of c) (2 ^ 32 - 1)

pub step_kept : (small value c : ℕ) → small ≡ min value (2 ^ 32 - 1) → step small c ≡ min (10 * value + digit_of c) (2 ^ 32 - 1)
step_kept small value c e = grind (arith)

pub decimal_kept : (text : List ℕ) → fold step 0 text ≡ decimal_of text
decimal_kept text = fold_along step (λ value c. 10 * value + digit_of c) (λ small value. small ≡ min value (2 ^ 32 - 1)) (λ small value c e. step_kept small value c e) 0 0 text refl
