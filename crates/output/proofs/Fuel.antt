-- The fuel of the definitions never runs out.
use Prim.Native.Nat.{ℕ, zero, suc, ◌+◌, ◌≤◌}
use mathlib.Core.Bool.{Bool, true, false, cond}
use mathlib.Core.List.{List, [], ◌++◌}
use mathlib.Core.Path.{◌≡◌, refl, sym, ap}
use native.Mathlib.Omega.{arith}
use borrow.Author.Tests.{lt-ltb, le-leb}
use lib.Dec.{leb}
use lib.ListN.{length}
use Rattle.std.specs.Prelude.{Result, Ok, Err}
use Rattle.words.specs.Words.{Word, part}
use Rattle.format.specs.Book.{field}
use Rattle.asked.specs.Comparing.{comparison_of}
use Rattle.refusals.specs.declared.Refusal.{Refusal}
use Rattle.output.specs.declared.Request.{Request}
use Rattle.output.specs.Requests.{request_at}
use Rattle.output.specs.Program.{comparison_line, book_end_from, by_request, lines_from, FuelSuffices}
use Rattle.output.proofs.Reading.{lies_of}

end_fuel : (fuel larger : ℕ) (input : List ℕ) (at : ℕ) → length input ≤ at + fuel → fuel ≤ larger → book_end_from larger input at ≡ book_end_from fuel input at
unfolding book_end_from
end_fuel zero zero input at h l = refl
end_fuel zero (suc larger) input at h l = rw (lt-ltb (length input) (at + 4) (omega arith))
end_fuel (suc fuel) zero input at h l = absurd (omega arith)
end_fuel (suc fuel) (suc larger) input at h l = rw (end_fuel fuel larger input (at + 4 + field input at) (omega arith) (omega arith))

lines_fuel : (fuel larger letters : ℕ) (B : List Word) (family : ℕ → ℕ) (input : List ℕ) (at : ℕ) → length input ≤ at + fuel → fuel ≤ larger
    → lines_from larger letters B family input at ≡ lines_from fuel letters B family input at
unfolding lines_from
lines_fuel zero zero letters B family input at h l = refl
lines_fuel zero (suc larger) letters B family input at h l = rw (le-leb (length input) at (omega arith))
lines_fuel (suc fuel) zero letters B family input at h l = absurd (omega arith)
lines_fuel (suc fuel) (suc larger) letters B family input at h l =
    go (leb (length input) at) (request_at input at) refl (λ end k. lines_fuel fuel larger letters B family input end k (omega arith))
  where
    go : (b : Bool) (r : Result Request Refusal) → request_at input at ≡ r
        → ((end : ℕ) → length input ≤ end + fuel → lines_from larger letters B family input end ≡ lines_from fuel letters B family input end)
        → cond b [] (by_request (lines_from larger letters B family input) letters B family input r) ≡ cond b [] (by_request (lines_from fuel letters B family input) letters B family input r)
    go true r e f = refl
    go false (Err x) e f = refl
    go false (Ok request) e f =
        let w = lies_of input at (Ok request) (sym e) request refl in
        let u = part input request.first request.second in
        let v = part input request.second request.end in
        ap (λ (t : List ℕ). comparison_line (comparison_of letters B family u v request.allowance) ++ t) (f request.end (omega (arith, w.behind)))

pub fuel_suffices : FuelSuffices
fuel_suffices = record { end = end_fuel; lines = lines_fuel }
