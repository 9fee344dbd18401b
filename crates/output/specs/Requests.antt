-- What a record of the kind 3 part asks for, before anything is compared (document 01, "The program").
use Rattle.std.specs.Prelude.{ℕ, ◌+◌, ◌*◌, ◌-◌, cond, List, Result, Ok, Err}
use Rattle.limits.specs.Limits.{comparison_kind, comparison_fixed_payload}
use Rattle.refusals.specs.declared.Refusal.{Refusal}
use Rattle.refusals.specs.declared.Refusal.TheVariants.{Short, Kind, Length}
use Rattle.format.specs.Book.{field, record_at, on_whole, differs}
use Rattle.output.specs.declared.Request.{Request}

-- a four-byte field, little-endian
abbrev pub long_field : List ℕ → ℕ → ℕ
long_field input at = field input at + 65536 * field input (at + 2)

-- 3, or the comparison whose payload lies between two positions (a four-byte allowance, two-byte lengths m and n, and m and n letters): its allowance, where
-- its first word begins, where the second begins and where it ends
unfoldable pub fields_of : List ℕ → ℕ → ℕ → ℕ → Result Request Refusal
fields_of input place from to =
    cond (differs (to - from) (comparison_fixed_payload + field input (from + 4) + field input (from + 6))) (Err (Length place))
    (Ok
    (record {
      allowance = long_field input from;
      first = from + comparison_fixed_payload;
      second = from + comparison_fixed_payload + field input (from + 4);
      end = to;
    }))

-- the record at a position: 1 and 2, then 3
unfoldable pub request_at : List ℕ → ℕ → Result Request Refusal
request_at input at =
    on_whole (record_at input at) (Err (Short at)) (λ kind from to.
    cond (differs kind comparison_kind) (Err (Kind at))
    (fields_of input at from to))
