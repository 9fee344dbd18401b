-- What the fields of a text are, with a byte between them, and what number a text writes.
use Rattle.std.specs.Prelude.{ℕ, ◌+◌, ◌-◌, ◌*◌, ◌^◌, min, List, [], get_or, fold, ◌==◌, nat_le, ◌&&◌, if◌then◌else◌}
use Rattle.std.specs.List.{slice_split}

-- a field, the fields counted from 0; where there are fewer, it has no bytes
abbrev pub field_of : List ℕ → ℕ → ℕ → List ℕ
field_of text between number = get_or (slice_split (λ byte. byte == between) text) number []

-- the value of a hexadecimal digit, `0` to `9` and `a` to `f`; any other byte counts 0
abbrev pub digit_of : ℕ → ℕ
digit_of c = if nat_le 48 c && nat_le c 57 then c - 48 else (if nat_le 97 c && nat_le c 102 then c - 87 else 0)

-- the value of a decimal text, at most the largest number of four bytes
abbrev pub decimal_of : List ℕ → ℕ
decimal_of text = min (fold (λ value c. 10 * value + digit_of c) 0 text) (2 ^ 32 - 1)
