-- How large the output can get: a number of bytes that is enough for every input (document 01, "The program").
use Rattle.std.specs.Prelude.{ℕ, ◌+◌, ◌*◌, ◌/◌, ◌≤◌, List, [], ◌∷◌, length}
use Rattle.limits.specs.Limits.{record_prefix, input_most, comparison_fixed_payload}
use Rattle.format.specs.Bytes.{AreBytes}
use Rattle.output.specs.Program.{program_of}

-- no line is longer: `refused`, a number of at most two digits, a place of at most ten, two spaces and a newline
abbrev pub line_most : ℕ
line_most = 22

-- the bytes of the output are at most: a line for the book and one for each comparison record that the input has room for. A record takes at least 12 bytes
abbrev pub output_most : ℕ
output_most = line_most * (1 + input_most / (record_prefix + comparison_fixed_payload))

-- no input has a longer output
abbrev pub OutputFits : Type 0
OutputFits = (input : List ℕ) → AreBytes input → length (program_of input) ≤ output_most

-- the numbers above, as the code gives its constants
abbrev pub sizes : List ℕ
sizes = line_most ∷ output_most ∷ []
