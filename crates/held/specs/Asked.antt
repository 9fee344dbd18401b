-- Which change it is that the code is asked for: a case of its enum, and the bytes that are handed on beside it.
use Rattle.std.specs.Prelude.{List, ℕ}
use Rattle.held.specs.declared.Asked.{Asked}
use Rattle.held.specs.declared.Asked.TheVariants.{Addition, Withdrawal}
use Rattle.held.specs.Changes.{Change, addition, withdrawal}

-- an addition of these bytes, or a withdrawal, which does not look at them
abbrev pub change_asked : Asked → List ℕ → Change
change_asked Addition bytes = addition bytes
change_asked (Withdrawal i) bytes = withdrawal i
