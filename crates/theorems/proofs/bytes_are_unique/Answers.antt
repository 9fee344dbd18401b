use Rattle.format.proofs.Unique.{bytes_unique}
use Rattle.theorems.proofs.bytes_are_unique.Goals as goal

pub returns : goal.returns
returns c = bytes_unique
