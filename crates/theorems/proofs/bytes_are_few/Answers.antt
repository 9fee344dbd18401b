use Rattle.format.proofs.Lengths.{bytes_few}
use Rattle.theorems.proofs.bytes_are_few.Goals as goal

pub returns : goal.returns
returns c = bytes_few
