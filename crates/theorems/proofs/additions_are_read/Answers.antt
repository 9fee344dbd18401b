use Rattle.format.proofs.Additions.{additions_read}
use Rattle.theorems.proofs.additions_are_read.Goals as goal

pub returns : goal.returns
returns c = additions_read
