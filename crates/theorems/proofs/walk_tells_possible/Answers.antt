use Rattle.least.proofs.Theorem.{walk_tells_possible}
use Rattle.theorems.proofs.walk_tells_possible.Goals as goal

pub returns : goal.returns
returns c = walk_tells_possible
