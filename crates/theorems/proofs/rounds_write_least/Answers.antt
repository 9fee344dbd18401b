use Rattle.least.proofs.Theorem.{rounds_write_least}
use Rattle.theorems.proofs.rounds_write_least.Goals as goal

pub returns : goal.returns
returns c = rounds_write_least
