use Rattle.format.proofs.Readings.{read_within}
use Rattle.theorems.proofs.read_is_within.Goals as goal

pub returns : goal.returns
returns c = read_within
