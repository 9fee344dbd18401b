use Rattle.overlap.proofs.Theorems.{counts_fewest}
use Rattle.theorems.proofs.counts_are_fewest.Goals as goal

pub returns : goal.returns
returns c = counts_fewest
