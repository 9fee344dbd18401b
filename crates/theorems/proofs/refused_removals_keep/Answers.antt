use Rattle.removal.proofs.Keeping.{removals_keep}
use Rattle.theorems.proofs.refused_removals_keep.Goals as goal

pub returns : goal.returns
returns c = removals_keep
