use Rattle.removal.proofs.Theorems.{nothing_removed}
use Rattle.theorems.proofs.nothing_removed_is_least.Goals as goal

pub returns : goal.returns
returns c = nothing_removed
