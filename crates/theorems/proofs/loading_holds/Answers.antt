use Rattle.held.proofs.Theorems.{loadings_hold}
use Rattle.theorems.proofs.loading_holds.Goals as goal

pub returns : goal.returns
returns c = loadings_hold
