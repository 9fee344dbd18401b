use Rattle.held.proofs.Theorems.{loadings_keep}
use Rattle.theorems.proofs.refused_loadings_keep.Goals as goal

pub returns : goal.returns
returns c = loadings_keep
