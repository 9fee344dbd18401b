use Rattle.overlap.proofs.Theorems.{cuts_maximal}
use Rattle.theorems.proofs.cuts_are_maximal.Goals as goal

pub returns : goal.returns
returns c = cuts_maximal
