use Rattle.overlap.proofs.Theorems.{cuts_good}
use Rattle.theorems.proofs.cuts_are_good.Goals as goal

pub returns : goal.returns
returns c = cuts_good
