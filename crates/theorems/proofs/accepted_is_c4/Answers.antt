use Rattle.overlap.proofs.Theorems.{accepts_c4}
use Rattle.theorems.proofs.accepted_is_c4.Goals as goal

pub returns : goal.returns
returns c = accepts_c4
