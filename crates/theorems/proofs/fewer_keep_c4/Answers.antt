use Rattle.overlap.proofs.Fewer.{fewer_keep_c4}
use Rattle.theorems.proofs.fewer_keep_c4.Goals as goal

pub returns : goal.returns
returns c = fewer_keep_c4
