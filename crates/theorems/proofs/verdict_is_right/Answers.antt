use Rattle.overlap.proofs.Theorems.{verdicts_right}
use Rattle.theorems.proofs.verdict_is_right.Goals as goal

pub returns : goal.returns
returns c = verdicts_right
