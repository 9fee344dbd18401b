use Rattle.overlap.proofs.Theorems.{numbers_decide}
use Rattle.theorems.proofs.numbers_decide.Goals as goal

pub returns : goal.returns
returns c = numbers_decide
