use Rattle.overlap.proofs.Theorems.{numbers_small}
use Rattle.theorems.proofs.numbers_are_small.Goals as goal

pub returns : goal.returns
returns c = numbers_small
