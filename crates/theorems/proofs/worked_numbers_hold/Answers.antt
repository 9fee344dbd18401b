use Rattle.overlap.proofs.Examples.{numbers_hold}
use Rattle.theorems.proofs.worked_numbers_hold.Goals as goal

pub returns : goal.returns
returns c = numbers_hold
