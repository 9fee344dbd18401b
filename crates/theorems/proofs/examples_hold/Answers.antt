use Rattle.format.proofs.Examples.{examples_hold}
use Rattle.theorems.proofs.examples_hold.Goals as goal

pub returns : goal.returns
returns c = examples_hold
