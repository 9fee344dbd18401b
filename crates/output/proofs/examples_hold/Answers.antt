use Rattle.output.proofs.Examples.{examples_hold}
use Rattle.output.proofs.examples_hold.Goals as goal

pub returns : goal.returns
returns c = examples_hold
