use Rattle.worked.proofs.Changes.{examples_hold}
use Rattle.worked.proofs.examples_hold.Goals as goal

pub returns : goal.returns
returns c = examples_hold
