use Rattle.least.proofs.Examples.{worked_hold}
use Rattle.theorems.proofs.worked_cases_hold.Goals as goal

pub returns : goal.returns
returns c = worked_hold
