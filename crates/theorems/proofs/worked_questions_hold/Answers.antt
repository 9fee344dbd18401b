use Rattle.asked.proofs.Examples.{asked_hold}
use Rattle.theorems.proofs.worked_questions_hold.Goals as goal

pub returns : goal.returns
returns c = asked_hold
