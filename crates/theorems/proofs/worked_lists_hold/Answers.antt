use Rattle.words.proofs.WorkedLists.{lists_hold}
use Rattle.theorems.proofs.worked_lists_hold.Goals as goal

pub returns : goal.returns
returns c = lists_hold
