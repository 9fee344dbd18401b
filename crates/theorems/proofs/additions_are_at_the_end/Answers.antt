use Rattle.held.proofs.Additions.{additions_at_the_end}
use Rattle.theorems.proofs.additions_are_at_the_end.Goals as goal

pub returns : goal.returns
returns c = additions_at_the_end
