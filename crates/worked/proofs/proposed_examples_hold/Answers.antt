use Rattle.worked.proofs.Tickets.{proposals_shown}
use Rattle.worked.proofs.proposed_examples_hold.Goals as goal

pub returns : goal.returns
returns c = proposals_shown
