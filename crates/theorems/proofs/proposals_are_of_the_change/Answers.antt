use Rattle.held.proofs.Postings.{proposals_of_change}
use Rattle.theorems.proofs.proposals_are_of_the_change.Goals as goal

pub returns : goal.returns
returns c = proposals_of_change
