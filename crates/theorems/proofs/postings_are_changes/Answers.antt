use Rattle.held.proofs.Postings.{postings_are_changes}
use Rattle.theorems.proofs.postings_are_changes.Goals as goal

pub returns : goal.returns
returns c = postings_are_changes
