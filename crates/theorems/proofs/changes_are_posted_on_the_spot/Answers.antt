use Rattle.held.proofs.Postings.{posted_on_the_spot}
use Rattle.theorems.proofs.changes_are_posted_on_the_spot.Goals as goal

pub returns : goal.returns
returns c = posted_on_the_spot
