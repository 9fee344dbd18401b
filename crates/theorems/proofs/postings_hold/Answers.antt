use Rattle.held.proofs.Postings.{postings_hold}
use Rattle.theorems.proofs.postings_hold.Goals as goal

pub returns : goal.returns
returns c = postings_hold
