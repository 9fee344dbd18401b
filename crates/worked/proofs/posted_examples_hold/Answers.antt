use Rattle.worked.proofs.Tickets.{postings_given}
use Rattle.worked.proofs.posted_examples_hold.Goals as goal

pub returns : goal.returns
returns c = postings_given
