use Rattle.held.proofs.Postings.{postings_keep}
use Rattle.theorems.proofs.refused_postings_keep.Goals as goal

pub returns : goal.returns
returns c = postings_keep
