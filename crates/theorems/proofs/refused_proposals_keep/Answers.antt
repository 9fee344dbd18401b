use Rattle.held.proofs.Postings.{proposals_keep}
use Rattle.theorems.proofs.refused_proposals_keep.Goals as goal

pub returns : goal.returns
returns c = proposals_keep
