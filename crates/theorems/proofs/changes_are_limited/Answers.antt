use Rattle.held.proofs.Postings.{changes_limited}
use Rattle.theorems.proofs.changes_are_limited.Goals as goal

pub returns : goal.returns
returns c = changes_limited
