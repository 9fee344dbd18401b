use Rattle.held.proofs.Postings.{never_stale}
use Rattle.theorems.proofs.changes_are_never_stale.Goals as goal

pub returns : goal.returns
returns c = never_stale
