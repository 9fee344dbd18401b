use Rattle.held.proofs.Postings.{changes_counted}
use Rattle.theorems.proofs.changes_are_counted.Goals as goal

pub returns : goal.returns
returns c = changes_counted
