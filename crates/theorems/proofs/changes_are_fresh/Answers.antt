use Rattle.held.proofs.Theorems.{changes_fresh}
use Rattle.theorems.proofs.changes_are_fresh.Goals as goal

pub returns : goal.returns
returns c = changes_fresh
