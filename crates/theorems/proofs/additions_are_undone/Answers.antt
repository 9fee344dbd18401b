use Rattle.held.proofs.Theorems.{additions_undone}
use Rattle.theorems.proofs.additions_are_undone.Goals as goal

pub returns : goal.returns
returns c = additions_undone
