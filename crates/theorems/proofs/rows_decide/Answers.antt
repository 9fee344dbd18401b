use Rattle.congruence.proofs.Theorem.{rows_decide}
use Rattle.theorems.proofs.rows_decide.Goals as goal

pub returns : goal.returns
returns c = rows_decide
