use Rattle.congruence.proofs.Theorem.{comparison_shape}
use Rattle.theorems.proofs.comparison_has_shape.Goals as goal

pub returns : goal.returns
returns c = comparison_shape
