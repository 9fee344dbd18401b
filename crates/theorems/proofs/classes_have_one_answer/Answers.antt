use Rattle.removal.proofs.Theorems.{classes_alike}
use Rattle.theorems.proofs.classes_have_one_answer.Goals as goal

pub returns : goal.returns
returns c = classes_alike
