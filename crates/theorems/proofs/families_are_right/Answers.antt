use Rattle.words.proofs.Families.{families_right}
use Rattle.theorems.proofs.families_are_right.Goals as goal

pub returns : goal.returns
returns c = families_right
