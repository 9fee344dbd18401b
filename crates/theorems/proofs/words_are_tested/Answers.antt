use Rattle.overlap.proofs.Theorems.{words_tested}
use Rattle.theorems.proofs.words_are_tested.Goals as goal

pub returns : goal.returns
returns c = words_tested
