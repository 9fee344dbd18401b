use Rattle.overlap.proofs.Theorems.{tests_pieces}
use Rattle.theorems.proofs.test_is_for_pieces.Goals as goal

pub returns : goal.returns
returns c = tests_pieces
