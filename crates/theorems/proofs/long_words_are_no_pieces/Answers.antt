use Rattle.removal.proofs.Theorems.{long_no_piece}
use Rattle.theorems.proofs.long_words_are_no_pieces.Goals as goal

pub returns : goal.returns
returns c = long_no_piece
