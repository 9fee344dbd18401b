use Rattle.overlap.proofs.Theorems.{pieces_closed}
use Rattle.theorems.proofs.pieces_are_closed.Goals as goal

pub returns : goal.returns
returns c = pieces_closed
