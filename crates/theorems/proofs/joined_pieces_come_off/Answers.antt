use Rattle.removal.proofs.Theorems.{joined_come_off}
use Rattle.theorems.proofs.joined_pieces_come_off.Goals as goal

pub returns : goal.returns
returns c = joined_come_off
