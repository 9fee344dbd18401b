use Rattle.overlap.proofs.Theorems.{lone_letters}
use Rattle.theorems.proofs.lone_letters_tell.Goals as goal

pub returns : goal.returns
returns c = lone_letters
