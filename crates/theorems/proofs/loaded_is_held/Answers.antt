use Rattle.held.proofs.Theorems.{loaded_holds}
use Rattle.theorems.proofs.loaded_is_held.Goals as goal

pub returns : goal.returns
returns c = loaded_holds
