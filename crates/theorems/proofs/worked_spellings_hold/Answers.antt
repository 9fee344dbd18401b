use Rattle.spelling.proofs.Examples.{spellings_hold}
use Rattle.theorems.proofs.worked_spellings_hold.Goals as goal

pub returns : goal.returns
returns c = spellings_hold
