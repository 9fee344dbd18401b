use Rattle.held.proofs.Theorems.{additions_need_c4}
use Rattle.theorems.proofs.additions_need_c4.Goals as goal

pub returns : goal.returns
returns c = additions_need_c4
