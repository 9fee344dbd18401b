use Rattle.held.proofs.Theorems.{withdrawals_hold}
use Rattle.theorems.proofs.withdrawals_hold.Goals as goal

pub returns : goal.returns
returns c = withdrawals_hold
