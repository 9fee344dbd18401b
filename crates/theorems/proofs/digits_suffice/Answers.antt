use Rattle.spelling.proofs.Decimal.{fuel_suffices}
use Rattle.theorems.proofs.digits_suffice.Goals as goal

pub returns : goal.returns
returns c = fuel_suffices
