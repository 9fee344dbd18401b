use Rattle.format.proofs.Readings.{fuel_suffices}
use Rattle.theorems.proofs.fuel_suffices.Goals as goal

pub returns : goal.returns
returns c = fuel_suffices
