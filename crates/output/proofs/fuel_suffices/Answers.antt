use Rattle.output.proofs.Fuel.{fuel_suffices}
use Rattle.output.proofs.fuel_suffices.Goals as goal

pub returns : goal.returns
returns c = fuel_suffices
