use Rattle.moves.proofs.Drops.{droppings}
use Rattle.moves.proofs.drop_plan.Goals as goal

pub returns : goal.returns
returns c = search droppings
