use Rattle.moves.proofs.Drops.{rounds}
use Rattle.moves.proofs.make_move.Goals as goal

pub carry_out-requires : goal.carry_out-requires
carry_out-requires c = search rounds

pub returns-in-Some-eq2 : goal.returns-in-Some-eq2
returns-in-Some-eq2 c = search rounds

pub carry_out-requires-in_default : goal.carry_out-requires-in_default
carry_out-requires-in_default c = search rounds

pub returns-in_default : goal.returns-in_default
returns-in_default c = search rounds
