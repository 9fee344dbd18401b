use Rattle.laying.proofs.Sides.{side_rooms}
use Rattle.laying.proofs.append_side.Goals as goal

pub overflow_cast-table : goal.overflow_cast-table
overflow_cast-table c = search side_rooms

pub returns-then-i-n : goal.returns-then-i-n
returns-then-i-n c = search side_rooms

pub returns : goal.returns
returns c = search side_rooms
