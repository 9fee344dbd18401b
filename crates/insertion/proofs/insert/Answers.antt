use Rattle.insertion.proofs.Inserting.{shifts}
use Rattle.insertion.proofs.insert.Goals as goal

pub is_before_listed-requires : goal.is_before_listed-requires
is_before_listed-requires c = search shifts

pub move_up-requires : goal.move_up-requires
move_up-requires c = search shifts

pub loop-i-preserved : goal.loop-i-preserved
loop-i-preserved c = search shifts

pub overflow_add-table : goal.overflow_add-table
overflow_add-table c = search shifts

pub offset_bounds-table-i : goal.offset_bounds-table-i
offset_bounds-table-i c = search shifts

pub bounds-table-i : goal.bounds-table-i
bounds-table-i c = search shifts

pub returns : goal.returns
returns c = search shifts
