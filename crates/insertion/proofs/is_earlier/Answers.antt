use Rattle.insertion.proofs.Inserting.{pairs}
use Rattle.insertion.proofs.is_earlier.Goals as goal

pub overflow_add-result : goal.overflow_add-result
overflow_add-result c = search pairs

pub offset_bounds-text-from : goal.offset_bounds-text-from
offset_bounds-text-from c = search pairs

pub bounds-text-from : goal.bounds-text-from
bounds-text-from c = search pairs

pub overflow_add-result-2 : goal.overflow_add-result-2
overflow_add-result-2 c = search pairs

pub offset_bounds-text-to : goal.offset_bounds-text-to
offset_bounds-text-to c = search pairs

pub bounds-text-to : goal.bounds-text-to
bounds-text-to c = search pairs

pub returns : goal.returns
returns c = search pairs
