use Rattle.walks.proofs.Laws.{partings}
use Rattle.walks.proofs.turn_before.Goals as goal

pub overflow_add-from : goal.overflow_add-from
overflow_add-from c = search partings

pub overflow_add-from-2 : goal.overflow_add-from-2
overflow_add-from-2 c = search partings

pub take_turn-requires : goal.take_turn-requires
take_turn-requires c = search partings

pub returns-then-q-end : goal.returns-then-q-end
returns-then-q-end c = search partings

pub returns : goal.returns
returns c = search partings
