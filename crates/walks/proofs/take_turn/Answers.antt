use Rattle.walks.proofs.Laws.{turns}
use Rattle.walks.proofs.take_turn.Goals as goal

pub mark_in_any_x-requires : goal.mark_in_any_x-requires
mark_in_any_x-requires c = search turns

pub read_site-own-requires : goal.read_site-own-requires
read_site-own-requires c = search turns

pub overflow_sub-result : goal.overflow_sub-result
overflow_sub-result c = search turns

pub overflow_add-result : goal.overflow_add-result
overflow_add-result c = search turns

pub returns-then-mark_in_any_x : goal.returns-then-mark_in_any_x
returns-then-mark_in_any_x c = search turns

pub returns : goal.returns
returns c = search turns
