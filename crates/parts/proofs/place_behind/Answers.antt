use Rattle.parts.proofs.Rounds.{behinds}
use Rattle.parts.proofs.place_behind.Goals as goal

pub overflow_sub-result : goal.overflow_sub-result
overflow_sub-result c = search behinds

pub overflow_sub-result-3 : goal.overflow_sub-result-3
overflow_sub-result-3 c = search behinds

pub overflow_add-result : goal.overflow_add-result
overflow_add-result c = search behinds

pub returns : goal.returns
returns c = search behinds
