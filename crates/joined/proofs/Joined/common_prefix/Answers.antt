use Rattle.joined.proofs.Laws.{agrees}
use Rattle.joined.proofs.Joined.common_prefix.Goals as goal

pub common_prefix_in-requires : goal.common_prefix_in-requires
common_prefix_in-requires c = search agrees

pub returns-then-front-q : goal.returns-then-front-q
returns-then-front-q c = search agrees

pub common_prefix_in-requires-then-room-m : goal.common_prefix_in-requires-then-room-m
common_prefix_in-requires-then-room-m c = search agrees

pub overflow_add-result : goal.overflow_add-result
overflow_add-result c = search agrees

pub returns-then-room-m : goal.returns-then-room-m
returns-then-room-m c = search agrees

pub common_prefix_in-r-requires : goal.common_prefix_in-r-requires
common_prefix_in-r-requires c = search agrees

pub returns-then-r-room : goal.returns-then-r-room
returns-then-r-room c = search agrees

pub common_prefix_in-requires-2 : goal.common_prefix_in-requires-2
common_prefix_in-requires-2 c = search agrees

pub overflow_add-result-2 : goal.overflow_add-result-2
overflow_add-result-2 c = search agrees

pub returns : goal.returns
returns c = search agrees
