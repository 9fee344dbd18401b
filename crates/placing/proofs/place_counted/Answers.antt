use Rattle.answers.proofs.LeastCalls.{placings}
use Rattle.placing.proofs.place_counted.Goals as goal

pub returns-then-lacks_space : goal.returns-then-lacks_space
returns-then-lacks_space c = search placings

pub slice_bounds-write_least-count : goal.slice_bounds-write_least-count
slice_bounds-write_least-count c = search placings

pub slice_bounds-write_least-start : goal.slice_bounds-write_least-start
slice_bounds-write_least-start c = search placings

pub returns : goal.returns
returns c = search placings
