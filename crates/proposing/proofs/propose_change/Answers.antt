use Rattle.proposing.proofs.Laws.{proposals}
use Rattle.proposing.proofs.propose_change.Goals as goal

pub slice_bounds-fresh-end : goal.slice_bounds-fresh-end
slice_bounds-fresh-end c = search (proposals, c.in_ok-n.ensures)

pub slice_bounds-show-end : goal.slice_bounds-show-end
slice_bounds-show-end c = search (proposals, c.in_ok-n.ensures)

pub show-requires : goal.show-requires
show-requires c = search (proposals, c.in_ok-n.ensures)

pub returns : goal.returns
returns c = search (proposals, c.in_ok-n.ensures)
