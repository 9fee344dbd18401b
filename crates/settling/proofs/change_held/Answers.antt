use Rattle.settling.proofs.Laws.{changes}
use Rattle.settling.proofs.change_held.Goals as goal

pub slice_bounds-fresh-end : goal.slice_bounds-fresh-end
slice_bounds-fresh-end c = search (changes, c.in_ok-n.ensures)

pub slice_bounds-settle-end : goal.slice_bounds-settle-end
slice_bounds-settle-end c = search (changes, c.in_ok-n.ensures)

pub settle-requires : goal.settle-requires
settle-requires c = search (changes, c.in_ok-n.ensures)

pub returns : goal.returns
returns c = search (changes, c.in_ok-n.ensures)
