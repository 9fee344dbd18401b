use Rattle.index.proofs.Seeking.{turns}
use Rattle.index.proofs.meet_next.Goals as goal

pub returns-then-m-l : goal.returns-then-m-l
returns-then-m-l c = search turns

pub returns-then-l-m : goal.returns-then-l-m
returns-then-l-m c = search turns

pub compare_on-requires : goal.compare_on-requires
compare_on-requires c = search turns
