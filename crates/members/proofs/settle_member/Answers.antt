use Rattle.members.proofs.Laws.{settles}
use Rattle.members.proofs.settle_member.Goals as goal

pub returns-then-b : goal.returns-then-b
returns-then-b c = search settles

pub mark_in_x-requires : goal.mark_in_x-requires
mark_in_x-requires c = search settles

pub returns-then-mark_in_x : goal.returns-then-mark_in_x
returns-then-mark_in_x c = search settles

pub returns : goal.returns
returns c = search settles
