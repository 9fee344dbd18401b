use Rattle.members.proofs.Laws.{best_next, best_start, first_members}
use Rattle.members.proofs.first_member.Goals as goal

pub loop-j-init : goal.loop-j-init
loop-j-init c = search (first_members, best_start, best_next)

pub loop-j-preserved : goal.loop-j-preserved
loop-j-preserved c = search (first_members, best_start, best_next)

pub returns : goal.returns
returns c = search (first_members, best_start, best_next)
