use Rattle.congruence.proofs.Members.{members_congruent}
use Rattle.theorems.proofs.members_are_congruent.Goals as goal

pub returns : goal.returns
returns c = members_congruent
