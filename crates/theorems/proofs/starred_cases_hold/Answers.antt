use Rattle.congruence.proofs.Starred.{starred_hold}
use Rattle.theorems.proofs.starred_cases_hold.Goals as goal

pub returns : goal.returns
returns c = starred_hold
