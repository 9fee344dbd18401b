use Rattle.index.proofs.Seeking.{meetings}
use Rattle.index.proofs.compare_on.Goals as goal

pub returns-then-r-to : goal.returns-then-r-to
returns-then-r-to c = search meetings

pub returns : goal.returns
returns c = search meetings
