use Rattle.answers.proofs.Keeping.{refusals_keep}
use Rattle.theorems.proofs.refusals_keep.Goals as goal

pub returns : goal.returns
returns c = refusals_keep
