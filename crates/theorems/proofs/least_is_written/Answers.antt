use Rattle.answers.proofs.LeastWords.{least_written}
use Rattle.theorems.proofs.least_is_written.Goals as goal

pub returns : goal.returns
returns c = least_written
