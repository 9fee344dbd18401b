use Rattle.answers.proofs.LeastWords.{least_decides}
use Rattle.theorems.proofs.least_words_agree.Goals as goal

pub returns : goal.returns
returns c = least_decides
