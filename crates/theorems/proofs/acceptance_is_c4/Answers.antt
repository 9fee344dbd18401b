use Rattle.answers.proofs.Theorems.{acceptance}
use Rattle.theorems.proofs.acceptance_is_c4.Goals as goal

pub returns : goal.returns
returns c = acceptance
