use Rattle.answers.proofs.Program.{program_compares}
use Rattle.theorems.proofs.program_compares.Goals as goal

pub returns : goal.returns
returns c = program_compares
