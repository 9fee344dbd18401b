use Rattle.output.proofs.Whole.{wholes}
use Rattle.program.proofs.write_program.Goals as goal

pub returns-in_default : goal.returns-in_default
returns-in_default c = search wholes

pub returns : goal.returns
returns c = search wholes
