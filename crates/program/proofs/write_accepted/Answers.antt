use Rattle.output.proofs.Lines.{accepts}
use Rattle.program.proofs.write_accepted.Goals as goal

pub returns : goal.returns
returns c = search accepts
