use Rattle.rounds.proofs.Writes.{writings}
use Rattle.rounds.proofs.write_change.Goals as goal

pub returns : goal.returns
returns c = search writings
