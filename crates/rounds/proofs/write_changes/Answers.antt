use Rattle.rounds.proofs.Writes.{change_writes}
use Rattle.rounds.proofs.write_changes.Goals as goal

pub returns : goal.returns
returns c = search change_writes
