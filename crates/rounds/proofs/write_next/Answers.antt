use Rattle.rounds.proofs.Writes.{round_writes}
use Rattle.rounds.proofs.write_next.Goals as goal

pub write_plan-requires : goal.write_plan-requires
write_plan-requires c = search round_writes
