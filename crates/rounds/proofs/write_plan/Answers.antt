use Rattle.rounds.proofs.Writes.{plan_writes}
use Rattle.rounds.proofs.write_plan.Goals as goal

pub write_changes-requires : goal.write_changes-requires
write_changes-requires c = search plan_writes

pub returns-in-End : goal.returns-in-End
returns-in-End c = search plan_writes
