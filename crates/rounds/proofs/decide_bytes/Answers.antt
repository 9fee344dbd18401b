use Rattle.rounds.proofs.Writes.{decisions}
use Rattle.rounds.proofs.decide_bytes.Goals as goal

pub decide-requires : goal.decide-requires
decide-requires c = search decisions
