use Rattle.records.proofs.Starts.{starts}
use Rattle.records.proofs.relation_start.Goals as goal

pub loop-init : goal.loop-init
loop-init c = search starts
