use Rattle.longest.proofs.Passes.{passes}
use Rattle.longest.proofs.pass.Goals as goal

pub loop-q-init : goal.loop-q-init
loop-q-init c = search passes

pub loop-q-preserved : goal.loop-q-preserved
loop-q-preserved c = search passes
