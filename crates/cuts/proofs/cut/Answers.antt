use Rattle.cuts.proofs.Cutting.{cuts}
use Rattle.cuts.proofs.cut.Goals as goal

pub loop-i-preserved : goal.loop-i-preserved
loop-i-preserved c = search cuts
