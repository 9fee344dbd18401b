use Rattle.leastword.proofs.Rounds.{going_end, goings}
use Rattle.leastword.proofs.write_least.Goals as goal

pub loop-stage-init : goal.loop-stage-init
loop-stage-init c = search goings

pub returns-in-End : goal.returns-in-End
returns-in-End c = going_end _ _ _ _ _ _ _ _ _ c.loop-stage.invariant _ c.make_part.ensures _ c.in_ok-stage.was c.in-End.is

pub returns-in_err-stage : goal.returns-in_err-stage
returns-in_err-stage c = search goings

pub loop-stage-preserved : goal.loop-stage-preserved
loop-stage-preserved c = search goings
