use Rattle.comparison.proofs.Laws.{goings}
use Rattle.comparison.proofs.make_rounds.Goals as goal

pub returns-in-End : goal.returns-in-End
returns-in-End c = search goings

pub returns-then-budget-done : goal.returns-then-budget-done
returns-then-budget-done c = search goings

pub loop-same-preserved : goal.loop-same-preserved
loop-same-preserved c = search goings
