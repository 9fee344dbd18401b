use Rattle.changes.proofs.Laws.{mades}
use Rattle.changes.proofs.cut_heads.Goals as goal

pub returns : goal.returns
returns c = search mades
