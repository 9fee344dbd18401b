use Rattle.pieces.proofs.Verdicts.{wholes}
use Rattle.pieces.proofs.judge_whole.Goals as goal

pub returns-then-r-n : goal.returns-then-r-n
returns-then-r-n c = search wholes

pub cut-requires : goal.cut-requires
cut-requires c = search wholes

pub returns : goal.returns
returns c = search wholes
