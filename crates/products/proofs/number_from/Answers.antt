use Rattle.products.proofs.Numbering.{numbering}
use Rattle.products.proofs.number_from.Goals as goal

pub loop-a-init : goal.loop-a-init
loop-a-init c = search numbering

pub returns-then-piece-eq0 : goal.returns-then-piece-eq0
returns-then-piece-eq0 c = search numbering

pub loop-a-preserved : goal.loop-a-preserved
loop-a-preserved c = search numbering

pub returns : goal.returns
returns c = search numbering
