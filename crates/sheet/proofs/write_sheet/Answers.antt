use Rattle.sheet.proofs.Laws.{sheets}
use Rattle.sheet.proofs.write_sheet.Goals as goal

pub loop-s-init : goal.loop-s-init
loop-s-init c = search sheets

pub loop-s-preserved : goal.loop-s-preserved
loop-s-preserved c = search sheets
