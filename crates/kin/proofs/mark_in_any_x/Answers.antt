use Rattle.kin.proofs.Laws.{marks_any}
use Rattle.kin.proofs.mark_in_any_x.Goals as goal

pub returns-then-p-eq0 : goal.returns-then-p-eq0
returns-then-p-eq0 c = search marks_any

pub returns-then-mark_in_word : goal.returns-then-mark_in_word
returns-then-mark_in_word c = search marks_any

pub returns-then-mark_in_word-2 : goal.returns-then-mark_in_word-2
returns-then-mark_in_word-2 c = search marks_any

pub loop-j-preserved : goal.loop-j-preserved
loop-j-preserved c = search marks_any

pub returns : goal.returns
returns c = search marks_any
