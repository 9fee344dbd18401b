use Rattle.walks.proofs.Laws.{seeks}
use Rattle.walks.proofs.first_clean.Goals as goal

pub returns-then-clean_at-words : goal.returns-then-clean_at-words
returns-then-clean_at-words c = search seeks

pub loop-q-preserved : goal.loop-q-preserved
loop-q-preserved c = search seeks
