use Rattle.rows.proofs.Laws.{founds}
use Rattle.rows.proofs.find_row.Goals as goal

pub returns-then-either_empty : goal.returns-then-either_empty
returns-then-either_empty c = search founds

pub returns-then-words-i : goal.returns-then-words-i
returns-then-words-i c = search founds
