use Rattle.rows.proofs.Laws.{site_finds}
use Rattle.rows.proofs.with_sites.Goals as goal

pub shaped_row-requires : goal.shaped_row-requires
shaped_row-requires c = search site_finds

pub returns-then-j-words : goal.returns-then-j-words
returns-then-j-words c = search site_finds

pub returns-else-j-words : goal.returns-else-j-words
returns-else-j-words c = search site_finds

pub returns-else-mark_in_any_x : goal.returns-else-mark_in_any_x
returns-else-mark_in_any_x c = search site_finds
