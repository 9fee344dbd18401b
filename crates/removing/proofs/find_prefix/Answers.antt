use Rattle.removing.proofs.Laws.{finds}
use Rattle.removing.proofs.find_prefix.Goals as goal

pub widen_word-requires : goal.widen_word-requires
widen_word-requires c = search finds

pub find_piece-requires : goal.find_piece-requires
find_piece-requires c = search finds
