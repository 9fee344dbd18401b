use Rattle.removing.proofs.Laws.{removes}
use Rattle.removing.proofs.remove_piece.Goals as goal

pub find_prefix-place-requires : goal.find_prefix-place-requires
find_prefix-place-requires c = search removes

pub returns-in_default : goal.returns-in_default
returns-in_default c = search removes

pub place_word-requires : goal.place_word-requires
place_word-requires c = search removes

pub returns : goal.returns
returns c = search removes
