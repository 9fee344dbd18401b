use Rattle.moves.specs.State.{advanced_mark}
use Rattle.words.proofs.Picks.{picks}
use Rattle.moves.proofs.advance_mark.Goals as goal

pub returns-then-c : goal.returns-then-c
unfolding advanced_mark
returns-then-c c = search picks depth 8

pub returns : goal.returns
unfolding advanced_mark
returns c = search picks depth 8
