use Rattle.occurrence.proofs.Laws.{seek_found, seek_end}
use Rattle.occurrence.proofs.first_place.Goals as goal

pub returns-then-begins_in : goal.returns-then-begins_in
returns-then-begins_in c = seek_found _ _ _ c.loop-q.invariant c.loop-q-test.true _ c.begins_in.ensures c.if-begins_in.true

pub returns : goal.returns
returns c = seek_end _ _ _ c.loop-q.invariant c.loop-q-test.false
