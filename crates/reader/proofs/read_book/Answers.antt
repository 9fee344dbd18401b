use Rattle.std.proofs.lemmas.Result.{err_from_is_err_and}
use Rattle.reader.proofs.Books.{goings, head_refused, going_refused, going_less, going_room}
use Rattle.reader.proofs.read_book.Goals as goal

pub returns-in_err-head : goal.returns-in_err-head
returns-in_err-head c =
    let p = err_from_is_err_and c.from_residual.result c.from_residual.ensures.1 in
    rw (p.1, p.2) (head_refused _ _ _ _ c.head_at.ensures _ c.in_err-head.was)

pub returns-in_err-relation : goal.returns-in_err-relation
returns-in_err-relation c =
    let p = err_from_is_err_and c.from_residual-in_err-relation.result c.from_residual-in_err-relation.ensures.1 in
    rw (p.1, p.2)
    (going_refused _ _ _ _ _ _ _ _ c.loop-at.invariant c.loop-at-test.true _ c.relation_at.ensures _ c.requires _ c.in_err-relation.was)

pub append_relation-n-requires : goal.append_relation-n-requires
append_relation-n-requires c = going_room _ _ _ _ _ _ _ _ c.loop-at.invariant c.loop-at-test.true _ c.relation_at.ensures _ c.in_ok-relation.was

pub loop-at-smaller : goal.loop-at-smaller
loop-at-smaller c = going_less _ _ _ _ _ _ _ _ c.loop-at.invariant c.loop-at-test.true _ c.relation_at.ensures _ c.in_ok-relation.was

pub returns : goal.returns
returns c = search goings
