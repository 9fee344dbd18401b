use Rattle.std.proofs.lemmas.Result.{err_from_is_err_and}
use Rattle.scanning.proofs.Records.{goings, going_less}
use Rattle.scanning.proofs.read_records.Goals as goal

pub returns-in_err-relation : goal.returns-in_err-relation
returns-in_err-relation c =
    let p = err_from_is_err_and c.from_residual-in_err-relation.result c.from_residual-in_err-relation.ensures.1 in
    rw (p.1, p.2) (search (goings, c.in_err-relation.was))

pub loop-at-smaller : goal.loop-at-smaller
loop-at-smaller c = going_less _ _ _ _ c.loop-at.invariant c.loop-at-test.true _ c.relation_at.ensures _ c.in_ok-relation.was

pub returns : goal.returns
returns c = search goings
