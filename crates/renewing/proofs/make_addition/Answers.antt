use Rattle.std.proofs.lemmas.Result.{err_from_is_err_and}
use Rattle.renewing.proofs.Changes.{addings}
use Rattle.renewing.proofs.make_addition.Goals as goal

pub append_record-requires : goal.append_record-requires
append_record-requires c = search (addings, c.in_ok-size.was, c.in_ok-check_record.was)

pub returns-in_err-size : goal.returns-in_err-size
returns-in_err-size c =
    let p = err_from_is_err_and c.from_residual.result c.from_residual.ensures.1 in
    rw (p.1, p.2) (search (addings, c.in_err-size.was))

pub returns-in_err-check_record : goal.returns-in_err-check_record
returns-in_err-check_record c =
    let p = err_from_is_err_and c.from_residual-in_err-check_record.result c.from_residual-in_err-check_record.ensures.1 in
    rw (p.1, p.2) (search (addings, c.in_ok-size.was, c.in_err-check_record.was))

pub returns : goal.returns
returns c = search (addings, c.in_ok-size.was, c.in_ok-check_record.was)
