use Rattle.std.proofs.lemmas.Result.{err_from_is_err_and}
use Rattle.renewing.proofs.Changes.{withdrawings}
use Rattle.renewing.proofs.make_withdrawal.Goals as goal

pub returns-in_err-size : goal.returns-in_err-size
returns-in_err-size c =
    let p = err_from_is_err_and c.from_residual.result c.from_residual.ensures.1 in
    rw (p.1, p.2) (search (withdrawings, c.in_err-size.was))

pub leave_out-requires : goal.leave_out-requires
leave_out-requires c = search (withdrawings, c.in_ok-size.was)

pub returns-then-size-i : goal.returns-then-size-i
returns-then-size-i c = search (withdrawings, c.in_ok-size.was)

pub returns : goal.returns
returns c = search (withdrawings, c.in_ok-size.was)
