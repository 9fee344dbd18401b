use Rattle.std.proofs.lemmas.Result.{err_from_is_err_and}
use Rattle.answers.proofs.Laws.{loaded_ready}
use Rattle.removing.proofs.Laws.{entering}
use Rattle.removing.proofs.remove_prefix.Goals as goal

pub returns-in_err-size : goal.returns-in_err-size
returns-in_err-size c =
    let p = err_from_is_err_and c.from_residual.result c.from_residual.ensures.1 in
    rw (p.1, p.2) (search (entering, c.in_err-size.was))

pub count_of-requires : goal.count_of-requires
count_of-requires c = search (entering, c.in_ok-size.was)

pub invariant_of-words : goal.invariant_of-words
invariant_of-words c = record { grouped = (loaded_ready _ _ _ _ c.load_pieces.ensures.loaded _ c.in_ok-size.was _ c.count_of.ensures).grouped }

pub loaded_removal-requires : goal.loaded_removal-requires
loaded_removal-requires c = search (entering, c.in_ok-size.was)

pub returns : goal.returns
returns c = search (entering, c.in_ok-size.was)
