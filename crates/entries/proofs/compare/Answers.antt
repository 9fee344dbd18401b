use Rattle.std.proofs.lemmas.Result.{err_from_is_err_and}
use Rattle.answers.proofs.Laws.{compares, loaded_ready}
use Rattle.entries.proofs.compare.Goals as goal

pub returns-in_err-size : goal.returns-in_err-size
returns-in_err-size c =
    let p = err_from_is_err_and c.from_residual.result c.from_residual.ensures.1 in
    rw (p.1, p.2) (search (compares, c.in_err-size.was))

pub count_of-requires : goal.count_of-requires
count_of-requires c = search (compares, c.in_ok-size.was)

pub invariant_of-words : goal.invariant_of-words
invariant_of-words c = record { grouped = (loaded_ready _ _ _ _ c.load.ensures _ c.in_ok-size.was _ c.count_of.ensures).grouped }

pub compare_once-requires : goal.compare_once-requires
compare_once-requires c = search (compares, c.in_ok-size.was)

pub returns : goal.returns
returns c = search (compares, c.in_ok-size.was)
