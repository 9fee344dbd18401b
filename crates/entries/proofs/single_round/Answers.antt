use Rattle.std.proofs.lemmas.Result.{err_from_is_err_and}
use Rattle.answers.proofs.Laws.{singles, loaded_ready}
use Rattle.entries.proofs.single_round.Goals as goal

pub returns-in_err-size : goal.returns-in_err-size
returns-in_err-size c =
    let p = err_from_is_err_and c.from_residual.result c.from_residual.ensures.1 in
    rw (p.1, p.2) (search (singles, c.in_err-size.was))

pub count_of-requires : goal.count_of-requires
count_of-requires c = search (singles, c.in_ok-size.was)

pub invariant_of-words : goal.invariant_of-words
invariant_of-words c = record { grouped = (loaded_ready _ _ _ _ c.load.ensures _ c.in_ok-size.was _ c.count_of.ensures).grouped }

pub loaded_round-requires : goal.loaded_round-requires
loaded_round-requires c = search (singles, c.in_ok-size.was)

pub returns : goal.returns
returns c = search (singles, c.in_ok-size.was)
