use Rattle.comparison.proofs.Laws.{givens}
use Rattle.comparison.proofs.compare_given.Goals as goal

pub compare_bytes-requires : goal.compare_bytes-requires
compare_bytes-requires c = search (givens, c.in_ok-check_pair.ensures)
