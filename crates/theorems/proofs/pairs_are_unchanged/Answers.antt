use Rattle.congruence.proofs.Pairs.{pairs_unchanged}
use Rattle.theorems.proofs.pairs_are_unchanged.Goals as goal

pub returns : goal.returns
returns c = pairs_unchanged
