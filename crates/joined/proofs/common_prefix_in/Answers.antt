use Rattle.joined.proofs.Laws.{compares}
use Rattle.joined.proofs.common_prefix_in.Goals as goal

pub returns-then-s-q : goal.returns-then-s-q
returns-then-s-q c = search compares

pub returns-then-text-from : goal.returns-then-text-from
returns-then-text-from c = search compares

pub loop-i-preserved : goal.loop-i-preserved
loop-i-preserved c = search compares

pub returns : goal.returns
returns c = search compares
