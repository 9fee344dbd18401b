use Rattle.presentation.proofs.Checking.{checks_accepted}
use Rattle.presentation.proofs.check_words.Goals as goal

pub returns : goal.returns
returns c =
    checks_accepted _ _ _ c.requires _ c.count_of-n.ensures _ _ _ _ c.judge.ensures c.in_ok-judge.was _ c.make_index.ensures _ c.group.ensures
