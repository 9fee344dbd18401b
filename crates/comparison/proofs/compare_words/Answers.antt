use Rattle.comparison.proofs.Laws.{comparisons}
use Rattle.comparison.proofs.compare_words.Goals as goal

pub make_rounds-requires : goal.make_rounds-requires
make_rounds-requires c = search comparisons

pub returns-in-Ended-true-default : goal.returns-in-Ended-true-default
returns-in-Ended-true-default c = search comparisons

pub returns-in-Ended-false-default : goal.returns-in-Ended-false-default
returns-in-Ended-false-default c = search comparisons

pub returns-in-Paused : goal.returns-in-Paused
returns-in-Paused c = search comparisons
