use Rattle.members.proofs.Choosing.{carriers}
use Rattle.members.proofs.find_carrier.Goals as goal

pub returns-then-words-c : goal.returns-then-words-c
returns-then-words-c c = search carriers

pub returns-then-carries_first : goal.returns-then-carries_first
returns-then-carries_first c = search carriers

pub returns : goal.returns
returns c = search carriers
