use Rattle.members.proofs.Choosing.{carries_firsts}
use Rattle.members.proofs.carries_first.Goals as goal

pub returns-then-c-i : goal.returns-then-c-i
returns-then-c-i c = search carries_firsts

pub returns-then-j-i : goal.returns-then-j-i
returns-then-j-i c = search carries_firsts

pub returns : goal.returns
returns c = search carries_firsts
