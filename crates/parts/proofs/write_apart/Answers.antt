use Rattle.parts.proofs.Rounds.{aparts}
use Rattle.parts.proofs.write_apart.Goals as goal

pub write_own-requires : goal.write_own-requires
write_own-requires c = search aparts

pub returns-then-j-i : goal.returns-then-j-i
returns-then-j-i c = search aparts

pub returns : goal.returns
returns c = search aparts
