use Rattle.longest.proofs.Passes.{places, placing}
use Rattle.longest.proofs.longest_at.Goals as goal

pub pass-before-requires : goal.pass-before-requires
pass-before-requires c = search (places, placing)

pub pass-behind-requires : goal.pass-behind-requires
pass-behind-requires c = search (places, placing)

pub returns : goal.returns
returns c = search (places, placing)
