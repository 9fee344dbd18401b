use Rattle.output.proofs.Examples.{heavy_first}
use Rattle.output.proofs.heavy_first.Goals as goal

pub returns : goal.returns
returns c = heavy_first
