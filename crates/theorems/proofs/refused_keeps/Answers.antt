use Rattle.held.proofs.Theorems.{refused_keeps}
use Rattle.theorems.proofs.refused_keeps.Goals as goal

pub returns : goal.returns
returns c = refused_keeps
