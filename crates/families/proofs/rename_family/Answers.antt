use Rattle.families.proofs.Naming.{renames}
use Rattle.families.proofs.rename_family.Goals as goal

pub returns : goal.returns
returns c = search renames
