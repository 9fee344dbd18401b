use Rattle.plans.proofs.Decisions.{sharings}
use Rattle.plans.proofs.cut_ends.Goals as goal

pub cut_common-requires : goal.cut_common-requires
cut_common-requires c = search sharings
