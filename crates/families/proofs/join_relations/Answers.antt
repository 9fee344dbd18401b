use Rattle.families.proofs.Joining.{gathers}
use Rattle.families.proofs.join_relations.Goals as goal

pub join_relation-requires : goal.join_relation-requires
join_relation-requires c = search gathers
