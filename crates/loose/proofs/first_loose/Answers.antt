use Rattle.loose.proofs.Lowest.{measuring}
use Rattle.loose.proofs.first_loose.Goals as goal

pub fill_longest-requires : goal.fill_longest-requires
fill_longest-requires c = search measuring

pub lowest_loose-requires : goal.lowest_loose-requires
lowest_loose-requires c = search measuring

pub returns : goal.returns
returns c = search measuring
