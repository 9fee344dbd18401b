use Rattle.listing.proofs.Making.{sharings}
use Rattle.listing.proofs.write_shared.Goals as goal

pub overflow_cast-table : goal.overflow_cast-table
overflow_cast-table c = search sharings

pub loop-j-preserved : goal.loop-j-preserved
loop-j-preserved c = search sharings

pub returns : goal.returns
returns c = search sharings
