use Rattle.listing.proofs.Making.{listings}
use Rattle.listing.proofs.list_all.Goals as goal

pub overflow_cast-table : goal.overflow_cast-table
overflow_cast-table c = search listings

pub loop-c-preserved : goal.loop-c-preserved
loop-c-preserved c = search listings

pub returns : goal.returns
returns c = search listings
