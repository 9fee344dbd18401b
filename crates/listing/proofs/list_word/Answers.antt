use Rattle.listing.proofs.Making.{looks}
use Rattle.listing.proofs.list_word.Goals as goal

pub overflow_add-result : goal.overflow_add-result
overflow_add-result c = search looks

pub returns : goal.returns
returns c = search looks
