use Rattle.loading.proofs.Examples.{loaded_hold}
use Rattle.theorems.proofs.loaded_books_hold.Goals as goal

pub returns : goal.returns
returns c = loaded_hold
