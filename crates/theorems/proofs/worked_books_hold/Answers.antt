use Rattle.overlap.proofs.Books.{books_hold}
use Rattle.theorems.proofs.worked_books_hold.Goals as goal

pub returns : goal.returns
returns c = books_hold
