use Rattle.held.proofs.Theorems.{held_fits}
use Rattle.theorems.proofs.held_books_fit.Goals as goal

pub returns : goal.returns
returns c = held_fits
