use Rattle.held.proofs.Tickets.{tickets_fit}
use Rattle.theorems.proofs.tickets_fit.Goals as goal

pub returns : goal.returns
returns c = tickets_fit
