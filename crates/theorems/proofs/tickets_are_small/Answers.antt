use Rattle.held.proofs.Tickets.{tickets_small}
use Rattle.theorems.proofs.tickets_are_small.Goals as goal

pub returns : goal.returns
returns c = tickets_small
