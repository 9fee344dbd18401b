use Rattle.held.proofs.Tickets.{tickets_read}
use Rattle.theorems.proofs.tickets_are_read.Goals as goal

pub returns : goal.returns
returns c = tickets_read
