use Rattle.output.proofs.Whole.{books, accepted_ready}
use Rattle.program.proofs.write_loaded.Goals as goal

pub invariant_of-words : goal.invariant_of-words
invariant_of-words c = record { grouped = (accepted_ready _ _ c.book_end-end.ensures _ _ _ c.load.ensures _ c.in-Ok.is _ c.count_of.ensures).grouped }

pub write_accepted-requires : goal.write_accepted-requires
write_accepted-requires c = search books

pub returns-in-Ok : goal.returns-in-Ok
returns-in-Ok c = search books
