use Rattle.std.proofs.Common.{◌-◌, length}
use Rattle.reader.proofs.Books.{Going}
use Rattle.reader.proofs.read_book.Given as goal

abbrev pub invariant-loop-at : goal.invariant-loop-at
invariant-loop-at l = Going l.book l.fn.text l.head.letters l.at l.count l.n l.text l.table

abbrev pub decreases-loop-at : goal.decreases-loop-at
decreases-loop-at l = length l.book - l.at
