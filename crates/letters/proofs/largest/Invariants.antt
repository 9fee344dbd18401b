use Rattle.letters.proofs.Letters.{Topped}
use Rattle.letters.proofs.largest.Given as goal

abbrev pub invariant-loop-letter : goal.invariant-loop-letter
invariant-loop-letter l = Topped l.word l.letter-index l.most
