use Rattle.parts.proofs.Rounds.{parts_made}
use Rattle.parts.proofs.make_part.Goals as goal

pub returns-then-mark : goal.returns-then-mark
returns-then-mark c = search parts_made

pub returns-then-held_empty : goal.returns-then-held_empty
returns-then-held_empty c = search parts_made

pub write_letter-requires : goal.write_letter-requires
write_letter-requires c = search parts_made

pub returns-then-words-i : goal.returns-then-words-i
returns-then-words-i c = search parts_made
