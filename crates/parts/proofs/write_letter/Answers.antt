use Rattle.parts.proofs.Letters.{letters}
use Rattle.parts.proofs.write_letter.Goals as goal

pub returns-then-mark-at : goal.returns-then-mark-at
returns-then-mark-at c = search letters

pub returns-then-words-at : goal.returns-then-words-at
returns-then-words-at c = search letters

pub returns : goal.returns
returns c = search letters
