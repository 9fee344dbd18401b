use Rattle.index.proofs.Seeking.{unders}
use Rattle.index.proofs.under_letter.Goals as goal

pub returns-then-c-ge-LETTERS : goal.returns-then-c-ge-LETTERS
returns-then-c-ge-LETTERS c = search unders
