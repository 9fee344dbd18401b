use Rattle.sites.proofs.FirstLetters.{empty_lists}
use Rattle.sites.proofs.begins_none.Goals as goal

pub returns-then-c-ge-LETTERS : goal.returns-then-c-ge-LETTERS
returns-then-c-ge-LETTERS c = search empty_lists

pub returns : goal.returns
returns c = search empty_lists
