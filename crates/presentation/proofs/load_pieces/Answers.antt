use Rattle.presentation.proofs.Laws.{load_unread, load_unchecked, load_judged}
use Rattle.presentation.proofs.load_pieces.Goals as goal

pub returns-in_default : goal.returns-in_default
returns-in_default c = rw c.in_default.is (load_unread _ _ _ c.requires _ _ _ c.read_book-reading.ensures _ _ c.in_default.is)

pub check_words-judged-requires : goal.check_words-judged-requires
check_words-judged-requires c = load_unchecked _ _ _ c.requires _ _ _ c.read_book-reading.ensures _ c.in-Ok.is

-- the law is applied to what the reader and `check_words` ensure: too much stands before the last return for a search
pub returns : goal.returns
returns c =
    load_judged _ _ _ c.requires _ _ _ c.read_book-reading.ensures _ c.in-Ok.is _ _ _ _ c.check_words-judged.ensures _ c.answer.ensures
