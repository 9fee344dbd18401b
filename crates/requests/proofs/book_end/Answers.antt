use Rattle.output.proofs.Reading.{endings, ending_cut}
use Rattle.requests.proofs.book_end.Goals as goal

pub returns-in-3 : goal.returns-in-3
returns-in-3 c = search endings

pub returns-in_default-record_at : goal.returns-in_default-record_at
returns-in_default-record_at c =
    search (ending_cut, c.in_default-record_at.is, c.record_at.ensures, c.field_at-kind.ensures)

pub returns : goal.returns
returns c = search endings
