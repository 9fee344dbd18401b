use Rattle.index.proofs.Seeking.{places}
use Rattle.index.proofs.prefix_at.Goals as goal

pub letter_at-requires : goal.letter_at-requires
letter_at-requires c = search places

pub under_letter-requires : goal.under_letter-requires
under_letter-requires c = search places

pub returns : goal.returns
returns c = search places
