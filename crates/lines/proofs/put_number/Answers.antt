use Rattle.lines.proofs.Laws.{numbers}
use Rattle.lines.proofs.put_number.Goals as goal

pub put_character-next-requires : goal.put_character-next-requires
put_character-next-requires c = search numbers

pub put_decimal-requires : goal.put_decimal-requires
put_decimal-requires c = search numbers

pub returns : goal.returns
returns c = search numbers
