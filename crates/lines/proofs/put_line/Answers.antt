use Rattle.lines.proofs.Laws.{lines}
use Rattle.lines.proofs.put_line.Goals as goal

pub put_text-first-requires : goal.put_text-first-requires
put_text-first-requires c = search lines

pub put_number-second-requires : goal.put_number-second-requires
put_number-second-requires c = search lines

pub put_character-requires : goal.put_character-requires
put_character-requires c = search lines

pub returns : goal.returns
returns c = search lines
