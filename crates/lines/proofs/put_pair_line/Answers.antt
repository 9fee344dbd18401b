use Rattle.lines.proofs.Laws.{pairs}
use Rattle.lines.proofs.put_pair_line.Goals as goal

pub put_text-first-requires : goal.put_text-first-requires
put_text-first-requires c = search pairs

pub put_number-second-requires : goal.put_number-second-requires
put_number-second-requires c = search pairs

pub put_number-third-requires : goal.put_number-third-requires
put_number-third-requires c = search pairs

pub put_character-requires : goal.put_character-requires
put_character-requires c = search pairs

pub returns : goal.returns
returns c = search pairs
