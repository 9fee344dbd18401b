use Rattle.std.proofs.Common.{rules}
use Rattle.laying.proofs.Appending.{rooms, room_appended}
use Rattle.laying.proofs.append_word.Goals as goal

pub write_word-requires : goal.write_word-requires
write_word-requires c = search rooms

pub overflow_cast-table : goal.overflow_cast-table
overflow_cast-table c = search rooms

pub overflow_cast-table-2 : goal.overflow_cast-table-2
overflow_cast-table-2 c = search rooms

pub returns : goal.returns
returns c = room_appended _ _ _ _ (search rules) _ (search rules) _ (search rules)
