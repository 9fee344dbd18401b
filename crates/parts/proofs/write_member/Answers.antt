use Rattle.parts.proofs.Rounds.{members}
use Rattle.parts.proofs.write_member.Goals as goal

pub returns-then-words-j : goal.returns-then-words-j
returns-then-words-j c = search members

pub begins_in-requires : goal.begins_in-requires
begins_in-requires c = search members

pub overflow_sub-behind : goal.overflow_sub-behind
overflow_sub-behind c = search members

pub overflow_add-behind : goal.overflow_add-behind
overflow_add-behind c = search members

pub write_whole-requires : goal.write_whole-requires
write_whole-requires c = search members

pub returns-then-begins_in : goal.returns-then-begins_in
returns-then-begins_in c = search members

pub write_apart-requires : goal.write_apart-requires
write_apart-requires c = search members
