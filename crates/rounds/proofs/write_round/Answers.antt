use Rattle.layout.proofs.Whole.{whole_grouped}
use Rattle.rounds.proofs.Writes.{lents}
use Rattle.rounds.proofs.write_round.Goals as goal

pub write_next-requires : goal.write_next-requires
write_next-requires c = search lents

pub returns : goal.returns
returns c = search lents

pub invariant_of-whole : goal.invariant_of-whole
invariant_of-whole c = record { grouped = whole_grouped _ _ _ c.args.words.now.grouped _ c.start_of-total.ensures }
