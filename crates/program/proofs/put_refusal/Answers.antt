use Rattle.output.proofs.Writing.{refusals}
use Rattle.program.proofs.put_refusal.Goals as goal

pub put_pair_line-requires : goal.put_pair_line-requires
put_pair_line-requires c = search refusals

pub returns : goal.returns
returns c = search refusals
