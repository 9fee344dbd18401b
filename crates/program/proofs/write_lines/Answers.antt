use Rattle.output.proofs.Lines.{linings}
use Rattle.program.proofs.write_lines.Goals as goal

pub put_refusal-requires : goal.put_refusal-requires
put_refusal-requires c = search linings

pub returns-in-Err : goal.returns-in-Err
returns-in-Err c = search linings

pub put_comparison-end-requires : goal.put_comparison-end-requires
put_comparison-end-requires c = search linings

pub loop-at-smaller : goal.loop-at-smaller
loop-at-smaller c = search linings

pub returns : goal.returns
returns c = search linings
