use Rattle.pieces.proofs.Verdicts.{copies}
use Rattle.pieces.proofs.judge.Goals as goal

pub narrow-requires : goal.narrow-requires
narrow-requires c = search copies

pub slice_bounds-bytes-end : goal.slice_bounds-bytes-end
slice_bounds-bytes-end c = search copies

pub slice_bounds-judge_whole-end : goal.slice_bounds-judge_whole-end
slice_bounds-judge_whole-end c = search copies

pub judge_whole-requires : goal.judge_whole-requires
judge_whole-requires c = search copies

pub returns : goal.returns
returns c = search copies
