use Rattle.loose.proofs.Loose.{middle_not, outer_more, cutting}
use Rattle.loose.proofs.three_pieces.Goals as goal
use Rattle.loose.proofs.three_pieces.Goals.{then-loop-j-test+then-not-is_piece-2, else-loop-j-test}

-- the inner loop is left where the middle part is no piece, or at the end
pub outer-preserved : goal.outer-preserved
outer-preserved c =
    elim c.loop-j-test.branch [
      | then-loop-j-test+then-not-is_piece-2 w ↦ middle_not _ _ _ _ _ _ c.loop-j.invariant w.loop-j-test.true _ w.is_piece-in-loop-j.ensures w.if-not-is_piece-2.true
      | else-loop-j-test w ↦ outer_more _ _ _ _ _ _ c.loop-j.invariant w.loop-j-test.false
    ]

pub returns-then-not-is_piece : goal.returns-then-not-is_piece
returns-then-not-is_piece c = search cutting

pub returns-then-is_piece : goal.returns-then-is_piece
returns-then-is_piece c = search cutting

pub returns-after-outer : goal.returns-after-outer
returns-after-outer c = search cutting
