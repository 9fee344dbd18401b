-- The entry's promise says how much it wrote, which the buffer has.
use Rattle.command.proofs.Laws.{written_within, written_long}
use Rattle.command.proofs.answer.Goals as goal

pub slice_bounds-output-end : goal.slice_bounds-output-end
slice_bounds-output-end g c = written_within _ _ _ _ c.in-Ok.ensures

pub slice_bounds-write_all-end : goal.slice_bounds-write_all-end
slice_bounds-write_all-end g c = written_long _ _ _ _ c.in-Ok.ensures
