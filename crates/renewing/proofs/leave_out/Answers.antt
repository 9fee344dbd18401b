use Rattle.renewing.proofs.Laws.{leaves}
use Rattle.renewing.proofs.leave_out.Goals as goal

pub overflow_add-i : goal.overflow_add-i
overflow_add-i c = search leaves

pub put_without-requires : goal.put_without-requires
put_without-requires c = search leaves
