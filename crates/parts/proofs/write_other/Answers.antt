use Rattle.parts.proofs.Others.{others}
use Rattle.parts.proofs.write_other.Goals as goal

pub common_suffix-l-requires : goal.common_suffix-l-requires
common_suffix-l-requires c = search others

pub overflow_sub-own : goal.overflow_sub-own
overflow_sub-own c = search others

pub stands_quiet-stands-requires : goal.stands_quiet-stands-requires
stands_quiet-stands-requires c = search others

pub put_other-requires : goal.put_other-requires
put_other-requires c = search others

pub returns : goal.returns
returns c = search others
