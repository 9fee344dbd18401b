use Rattle.parts.proofs.Wholes.{wholes}
use Rattle.parts.proofs.write_whole.Goals as goal

pub active_behind-requires : goal.active_behind-requires
active_behind-requires c = search wholes

pub source_behind-source-requires : goal.source_behind-source-requires
source_behind-source-requires c = search wholes

pub returns-then-active_behind : goal.returns-then-active_behind
returns-then-active_behind c = search wholes

pub find_carrier-requires : goal.find_carrier-requires
find_carrier-requires c = search wholes

pub read_site-z-requires : goal.read_site-z-requires
read_site-z-requires c = search wholes

pub source_behind-source-requires-2 : goal.source_behind-source-requires-2
source_behind-source-requires-2 c = search wholes

pub returns : goal.returns
returns c = search wholes
