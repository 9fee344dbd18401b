use Rattle.format.proofs.Bytes.{read_bytes}
use Rattle.theorems.proofs.bytes_are_read.Goals as goal

pub returns : goal.returns
returns c = read_bytes
