use Rattle.leastword.proofs.Letters.{sources}
use Rattle.leastword.proofs.put_part.Goals as goal

pub returns-in-Text : goal.returns-in-Text
returns-in-Text c = search sources

pub returns-in-Given : goal.returns-in-Given
returns-in-Given c = search sources
