use Rattle.index.proofs.Seeking.{seeks}
use Rattle.index.proofs.seek.Goals as goal

pub returns-in-Here : goal.returns-in-Here
returns-in-Here c = search seeks

pub loop-j-preserved : goal.loop-j-preserved
loop-j-preserved c = search seeks

pub returns : goal.returns
returns c = search seeks
