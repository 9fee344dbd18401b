use Rattle.output.proofs.Size.{output_fits}
use Rattle.output.proofs.output_fits.Goals as goal

pub returns : goal.returns
returns c = output_fits
