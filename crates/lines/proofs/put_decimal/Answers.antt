use mathlib.Core.Path.{◌∙◌}
use native.Mathlib.Omega.{arith}
use Rattle.lines.proofs.Laws.{number_fits, number_written}
use Rattle.lines.proofs.put_decimal.Goals as goal

pub put_text-requires : goal.put_text-requires
put_text-requires c = number_fits _ _ c.args.n _ (omega arith) (c.as_bytes.ensures.value ∙ c.format.ensures.text) c.requires

pub returns : goal.returns
returns c = number_written _ _ c.args.n _ (omega arith) (c.as_bytes.ensures.value ∙ c.format.ensures.text) _ _ c.put_text.ensures
