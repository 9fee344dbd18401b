-- The fold of the bytes, each step of which is kept below 2³².
use Rattle.std.proofs.Common.{rules, tests, ◌∙◌}
use Rattle.std.proofs.lemmas.Iterator.{YieldsList-from_slice}
use Rattle.std.proofs.lemmas.Iterator.Consumers.{fold_from_yields_List}
use Rattle.fields.proofs.Reading.{step, decimal_kept}
use Rattle.fields.proofs.decimal.Goals as goal

pub returns : goal.returns
returns c = fold_from_yields_List _ step 0 c.fold.result c.fold.ensures.ran (YieldsList-from_slice c.args.text.now cc) (λ a x b q k. search (rules, tests)) ∙ decimal_kept c.args.text.now
