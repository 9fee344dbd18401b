-- The part that `nth` reads of those that `split` gives.
use Rattle.std.proofs.Common.{rules, tests, ap, ◌∙◌, ◌==◌}
use Rattle.std.specs.List.{slice_split}
use Rattle.std.proofs.lemmas.Iterator.Splits.{YieldsList-from_slice_split}
use Rattle.std.proofs.lemmas.Iterator.Consumers.{nth_from_yields_List}
use Rattle.fields.proofs.Reading.{read_or}
use Rattle.fields.proofs.Fields.field.Goals as goal

pub returns-clause-bytes : goal.returns-clause-bytes
returns-clause-bytes c =
    let parts = slice_split (λ byte. byte == c.args.self.between) c.args.self.text.now in
    ap (λ r. r.now) c.unwrap_or.ensures ∙ read_or parts c.args.number _ _ (nth_from_yields_List c.nth.result c.nth.new.self c.args.number c.nth.ensures.ran
    (YieldsList-from_slice_split _ (λ byte. byte == c.args.self.between) _ c.split.ensures.rest c.split.ensures.done c.split.ensures.closure (λ x b q k. search (rules, tests))))
