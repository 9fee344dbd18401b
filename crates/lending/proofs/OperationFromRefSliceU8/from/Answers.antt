-- The longest word: its nine bytes make one equation.
use Rattle.std.proofs.Common.{rules, refl, arith}
use Rattle.std.proofs.lemmas.Slice.Eq.{text_from_reads}
use Rattle.lending.proofs.OperationFromRefSliceU8.from.Goals as goal

pub returns-in-112-2 : goal.returns-in-112-2
returns-in-112-2 c = record {
  addition = search rules;
  posting = search rules;
  proposed_addition = search rules;
  proposed_withdrawal = λ _. refl;
  withdrawal = λ _ _ _ other. absurd (other (text_from_reads _ _ (omega arith) (search rules)));
}
