use Rattle.parts.proofs.Telling.{hints_carried}
use Rattle.parts.proofs.carry_hint.Goals as goal

pub returns-then-hint_applies : goal.returns-then-hint_applies
returns-then-hint_applies c = search hints_carried
