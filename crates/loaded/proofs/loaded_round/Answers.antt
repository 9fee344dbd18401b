use Rattle.answers.proofs.Laws.{loaded_lent}
use Rattle.loaded.proofs.loaded_round.Goals as goal

-- eight slices stand before this goal, too much for a search: the law is applied to what the check ensures
pub write_round-requires : goal.write_round-requires
write_round-requires c = loaded_lent _ _ _ _ _ _ _ _ _ _ c.requires c.in_ok-check_asked.ensures
