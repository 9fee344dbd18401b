-- The rows decide congruence, put together: that they end and how soon (Bound), what they say (RoundRight), the allowance (Allowance), and that chains of families
-- join the same words as rewrite steps of single relations (Members).
use Prim.Native.Nat.{ℕ, ◌≤◌}
use mathlib.Core.Bool.{Bool, true, false, true≢false, false≢true}
use mathlib.Core.List.{List, []}
use mathlib.Core.Logic.{◌↔◌}
use mathlib.Core.Path.{◌≡◌, refl}
use Rattle.words.specs.Words.{Word}
use Rattle.words.specs.Relations.{Relation, relation_words}
use Rattle.words.specs.Families.{words_of, family_of}
use Rattle.overlap.proofs.Facts.{rigid_of_c4}
use Rattle.congruence.specs.Congruence.{Congruent}
use Rattle.congruence.specs.Rounds.{Rounds, compare_under}
use Rattle.congruence.specs.Rounds.CompareAnswer.{same, different}
use Rattle.congruence.specs.Theorem.{Decision, RowsDecide, AfterRounds, ComparisonShape}
use Rattle.congruence.specs.Theorem.AfterRounds.{no_round, one_more}
use Rattle.congruence.proofs.Heads.{Facts}
use Rattle.congruence.proofs.Members.{congruent_of_chain, chain_of_congruent}
use Rattle.congruence.proofs.Shape.{ComparisonWords, held_start, held_round}
use Rattle.congruence.proofs.Bound.{rounds_exist, rounds_unique, rounds_at_most}
use Rattle.congruence.proofs.Allowance.{ended_iff, enough_of_ended, spent_iff}
use Rattle.congruence.proofs.RoundRight.{rounds_right}

module _ (relations : List Relation) (c : Facts (words_of relations)) (u v : Word) where
  -- a result that both says and denies
  says : {n : ℕ} (b : Bool) → Rounds (words_of relations) (family_of relations) u v [] n b
      → ((b ≡ true) ↔ Congruent (relation_words relations) u v) × ((b ≡ false) ↔ (¬ Congruent (relation_words relations) u v))
  says true r =
      let s = congruent_of_chain relations ((rounds_right c (family_of relations) r).0 refl) in
      (((λ e. s), (λ _. refl)), ((λ e. absurd (true≢false e)), (λ f. absurd (f s))))
  says false r =
      let s : ¬ Congruent (relation_words relations) u v = λ a. (rounds_right c (family_of relations) r).1 refl (chain_of_congruent relations a) in
      (((λ e. absurd (false≢true e)), (λ a. absurd (s a))), ((λ e. s), (λ _. refl)))

  -- the answer with a count, by the result
  joined : {n : ℕ} (b : Bool) (r : Rounds (words_of relations) (family_of relations) u v [] n b) (allowance : ℕ)
      → (compare_under (words_of relations) (family_of relations) allowance u v ≡ same n) ↔ ((n ≤ allowance) × Congruent (relation_words relations) u v)
  joined true r allowance =
      let i = ended_iff r allowance in
      let s = (says true r).0 in
      ((λ e. (i.0 e, s.0 refl)), (λ a. i.1 a.0))
  joined {n} false r allowance =
      let s = (says false r).1 in
      ((λ e. absurd (true≢false (enough_of_ended r allowance true n e).0)), (λ a. absurd (s.0 refl a.1)))

  parted : {n : ℕ} (b : Bool) (r : Rounds (words_of relations) (family_of relations) u v [] n b) (allowance : ℕ)
      → (compare_under (words_of relations) (family_of relations) allowance u v ≡ different n) ↔ ((n ≤ allowance) × (¬ Congruent (relation_words relations) u v))
  parted {n} true r allowance =
      let s = (says true r).0 in
      ((λ e. absurd (false≢true (enough_of_ended r allowance false n e).0)), (λ a. absurd (a.1 (s.0 refl))))
  parted false r allowance =
      let i = ended_iff r allowance in
      let s = (says false r).1 in
      ((λ e. (i.0 e, s.0 refl)), (λ a. i.1 a.0))

  decision : Decision relations u v
  decision =
      let r = rounds_exist (words_of relations) (family_of relations) c u v in
      let s = says r.same r.rounds in
      record {
        rounds = r.count;
        result = r.same;
        made = r.rounds;
        only = λ n b d. rounds_unique d r.rounds;
        congruent = s.0;
        apart = s.1;
        bound = rounds_at_most (words_of relations) (family_of relations) c u v r.count r.same r.rounds;
        closer = (r.first, r.second);
        spends = spent_iff r.rounds;
        joins = joined r.same r.rounds;
        parts = parted r.same r.rounds;
      }

pub rows_decide : RowsDecide
rows_decide relations c u v = decision relations (rigid_of_c4 (words_of relations) c) u v

-- the shape, along the rounds
words_after_rounds : (B : List Word) (family : ℕ → ℕ) → Facts B → (u v : Word) {u₁ v₁ p₁ : Word} → AfterRounds B family u v u₁ v₁ p₁ → ComparisonWords B u v u₁ v₁ p₁
words_after_rounds B family c u v no_round = held_start B u v
words_after_rounds B family c u v (one_more {u₁ = u₁} {v₁ = v₁} {p₁ = p₁} {u₂ = u₂} {v₂ = v₂} {p₂ = p₂} r e) =
    held_round B family c u v u₁ v₁ p₁ u₂ v₂ p₂ (words_after_rounds B family c u v r) e

pub comparison_shape : ComparisonShape
comparison_shape relations c u v u₁ v₁ p₁ r =
    let h = words_after_rounds (words_of relations) (family_of relations) (rigid_of_c4 (words_of relations) c) u v r in
    (h.first, h.second, h.mark)
