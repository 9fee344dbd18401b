-- The rounds of two words: their number is fixed, they end, and how many they are at most (document 01, "Exchanges and rounds"; document 003, Lemma 6).
use Prim.Native.Nat.{ℕ, zero, suc, ◌+◌, ◌-◌, ◌*◌, ◌≤◌, ◌<◌}
use mathlib.Core.Bool.{Bool}
use mathlib.Core.List.{List, []}
use mathlib.Core.Path.{◌≡◌, refl, sym, ap, ◌∙◌, subst}
use native.Mathlib.Omega.{arith}
use lib.ListN.{length}
use Rattle.words.specs.Words.{Word}
use Rattle.overlap.specs.Cuts.{longest_suffix_piece}
use Rattle.congruence.specs.Rows.{Next, round}
use Rattle.congruence.specs.Rows.Next.{end, go}
use Rattle.congruence.specs.Rounds.{Rounds}
use Rattle.congruence.specs.Rounds.Rounds.{ended, goes}
use Rattle.congruence.proofs.Heads.{Facts}
use Rattle.congruence.proofs.Shape.{ComparisonWords, weight, tailed_whole, held_start, round_lightens}

-- what n rounds that end with d say of what the first of them gives
abbrev Known : List Word → (ℕ → ℕ) → Next → ℕ → Bool → Type 0
Known B family (end b) n d = (n ≡ 0) × (d ≡ b)
Known B family (go u v p) n d = (m : ℕ) × (n ≡ suc m) × Rounds B family u v p m d

rounds_known : {B : List Word} {family : ℕ → ℕ} {u v p : Word} {n : ℕ} {d : Bool} → Rounds B family u v p n d → Known B family (round B family u v p) n d
rounds_known {B} {family} {d = d} (ended e) = subst (λ x. Known B family x 0 d) (sym e) (refl, refl)
rounds_known {B} {family} {d = d} (goes {n = n} e r) = subst (λ x. Known B family x (suc n) d) (sym e) (n, refl, r)

-- the presentation and the words alone fix the number of rounds and the end
pub rounds_unique : {B : List Word} {family : ℕ → ℕ} {u v p : Word} {n m : ℕ} {b d : Bool} → Rounds B family u v p n b → Rounds B family u v p m d → (n ≡ m) × (b ≡ d)
rounds_unique {B} {family} {m = m} {d = d} (ended e) s =
    let k = subst (λ x. Known B family x m d) e (rounds_known s) in
    (sym k.0, sym k.1)
rounds_unique {B} {family} {m = m} {d = d} (goes e r) s =
    let k = subst (λ x. Known B family x m d) e (rounds_known s) in
    let q = rounds_unique r k.2 in
    (ap suc q.0 ∙ sym k.1, q.1)

-- the rows end from u, v and p, after at most a and at most b rounds
pub record Ends (B : List Word) (family : ℕ → ℕ) (u v p : Word) (a b : ℕ) : Type 0 where
  pub count : ℕ
  pub same : Bool
  pub rounds : Rounds B family u v p count same
  pub first : count ≤ a
  pub second : count ≤ b

module _ (B : List Word) (family : ℕ → ℕ) (c : Facts B) (u₀ v₀ : Word) where
  ends_below : (fuel : ℕ) (u v p : Word) (h : ComparisonWords B u₀ v₀ u v p) → weight B u₀ u h.first < fuel
      → Ends B family u v p (weight B u₀ u h.first) (weight B v₀ v h.second)
  ends_below zero u v p h l = absurd (omega arith)
  ends_below (suc fuel) u v p h l = step (λ u v p h l. ends_below fuel u v p h l) (round B family u v p) refl
    where
      step : ((u v p : Word) (h : ComparisonWords B u₀ v₀ u v p) → weight B u₀ u h.first < fuel → Ends B family u v p (weight B u₀ u h.first) (weight B v₀ v h.second))
          → (x : Next) → round B family u v p ≡ x → Ends B family u v p (weight B u₀ u h.first) (weight B v₀ v h.second)
      step f (end b) q = record { count = 0; same = b; rounds = ended q; first = omega arith; second = omega arith }
      step f (go u' v' p') q =
          let k = round_lightens B family c u₀ v₀ u v p u' v' p' h q in
          let kf = k.first in
          let ks = k.second in
          let r = f u' v' p' k.next (omega arith) in
          let rf = r.first in
          let rs = r.second in
          record { count = suc r.count; same = r.same; rounds = goes q r.rounds; first = omega arith; second = omega arith }

  -- the rows end from every state of a comparison, within the weight of either word
  pub ends_held : (u v p : Word) (h : ComparisonWords B u₀ v₀ u v p) → Ends B family u v p (weight B u₀ u h.first) (weight B v₀ v h.second)
  ends_held u v p h = ends_below (suc (weight B u₀ u h.first)) u v p h (omega arith)

-- the rounds of two words, and their bounds; k is the greatest length of a Z
pub record RoundsOf (B : List Word) (family : ℕ → ℕ) (u v : Word) : Type 0 where
  pub count : ℕ
  pub same : Bool
  pub rounds : Rounds B family u v [] count same
  pub first : count ≤ (longest_suffix_piece B + 1) * length u
  pub second : count ≤ (longest_suffix_piece B + 1) * length v

pub rounds_exist : (B : List Word) (family : ℕ → ℕ) → Facts B → (u v : Word) → RoundsOf B family u v
unfolding held_start tailed_whole
rounds_exist B family c u v =
    let r = ends_held B family c u v u v [] (held_start B u v) in
    let rf = r.first in
    let rs = r.second in
    record {
      count = r.count;
      same = r.same;
      rounds = r.rounds;
      first = weight_whole (longest_suffix_piece B) (length u) r.count r.first;
      second = weight_whole (longest_suffix_piece B) (length v) r.count r.second;
    }
  where
    weight_whole : (k l n : ℕ) → n ≤ 0 + (k + 1) * (l - 0) → n ≤ (k + 1) * l
    weight_whole k l n h = let m = ap (λ x. (k + 1) * x) {x = l - 0} {y = l} (omega arith) in omega arith

-- any count of the rounds of two words is bounded by either word
pub rounds_within : (B : List Word) (family : ℕ → ℕ) → Facts B → (u v : Word) (n : ℕ) (b : Bool) → Rounds B family u v [] n b
    → (n ≤ (longest_suffix_piece B + 1) * length u) × (n ≤ (longest_suffix_piece B + 1) * length v)
rounds_within B family c u v n b r =
    let x = rounds_exist B family c u v in
    let q = sym (rounds_unique r x.rounds).0 in
    (subst (λ m. m ≤ (longest_suffix_piece B + 1) * length u) q x.first, subst (λ m. m ≤ (longest_suffix_piece B + 1) * length v) q x.second)

-- the bound of document 003, Lemma 6
pub rounds_at_most : (B : List Word) (family : ℕ → ℕ) → Facts B → (u v : Word) (n : ℕ) (b : Bool) → Rounds B family u v [] n b → n ≤ (longest_suffix_piece B + 2) * length u
rounds_at_most B family c u v n b r = let m = (rounds_within B family c u v n b r).0 in omega arith
