-- Dictionary order by the first difference, and a law for each way that the comparison of two X and Y can go.
use Prim.Native.Nat.{ℕ, ◌+◌, ◌-◌, ◌%◌, ◌≤◌, ◌<◌}
use mathlib.Core.Bool.{Bool, true, false}
use mathlib.Core.List.{List, [], ◌∷◌}
use mathlib.Core.Logic.{by_cases}
use mathlib.Core.Path.{◌≡◌, refl, sym, ap, ◌∙◌}
use native.Mathlib.Omega.{arith}
use native.Mathlib.Decide.{dec_lt}
use borrow.Author.Rules.{rules}
use borrow.Author.Tests.{lt-ltb, le-ltb}
use mir.Syntax.{w64}
use mir.Val.{Fits}
use lib.Dec.{eqb, ltb}
use lib.ListN.{length, get_or}
use Rattle.words.specs.Words.{Word, common_prefix, part}
use Rattle.words.proofs.Parts.{part_length, part_at}
use Rattle.words.proofs.Commons.{common_is}
use Rattle.congruence.specs.Rows.{choose}
use Rattle.least.specs.Order.{before, house_rank}
use Rattle.joined.specs.Joined.{Agreed}
use Rattle.sites.specs.declared.Site.{Site}
use Rattle.sites.specs.Sites.{SitesInText}
use Rattle.members.specs.Members.{first_at}

-- the rank of a letter
pub rank_near : (c : ℕ) → c < 64 → (c + 32) % 64 ≡ house_rank c
unfolding house_rank
rank_near c h = by_cases (dec_lt c 32)
    (λ l. rw (lt-ltb c 32 l) (omega (arith, l)))
    (λ l. rw (le-ltb c 32 (omega (arith, l)), lt-ltb c 64 h) (omega (arith, l, h)))

pub rank_far : (c : ℕ) → 64 ≤ c → c ≡ house_rank c
unfolding house_rank
rank_far c h = rw (le-ltb c 32 (omega (arith, h)), le-ltb c 64 h)

pub ruleset ranks = (rank_near, rank_far, rules)

-- the second word ends first, or both end
before_ended : (rank : ℕ → ℕ) (u v : Word) → length v ≤ common_prefix u v → before rank u v ≡ false
unfolding before common_prefix
before_ended rank [] [] h = refl
before_ended rank [] (y ∷ v) h = absurd (omega arith)
before_ended rank (x ∷ u) [] h = refl
before_ended rank (x ∷ u) (y ∷ v) h = go (eqb x y) refl (λ l. before_ended rank u v l)
  where
    go : (t : Bool) → eqb x y ≡ t → (length v ≤ common_prefix u v → before rank u v ≡ false) → choose (eqb x y) (λ _. before rank u v) (λ _. ltb (rank x) (rank y)) ≡ false
    go true e r = let h' = rw e at h in rw e (r (omega arith))
    go false e r = let h' = rw e at h in absurd (omega arith)

-- the first ends first
before_shorter : (rank : ℕ → ℕ) (u v : Word) → length u ≤ common_prefix u v → common_prefix u v < length v → before rank u v ≡ true
unfolding before common_prefix
before_shorter rank [] [] h l = absurd (omega arith)
before_shorter rank [] (y ∷ v) h l = refl
before_shorter rank (x ∷ u) [] h l = absurd (omega arith)
before_shorter rank (x ∷ u) (y ∷ v) h l = go (eqb x y) refl (λ a b. before_shorter rank u v a b)
  where
    go : (t : Bool) → eqb x y ≡ t → (length u ≤ common_prefix u v → common_prefix u v < length v → before rank u v ≡ true)
        → choose (eqb x y) (λ _. before rank u v) (λ _. ltb (rank x) (rank y)) ≡ true
    go true e r = let h' = rw e at h in let l' = rw e at l in rw e (r (omega arith) (omega arith))
    go false e r = let h' = rw e at h in absurd (omega arith)

-- they differ, and the letters there decide
before_differ : (rank : ℕ → ℕ) (u v : Word) → common_prefix u v < length u → common_prefix u v < length v
    → before rank u v ≡ ltb (rank (get_or u (common_prefix u v) 0)) (rank (get_or v (common_prefix u v) 0))
unfolding before common_prefix
before_differ rank [] v h l = absurd (omega arith)
before_differ rank (x ∷ u) [] h l = absurd (omega arith)
before_differ rank (x ∷ u) (y ∷ v) h l = go (eqb x y) refl (λ a b. before_differ rank u v a b)
  where
    go : (t : Bool) → eqb x y ≡ t → (common_prefix u v < length u → common_prefix u v < length v → before rank u v ≡ ltb (rank (get_or u (common_prefix u v) 0)) (rank (get_or v (common_prefix u v) 0)))
        → before rank (x ∷ u) (y ∷ v) ≡ ltb (rank (get_or (x ∷ u) (common_prefix (x ∷ u) (y ∷ v)) 0)) (rank (get_or (y ∷ v) (common_prefix (x ∷ u) (y ∷ v)) 0))
    go true e r = let h' = rw e at h in let l' = rw e at l in rw e (r (omega arith) (omega arith))
    go false e r = rw e

-- the comparison of two X and Y
module _ (text : List ℕ) (s t : Site) (h : SitesInText text s t) where
  own_up : (s.start < s.tail) × (s.tail ≤ length text)
  own_up = let a = h.own in (omega (arith, a.first, a.second), omega (arith, a.third, a.inside))

  other_up : (t.start < t.tail) × (t.tail ≤ length text)
  other_up = let a = h.other in (omega (arith, a.first, a.second), omega (arith, a.third, a.inside))

  longs : (length (part text s.start s.tail) ≡ s.tail - s.start) × (length (part text t.start t.tail) ≡ t.tail - t.start)
  longs = (part_length text s.start s.tail own_up.1, part_length text t.start t.tail other_up.1)

  pub first_up : s.start ≤ s.tail
  first_up = let a = own_up in omega (arith, a.0)

  pub first_other_up : t.start ≤ t.tail
  first_other_up = let a = other_up in omega (arith, a.0)

  pub first_inside : t.tail ≤ length text
  first_inside = other_up.1

  pub first_agreed : Agreed text s.start s.tail (part text t.start t.tail) 0 0
  first_agreed = record { span = record { upwards = first_up; inside = own_up.1 }; passed = omega arith }

  -- Y has a letter, so both begin with one
  pub first_letter : s.start < length text
  first_letter = let a = own_up in omega (arith, a.0, a.1)

  pub first_other_letter : t.start < length text
  first_other_letter = let a = other_up in omega (arith, a.0, a.1)

  letter_own : get_or (part text s.start s.tail) 0 0 ≡ get_or text s.start 0
  letter_own = let a = own_up in part_at text s.start s.tail 0 (omega (arith, a.0)) ∙ ap (λ k. get_or text k 0) {x = s.start + 0} {y = s.start} (omega arith)

  letter_other : get_or (part text t.start t.tail) 0 0 ≡ get_or text t.start 0
  letter_other = let a = other_up in part_at text t.start t.tail 0 (omega (arith, a.0)) ∙ ap (λ k. get_or text k 0) {x = t.start + 0} {y = t.start} (omega arith)

  -- and where these differ they decide
  pub first_apart : (get_or text s.start 0 ≡ get_or text t.start 0 → ⊥) → (x y : ℕ) → x ≡ house_rank (get_or text s.start 0) → y ≡ house_rank (get_or text t.start 0) → ltb x y ≡ first_at text s t
  unfolding first_at
  first_apart d x y f g =
      let a = own_up in
      let b = other_up in
      let l = longs in
      let c = common_is (part text s.start s.tail) (part text t.start t.tail) 0 (omega arith) (omega arith) (λ k z. absurd (omega (arith, z)))
      (λ _ _ z. d (sym letter_own ∙ z ∙ letter_other)) in
      let r = before_differ house_rank (part text s.start s.tail) (part text t.start t.tail) (omega (arith, c, a.0, l.0)) (omega (arith, c, b.0, l.1)) in
      rw (f, g) (sym (rw (c, letter_own, letter_other) at r))

  module _ (m : ℕ) (e : m ≡ common_prefix (part text s.start s.tail) (part text t.start t.tail)) where
    pub first_ended : t.tail - t.start ≤ m → false ≡ first_at text s t
    unfolding first_at
    first_ended l = let b = longs in sym (before_ended house_rank (part text s.start s.tail) (part text t.start t.tail) (omega (arith, b.1, e, l)))

    module _ (k : m < t.tail - t.start) where
      pub first_shorter : s.tail - s.start ≤ m → true ≡ first_at text s t
      unfolding first_at
      first_shorter l = let b = longs in sym (before_shorter house_rank (part text s.start s.tail) (part text t.start t.tail) (omega (arith, b.0, e, l)) (omega (arith, b.1, e, k)))

      module _ (l : m < s.tail - s.start) where
        pub first_place : s.start + m < length text
        first_place = let a = own_up in omega (arith, a.0, a.1, l)

        pub first_other_place : t.start + m < length text
        first_other_place = let a = other_up in omega (arith, a.0, a.1, k)

        pub first_fits : Fits w64 (length text) → Fits w64 (s.start + m)
        first_fits f = let a = first_place in omega (arith, a, f)

        pub first_other_fits : Fits w64 (length text) → Fits w64 (t.start + m)
        first_other_fits f = let a = first_other_place in omega (arith, a, f)

        pub first_differ : (x y : ℕ) → x ≡ house_rank (get_or text (s.start + m) 0) → y ≡ house_rank (get_or text (t.start + m) 0) → ltb x y ≡ first_at text s t
        unfolding first_at
        first_differ x y f g =
            let b = longs in
            let d = before_differ house_rank (part text s.start s.tail) (part text t.start t.tail) (omega (arith, b.0, e, l)) (omega (arith, b.1, e, k)) in
            let d' = rw (← e, part_at text s.start s.tail m l, part_at text t.start t.tail m k) at d in
            rw (f, g) (sym d')

pub ruleset letters = (first_letter, first_other_letter, first_apart, rules)

pub ruleset firsts = (first_up, first_other_up, first_inside, first_agreed, first_ended, first_shorter, first_place, first_other_place, first_fits, first_other_fits, first_differ, rules)
