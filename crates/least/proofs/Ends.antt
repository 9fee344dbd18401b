-- The rounds of the least word: their number and their result are fixed, what computes gives that result, they end, and how many they are and how long the word
-- is at most.
use Prim.Native.Nat.{ℕ, zero, suc, ◌+◌, ◌-◌, ◌*◌, ◌≤◌, ◌<◌}
use mathlib.Core.Bool.{Bool, true, false, true≢false}
use mathlib.Core.List.{List, []}
use mathlib.Core.Path.{◌≡◌, refl, sym, ap, ◌∙◌, subst}
use native.Mathlib.Omega.{arith}
use native.Mathlib.Nat.{mul-le-mul_left}
use lib.ListN.{length, length-append}
use Rattle.words.specs.Words.{Word}
use Rattle.overlap.specs.Cuts.{len, longest_suffix_piece}
use Rattle.congruence.specs.Theorem.{TailThenRest}
use Rattle.congruence.proofs.Heads.{Facts}
use Rattle.congruence.proofs.Shape.{weight, tailed_whole}
use Rattle.least.specs.Writing.{Part, write_part, Found, behind, word_of, Parts, least_within}
use Rattle.least.specs.Writing.Part.{end, none, part}
use Rattle.least.specs.Writing.Found.{found, absent}
use Rattle.least.specs.Writing.Parts.{ended, failed, goes}
use Rattle.least.specs.Theorem.{longest_of, longest_word}
use Rattle.least.proofs.Shape.{room, round_keeps}

-- what n parts that end with q say of what the first round gives
abbrev Known : List Word → (ℕ → ℕ) → (ℕ → ℕ) → Part → ℕ → Found → Type 0
Known B family rank end n q = (n ≡ 0) × (q ≡ found [])
Known B family rank none n q = (n ≡ 0) × (q ≡ absent)
Known B family rank (part c p u) n q = (m : ℕ) × (r : Found) × (n ≡ suc m) × (q ≡ behind c r) × Parts B family rank p u m r

-- the first round gives one of the three
parts_known : {B : List Word} {family rank : ℕ → ℕ} {p u : Word} {n : ℕ} {q : Found} → Parts B family rank p u n q → Known B family rank (write_part B family rank p u) n q
parts_known {B} {family} {rank} (ended e) = subst (λ x. Known B family rank x 0 (found [])) (sym e) (refl, refl)
parts_known {B} {family} {rank} (failed e) = subst (λ x. Known B family rank x 0 absent) (sym e) (refl, refl)
parts_known {B} {family} {rank} (goes {c = c} {n = n} {r = r} e s) = subst (λ x. Known B family rank x (suc n) (behind c r)) (sym e) (n, r, refl, refl, s)

-- the presentation, the mark and the word alone fix the number of parts and the result
pub parts_unique : {B : List Word} {family rank : ℕ → ℕ} {p u : Word} {n m : ℕ} {r q : Found} → Parts B family rank p u n r → Parts B family rank p u m q → (n ≡ m) × (r ≡ q)
parts_unique {B} {family} {rank} {m = m} {q = q} (ended e) s =
    let k = subst (λ x. Known B family rank x m q) e (parts_known s) in
    (sym k.0, sym k.1)
parts_unique {B} {family} {rank} {m = m} {q = q} (failed e) s =
    let k = subst (λ x. Known B family rank x m q) e (parts_known s) in
    (sym k.0, sym k.1)
parts_unique {B} {family} {rank} {m = m} {q = q} (goes {c = c} e r) s =
    let k = subst (λ x. Known B family rank x m q) e (parts_known s) in
    let i = parts_unique r k.4 in
    (ap suc i.0 ∙ sym k.2, ap (behind c) i.1 ∙ sym k.3)

-- what computes gives the result, with as many rounds or more
pub computed_of_parts : {B : List Word} {family rank : ℕ → ℕ} {p u : Word} {n : ℕ} {r : Found} → Parts B family rank p u n r → (rounds : ℕ) → n ≤ rounds
    → least_within B family rank rounds p u ≡ r
unfolding least_within
computed_of_parts (ended e) zero h = rw e
computed_of_parts (ended e) (suc rounds) h = rw e
computed_of_parts (failed e) zero h = rw e
computed_of_parts (failed e) (suc rounds) h = rw e
computed_of_parts (goes e r) zero h = absurd (omega arith)
computed_of_parts (goes {c = c} e r) (suc rounds) h = rw e (ap (behind c) (computed_of_parts r rounds (omega arith)))

-- a word is found
abbrev is_found : Found → Bool
is_found (found w) = true
is_found absent = false

-- a word behind a part is as long as both
behind_length : (c : Word) (r : Found) (a b : ℕ) → length c + b ≤ a → ((w : Word) → r ≡ found w → length w ≤ b) → (w : Word) → behind c r ≡ found w → length w ≤ a
behind_length c (found x) a b h f w e =
    let l = f x refl in
    let m = sym (ap length (ap word_of e)) ∙ length-append c x in
    omega arith
behind_length c absent a b h f w e = absurd (true≢false (sym (ap is_found e)))

-- the rounds end from p and u, after at most a parts, with a word of at most b letters if there is one
pub record EndsWithin (B : List Word) (family rank : ℕ → ℕ) (p u : Word) (a b : ℕ) : Type 0 where
  pub count : ℕ
  pub result : Found
  pub parts : Parts B family rank p u count result
  pub bound : count ≤ a
  pub short : (w : Word) → result ≡ found w → length w ≤ b

module _ (B : List Word) (R : Facts B) (family rank : ℕ → ℕ) (u₀ : Word) where
  -- they end from every state that is lighter than so much
  ends_below : (fuel : ℕ) (p u : Word) (t : TailThenRest B u₀ u) → weight B u₀ u t < fuel → EndsWithin B family rank p u (weight B u₀ u t) (room B u₀ p u t)
  ends_below zero p u t l = absurd (omega arith)
  ends_below (suc fuel) p u t l = step (λ p u t l. ends_below fuel p u t l) (write_part B family rank p u) refl
    where
      step : ((p u : Word) (t : TailThenRest B u₀ u) → weight B u₀ u t < fuel → EndsWithin B family rank p u (weight B u₀ u t) (room B u₀ p u t))
          → (x : Part) → write_part B family rank p u ≡ x → EndsWithin B family rank p u (weight B u₀ u t) (room B u₀ p u t)
      step f end q =
          record { count = 0; result = found []; parts = ended q; bound = omega arith; short = λ w e. let m = ap length (ap word_of e) in omega arith }
      step f none q =
          record { count = 0; result = absent; parts = failed q; bound = omega arith; short = λ w e. absurd (true≢false (sym (ap is_found e))) }
      step f (part c p' u') q =
          let k = round_keeps B R family rank u₀ p u c p' u' t q in
          let kl = k.less in
          let r = f p' u' k.next (omega arith) in
          let rb = r.bound in
          record {
            count = suc r.count;
            result = behind c r.result;
            parts = goes q r.parts;
            bound = omega arith;
            short = behind_length c r.result (room B u₀ p u t) (room B u₀ p' u' k.next) k.paid r.short;
          }

  -- they end from every state, within its weight and its room
  pub ends_kept : (p u : Word) (t : TailThenRest B u₀ u) → EndsWithin B family rank p u (weight B u₀ u t) (room B u₀ p u t)
  ends_kept p u t = ends_below (suc (weight B u₀ u t)) p u t (omega arith)

-- the rounds end from p and u, and their bounds; k is the greatest length of a Z
pub record Ends (B : List Word) (family rank : ℕ → ℕ) (p u : Word) : Type 0 where
  pub count : ℕ
  pub result : Found
  pub parts : Parts B family rank p u count result
  pub bound : count ≤ (longest_suffix_piece B + 1) * length u
  pub short : (w : Word) → result ≡ found w → length w ≤ longest_word B * length u

-- from every mark and word the rounds end
pub parts_end : (B : List Word) → Facts B → (family rank : ℕ → ℕ) (p u : Word) → Ends B family rank p u
unfolding tailed_whole
parts_end B R family rank p u =
    let r = ends_kept B R family rank u p u (tailed_whole B u) in
    record {
      count = r.count;
      result = r.result;
      parts = r.parts;
      bound = weight_whole (longest_suffix_piece B) (length u) r.count r.bound;
      short = λ w e. room_whole (longest_word B) (length u) (length p) (length w) (r.short w e);
    }
  where
    weight_whole : (k l n : ℕ) → n ≤ 0 + (k + 1) * (l - 0) → n ≤ (k + 1) * l
    weight_whole k l n h = let m = ap (λ x. (k + 1) * x) {x = l - 0} {y = l} (omega arith) in omega arith

    room_whole : (m l p n : ℕ) → n ≤ (0 - p) + m * (l - 0) → n ≤ m * l
    room_whole m l p n h = let q = ap (λ x. m * x) {x = l - 0} {y = l} (omega arith) in omega arith

-- the first n relation words have at most so many letters
longest_within : (B : List Word) (most n : ℕ) → ((i : ℕ) → i < n → len B i ≤ most) → longest_of B n ≤ most
unfolding longest_of
longest_within B most zero h = omega arith
longest_within B most (suc n) h = let l = longest_within B most n (λ i k. h i (omega arith)) in let m = h n (omega arith) in omega arith

-- at the limits of books and words the least word has at most 262144 letters
pub least_most : (B : List Word) (u : Word) → ((i : ℕ) → i < length B → len B i ≤ 64) → length u ≤ 4096 → longest_word B * length u ≤ 262144
least_most B u h l =
    let m = longest_within B 64 (length B) h in
    let q = mul-le-mul_left {m = length u} {n = 4096} (longest_word B) l in
    omega arith
