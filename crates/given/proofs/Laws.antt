-- A law for each way that the checks of given words can go, and what words that are fine are.
use Prim.Native.Nat.{ℕ, ◌+◌, ◌<◌, ◌≤◌}
use mathlib.Core.Bool.{Bool, true, false}
use mathlib.Core.List.{List, []}
use mathlib.Core.Path.{◌≡◌, refl, sym, ap, ◌∙◌}
use native.Mathlib.Omega.{arith}
use borrow.Author.Rules.{rules}
use borrow.Author.Tests.{lt-ltb, le-ltb, ltb-true, ltb-false}
use lib.Dec.{ltb}
use lib.ListN.{length, get_or}
use mir.Val.{Fits}
use mir.Syntax.{w16}
use Rattle.std.specs.Prelude.{Option, Some, None, Result, Ok, Err}
use Rattle.words.specs.Words.{Word}
use Rattle.words.specs.Writing.{written}
use Rattle.writing.proofs.Writing.{written_length, written_taken}
use Rattle.refusals.specs.declared.Refusal.{Refusal}
use Rattle.refusals.specs.declared.Refusal.TheVariants.{Long, Stranger}
use Rattle.limits.specs.declared.Word.{Word as Record}
use Rattle.limits.specs.Limits.{compared_most, round_most, mark_most, word_of}
use Rattle.words.specs.Letters.{first_unknown}
use Rattle.letters.proofs.Letters.{known_of}
use Rattle.given.specs.Given.{Widened}
use Rattle.asked.specs.Given.{given_of, on_given, one_of, marked_of, pair_of, triple_of}

-- what the word's constructor answers
module _ (most n : ℕ) where
  over_most : word_of most n ≡ None → most < n
  unfolding word_of
  over_most e = go (ltb most n) refl
    where
      go : (t : Bool) → ltb most n ≡ t → most < n
      go true q = ltb-true most n q
      go false q =
          let f : ◌≡◌ {A = Option Record} (Some (record { length = n })) None = rw q at e in
          let z : ◌≡◌ {A = ℕ} 0 1 = cc in
          absurd (omega arith)

  within_most : (w : Record) → word_of most n ≡ Some w → (n ≤ most) × (w.length ≡ n)
  unfolding word_of
  within_most w e = go (ltb most n) refl
    where
      go : (t : Bool) → ltb most n ≡ t → (n ≤ most) × (w.length ≡ n)
      go true q =
          let f : ◌≡◌ {A = Option Record} None (Some w) = rw q at e in
          let z : ◌≡◌ {A = ℕ} 0 1 = cc in
          absurd (omega arith)
      go false q =
          let f : ◌≡◌ {A = Option Record} (Some (record { length = n })) (Some w) = rw q at e in
          let g : ◌≡◌ {A = Record} (record { length = n }) w = cc in
          (ltb-false most n q, sym (ap (λ (x : Record). x.length) g))

-- one word
module _ (number most letters : ℕ) (w : Word) (made : Option Record) (m : made ≡ word_of most (length w)) where
  pub given_long : made ≡ None → Err (Long number) ≡ given_of number most letters w
  unfolding given_of
  given_long f = rw (lt-ltb _ _ (over_most most (length w) (sym m ∙ f)))

  module _ (x : Record) (f : made ≡ Some x) (at : ℕ) (e : at ≡ first_unknown letters w) where
    within : (length w ≤ most) × (x.length ≡ length w)
    within = within_most most (length w) x (sym m ∙ f)

    pub given_stranger : at < x.length → Err (Stranger number at) ≡ given_of number most letters w
    unfolding given_of
    given_stranger l = let h = within in rw (le-ltb _ _ h.0, ← e, lt-ltb at (length w) (omega (arith, h.1)))

    pub given_fine : x.length ≤ at → Ok tt ≡ given_of number most letters w
    unfolding given_of
    given_fine l = let h = within in rw (le-ltb _ _ h.0, ← e, le-ltb at (length w) (omega (arith, h.1)))

    pub position_fits : most ≤ 65535 → at < x.length → Fits w16 at
    position_fits k l = let h = within in omega (arith, h.0, h.1)

pub ruleset givens = (given_long, given_stranger, given_fine, position_fits, rules)

-- a word and a front mark in turn
module _ (letters : ℕ) (u p : Word) (a : Result (Unit {0}) Refusal) (e : a ≡ one_of letters u) where
  pub marked_first : (r : Refusal) → a ≡ Err r → a ≡ marked_of letters u p
  unfolding marked_of
  marked_first r f = rw (← e, f)

  pub marked_second : (b : Result (Unit {0}) Refusal) → a ≡ Ok tt → b ≡ given_of 2 mark_most letters p → b ≡ marked_of letters u p
  unfolding marked_of
  marked_second b f g = rw (← e, f) g

pub ruleset marks = (marked_first, marked_second, rules)

-- words in turn
module _ (letters : ℕ) (u v : Word) (a : Result (Unit {0}) Refusal) (e : a ≡ given_of 0 compared_most letters u) where
  pub pair_first : (r : Refusal) → a ≡ Err r → a ≡ pair_of letters u v
  unfolding pair_of
  pair_first r f = rw (← e, f)

  pub pair_second : (b : Result (Unit {0}) Refusal) → a ≡ Ok tt → b ≡ given_of 1 compared_most letters v → b ≡ pair_of letters u v
  unfolding pair_of
  pair_second b f g = rw (← e, f) g

pub ruleset pairs = (pair_first, pair_second, rules)

module _ (letters : ℕ) (u v p : Word) (a : Result (Unit {0}) Refusal) (e : a ≡ given_of 0 round_most letters u) where
  pub triple_first : (r : Refusal) → a ≡ Err r → a ≡ triple_of letters u v p
  unfolding triple_of
  triple_first r f = rw (← e, f)

  module _ (f : a ≡ Ok tt) (b : Result (Unit {0}) Refusal) (g : b ≡ given_of 1 round_most letters v) where
    pub triple_second : (r : Refusal) → b ≡ Err r → b ≡ triple_of letters u v p
    unfolding triple_of
    triple_second r k = rw (← e, f, ← g, k)

    pub triple_third : (c : Result (Unit {0}) Refusal) → b ≡ Ok tt → c ≡ given_of 2 mark_most letters p → c ≡ triple_of letters u v p
    unfolding triple_of
    triple_third c k l = rw (← e, f, ← g, k) l

pub ruleset triples = (triple_first, triple_second, triple_third, rules)

-- a word that is fine is within its limit
pub fine_short : (number most letters : ℕ) (w : Word) → given_of number most letters w ≡ Ok tt → length w ≤ most
unfolding given_of
fine_short number most letters w e = go (ltb most (length w)) refl
  where
    go : (t : Bool) → ltb most (length w) ≡ t → length w ≤ most
    go true q =
        let d : Err (Long number) ≡ Ok tt = rw q at e in
        let z : ◌≡◌ {A = ℕ} 0 1 = cc in
        absurd (omega arith)
    go false q = ltb-false most (length w) q

-- and has only letters that the head has
pub fine_known : (number most letters : ℕ) (w : Word) → given_of number most letters w ≡ Ok tt → (i : ℕ) → i < length w → get_or w i 0 < letters
unfolding given_of
fine_known number most letters w e = go (ltb most (length w)) refl (ltb (first_unknown letters w) (length w)) refl
  where
    go : (s : Bool) → ltb most (length w) ≡ s → (t : Bool) → ltb (first_unknown letters w) (length w) ≡ t → (i : ℕ) → i < length w → get_or w i 0 < letters
    go true q t r = let d : Err (Long number) ≡ Ok tt = rw q at e in let z : ◌≡◌ {A = ℕ} 0 1 = cc in absurd (omega arith)
    go false q true r =
        let d : Err (Stranger number (first_unknown letters w)) ≡ Ok tt = rw (q, r) at e in
        let z : ◌≡◌ {A = ℕ} 0 1 = cc in
        absurd (omega arith)
    go false q false r = known_of letters w (ltb-false (first_unknown letters w) (length w) r)

-- whether a word is fine is not a matter of its number
pub fine_again : (m n most letters : ℕ) (w : Word) → given_of m most letters w ≡ Ok tt → given_of n most letters w ≡ Ok tt
unfolding given_of
fine_again m n most letters w e = go (ltb most (length w)) refl (ltb (first_unknown letters w) (length w)) refl
  where
    go : (s : Bool) → ltb most (length w) ≡ s → (t : Bool) → ltb (first_unknown letters w) (length w) ≡ t → given_of n most letters w ≡ Ok tt
    go true q t r = let d : Err (Long m) ≡ Ok tt = rw q at e in let z : ◌≡◌ {A = ℕ} 0 1 = cc in absurd (omega arith)
    go false q true r = let d : Err (Stranger m (first_unknown letters w)) ≡ Ok tt = rw (q, r) at e in let z : ◌≡◌ {A = ℕ} 0 1 = cc in absurd (omega arith)
    go false q false r = rw (q, r)

-- where both are fine, each is
pub fine_both : (g h : Result (Unit {0}) Refusal) → on_given g Err h ≡ Ok tt → (g ≡ Ok tt) × (h ≡ Ok tt)
fine_both (Ok _) h e = (refl, e)
fine_both (Err r) h e = let z : ◌≡◌ {A = ℕ} 0 1 = cc in absurd (omega arith)

-- of a word and a front mark, too
pub fine_marked : (letters : ℕ) (u p : Word) → marked_of letters u p ≡ Ok tt → (one_of letters u ≡ Ok tt) × (given_of 2 mark_most letters p ≡ Ok tt)
unfolding marked_of
fine_marked letters u p e = fine_both (one_of letters u) (given_of 2 mark_most letters p) e

-- the empty front mark is fine
pub marked_nothing : (letters : ℕ) (u : Word) → marked_of letters u [] ≡ one_of letters u
unfolding marked_of given_of first_unknown
marked_nothing letters u = go (one_of letters u) refl
  where
    none : given_of 2 mark_most letters [] ≡ Ok tt
    none = refl

    go : (g : Result (Unit {0}) Refusal) → one_of letters u ≡ g → on_given (one_of letters u) Err (given_of 2 mark_most letters []) ≡ one_of letters u
    go (Ok _) e = rw e none
    go (Err r) e = rw e

-- a word at the start of an array
pub widen_room : (w d : List ℕ) → length w ≤ length d → 0 + length w ≤ length d
widen_room w d h = omega arith

pub word_widened : (w d a : List ℕ) → length w ≤ length d → a ≡ written 0 w d → Widened w a
word_widened w d a h e =
    let same = written_taken w d a e in
    record { inside = omega (arith, ap length e ∙ written_length 0 w d (omega arith)); long = sym (ap length same); same = same }

pub ruleset widenings = (widen_room, word_widened, rules)
