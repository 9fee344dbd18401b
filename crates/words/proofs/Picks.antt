-- A value that a chain of `cond`s gives, by the tests that hold: `search picks` goes down such a chain.
use mathlib.Core.Path.{◌≡◌, refl}
use mathlib.Core.Bool.{Bool, true, false, cond, ◌||◌, ◌&&◌}
use borrow.Author.Tests.{lt-ltb, le-ltb, le-leb, lt-leb, eq-eqb, ne_eqb}
use borrow.Author.Rules.{rules}

pub pick_true {ℓ} : {A : Type ℓ} (b : Bool) (x y z : A) → b ≡ true → z ≡ x → z ≡ cond b x y
pick_true b x y z h e = rw h e

pub pick_false {ℓ} : {A : Type ℓ} (b : Bool) (x y z : A) → b ≡ false → z ≡ y → z ≡ cond b x y
pick_false b x y z h e = rw h e

pub or_left : (a b : Bool) → a ≡ true → (a || b) ≡ true
or_left a b h = rw h

pub or_right : (a b : Bool) → b ≡ true → (a || b) ≡ true
or_right true b h = refl
or_right false b h = h

pub or_none : (a b : Bool) → a ≡ false → b ≡ false → (a || b) ≡ false
or_none a b h k = rw h k

pub and_both : (a b : Bool) → a ≡ true → b ≡ true → (a && b) ≡ true
and_both a b h k = rw h k

pub and_left : (a b : Bool) → a ≡ false → (a && b) ≡ false
and_left a b h = rw h

pub and_right : (a b : Bool) → b ≡ false → (a && b) ≡ false
and_right true b h = h
and_right false b h = refl

pub ruleset picks = (pick_true, pick_false, or_left, or_right, or_none, and_both, and_left, and_right, lt-ltb, le-ltb, le-leb, lt-leb, eq-eqb, ne_eqb, rules)
