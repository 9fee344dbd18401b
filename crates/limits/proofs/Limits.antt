-- The constructors: what they answer by the tests that the code makes.
use Prim.Native.Nat.{ℕ, ◌≤◌, ◌<◌}
use mathlib.Core.Bool.{Bool, true, false}
use mathlib.Core.Path.{◌≡◌, sym, ◌∙◌}
use borrow.Author.Rules.{rules}
use borrow.Author.Tests.{lt-ltb, le-ltb}
use lib.Dec.{ltb}
use Rattle.std.specs.Prelude.{Some, None}
use Rattle.limits.specs.Limits.{outside, head_of, relation_of, word_of, input_of}

pub below_outside : (least most x : ℕ) → x < least → true ≡ outside least most x
below_outside least most x h = rw (lt-ltb x least h)

pub above_outside : (least most x : ℕ) → least ≤ x → ltb most x ≡ outside least most x
above_outside least most x h = rw (le-ltb x least h)

pub ruleset outsides = (below_outside, above_outside, rules)

pub head_range : (x : ℕ) (r : Bool) → r ≡ outside 1 64 x → r ≡ true → None ≡ head_of x
unfolding head_of
head_range x r e t = rw (sym e ∙ t)

pub head_good : (x : ℕ) (r : Bool) → r ≡ outside 1 64 x → r ≡ false → Some (record { letters = x }) ≡ head_of x
unfolding head_of
head_good x r e t = rw (sym e ∙ t)

pub relation_left : (m n : ℕ) (r : Bool) → r ≡ outside 1 64 m → r ≡ true → None ≡ relation_of m n
unfolding relation_of
relation_left m n r e t = rw (sym e ∙ t)

module _ (m n : ℕ) (r : Bool) (e : r ≡ outside 1 64 m) (t : r ≡ false) (s : Bool) (d : s ≡ outside 1 64 n) where
  pub relation_right : s ≡ true → None ≡ relation_of m n
  unfolding relation_of
  relation_right u = rw (sym e ∙ t, sym d ∙ u)

  pub relation_good : s ≡ false → Some (record { left = m; right = n }) ≡ relation_of m n
  unfolding relation_of
  relation_good u = rw (sym e ∙ t, sym d ∙ u)

module _ (most n : ℕ) where
  pub word_long : most < n → None ≡ word_of most n
  unfolding word_of
  word_long h = rw (lt-ltb most n h)

  pub word_good : n ≤ most → Some (record { length = n }) ≡ word_of most n
  unfolding word_of
  word_good h = rw (le-ltb most n h)

pub input_heavy : (n : ℕ) → 60000 < n → None ≡ input_of n
unfolding input_of
input_heavy n h = rw (lt-ltb 60000 n h)

pub input_good : (n : ℕ) → n ≤ 60000 → Some (record { length = n }) ≡ input_of n
unfolding input_of
input_good n h = rw (le-ltb 60000 n h)

pub ruleset makes = (head_range, head_good, relation_left, relation_right, relation_good, word_long, word_good, input_heavy, input_good, rules)
