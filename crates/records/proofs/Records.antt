-- The definition of where a record lies, by the tests that the code makes.
use Prim.Native.Nat.{ℕ, ◌+◌, ◌-◌, ◌≤◌, ◌<◌}
use mathlib.Core.List.{List}
use mathlib.Core.Path.{◌≡◌}
use native.Mathlib.Omega.{arith}
use borrow.Author.Rules.{rules}
use borrow.Author.Tests.{lt-ltb, le-ltb}
use lib.ListN.{length}
use Rattle.std.specs.Prelude.{Some, None}
use Rattle.format.specs.Book.{field, record_at}

-- a record: too few bytes for its first four, for its payload, or whole
module _ (book : List ℕ) (at : ℕ) where
  pub record_none : length book < 4 → None ≡ record_at book at
  unfolding record_at
  record_none h = rw (lt-ltb (length book) (at + 4) (omega arith))

  pub record_stray : length book - 4 < at → None ≡ record_at book at
  unfolding record_at
  record_stray h = rw (lt-ltb (length book) (at + 4) (omega arith))

  pub record_cut : (l : ℕ) → l ≡ field book at → 4 ≤ length book → at ≤ length book - 4 → length book - 4 - at < l → None ≡ record_at book at
  unfolding record_at
  record_cut l e h k s = rw (le-ltb (length book) (at + 4) (omega arith), ← e, lt-ltb (length book) (at + 4 + l) (omega arith))

  pub record_whole : (l kind : ℕ) → l ≡ field book at → kind ≡ field book (at + 2) → 4 ≤ length book → at ≤ length book - 4 → l ≤ length book - 4 - at
      → Some (record { kind = kind; from = at + 4; to = at + 4 + l }) ≡ record_at book at
  unfolding record_at
  record_whole l kind e f h k s =
      rw (le-ltb (length book) (at + 4) (omega arith), ← e, ← f, le-ltb (length book) (at + 4 + l) (omega arith))

pub ruleset records = (record_none, record_stray, record_cut, record_whole, rules)
