-- The relation word whose X and Y stand at a place: there is one just where the rows say that some stand there.
use Prim.Native.Nat.{ℕ}
use mathlib.Core.Bool.{Bool}
use mathlib.Core.List.{List}
use mathlib.Core.Path.{◌≡◌, sym, ◌∙◌}
use mathlib.Core.Logic.{by_cases}
use native.Mathlib.Omega.{arith}
use native.Mathlib.Decide.{dec_lt}
use lib.Dec.{ltb}
use borrow.Author.Tests.{lt-ltb, le-ltb}
use lib.ListN.{length, drop}
use Rattle.words.specs.Search.{any_below, least}
use Rattle.words.specs.Words.{Word, is_prefix}
use Rattle.words.proofs.Searching.{any_of, any_none, least_bound, least_passes, least_first}
use Rattle.overlap.specs.Cuts.{xy_of}
use Rattle.congruence.specs.Rows.{has_relation_prefix_at}
use Rattle.index.specs.Index.{relation_prefix_at}

pub any_least : (n : ℕ) (p : ℕ → Bool) → any_below n p ≡ ltb (least n p) n
any_least n p =
    let b = least_bound n p in
    by_cases (dec_lt (least n p) n)
    (λ h. any_of n p (least n p) h (least_passes n p h) ∙ sym (lt-ltb (least n p) n h))
    (λ h. any_none n p (λ k l. (least_first n p).none k (omega arith)) ∙ sym (le-ltb (least n p) n (omega arith)))

pub stands_prefix : (B : List Word) (w : Word) (q : ℕ) → has_relation_prefix_at B w q ≡ ltb (relation_prefix_at B w q) (length B)
unfolding has_relation_prefix_at relation_prefix_at
stands_prefix B w q = any_least (length B) (λ j. is_prefix (xy_of B j) (drop q w))
