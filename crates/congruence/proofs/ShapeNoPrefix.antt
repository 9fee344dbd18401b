-- Words in which no X and Y stands: ends of a Z are such words, so a prefix XY of z r reaches past z (document 003, Lemma 6).
use Prim.Native.Nat.{ℕ, zero, suc, ◌+◌, ◌≤◌, ◌<◌}
use mathlib.Core.Bool.{true, true≢false}
use mathlib.Core.Logic.{by_cases}
use mathlib.Core.List.{List, [], ◌++◌}
use mathlib.Core.Path.{◌≡◌, refl, sym, ap, ◌∙◌, subst}
use native.Mathlib.Omega.{arith}
use native.Mathlib.Decide.{dec_lt}
use lib.ListN.{length, get_or, drop, length-drop, get_or-append}
use lib.Seq.{drop-nil, drop-drop, get_or-take, get_or-drop}
use Rattle.words.specs.Words.{Word, is_prefix}
use Rattle.words.proofs.Tests.{false_of}
use Rattle.words.proofs.Segments.{Same}
use Rattle.words.proofs.Prefixes.{prefix_at, at_prefix, prefix_same, prefix_fits}
use Rattle.overlap.specs.Pieces.{word}
use Rattle.overlap.specs.Cuts.{zlen, xylen, xy_of, z_of, zmost, longest_suffix_piece}
use Rattle.overlap.proofs.Facts.{z_bound, length_xy, length_z}
use Rattle.congruence.specs.Rows.{has_relation_prefix_at}
use Rattle.congruence.specs.NoRelationPrefix.{NoRelationPrefix}
use Rattle.congruence.specs.Theorem.{EndOfTail}
use Rattle.congruence.specs.Theorem.EndOfTail.{nothing, of}
use Rattle.congruence.proofs.Heads.{Facts}
use Rattle.congruence.proofs.RowTests.{stands_of_test, test_of_stands}

-- a prefix of z r that fits in z is a prefix of z
pub prefix_of_part : (a z r : Word) → length a ≤ length z → is_prefix a (z ++ r) ≡ true → is_prefix a z ≡ true
prefix_of_part a z r h e = at_prefix a z h (λ k l. prefix_at a (z ++ r) e k l ∙ get_or-append z r 0 k (omega arith))

-- no Z is longer than document 01's k
z_most : (B : List Word) (n i : ℕ) → i < n → zlen B i ≤ zmost B n
unfolding zmost
z_most B zero i h = absurd (omega arith)
z_most B (suc n) i h = by_cases (dec_lt i n)
    (λ a. let r = z_most B n i a in omega arith)
    (λ a. let e : zlen B i ≡ zlen B n = ap (zlen B) (omega arith) in omega arith)

pub z_at_most : (B : List Word) (i : ℕ) → i < length B → length (z_of B i) ≤ longest_suffix_piece B
z_at_most B i h = let m = z_most B (length B) i h in let d = length_z B i in omega arith

-- nothing stands in the empty word
pub no_prefix_nil : (B : List Word) → Facts B → NoRelationPrefix B []
no_prefix_nil B c = record { nowhere = λ q. false_of (has_relation_prefix_at B [] q) (none q) }
  where
    none : (q : ℕ) → has_relation_prefix_at B [] q ≡ true → ⊥
    none q e =
        let f = test_of_stands B [] q e in
        let l = length_xy B f.0 in
        let s = c.some f.0 f.1 in
        let r = prefix_fits (xy_of B f.0) [] q (omega arith) f.2 in
        omega arith

-- nothing stands in an end of a word in which nothing stands
pub no_prefix_drop : (B : List Word) (z : Word) (a : ℕ) → NoRelationPrefix B z → NoRelationPrefix B (drop a z)
unfolding has_relation_prefix_at
no_prefix_drop B z a h = record { nowhere = λ q. rw drop-drop (h.nowhere (a + q)) }

-- nothing stands in a Z: X and Y stand at the start of their own relation word only
pub no_prefix_z : (B : List Word) → Facts B → (i : ℕ) → i < length B → NoRelationPrefix B (z_of B i)
no_prefix_z B c i h = record { nowhere = λ q. false_of (has_relation_prefix_at B (z_of B i) q) (none q) }
  where
    none : (q : ℕ) → has_relation_prefix_at B (z_of B i) q ≡ true → ⊥
    none q e =
        let f = test_of_stands B (z_of B i) q e in
        let l = length_xy B f.0 in
        let s = c.some f.0 f.1 in
        let s' = c.some i h in
        let w = c.within f.0 f.1 in
        let w' = c.within i h in
        let z = length_z B i in
        let y = z_bound B i in
        let r = prefix_fits (xy_of B f.0) (z_of B i) q (omega arith) f.2 in
        let m = prefix_same (xy_of B f.0) (z_of B i) q f.2 in
        let n : Same (word B f.0) 0 (word B i) (xylen B i + q) (xylen B f.0) =
        record {
          at = λ k b.
              sym (get_or-take (xylen B f.0) (word B f.0) (0 + k) 0 (omega arith)) ∙ m.at k (omega arith) ∙ get_or-drop (xylen B i) (word B i) (q + k) 0 ∙ ap (λ n. get_or (word B i) n 0) (omega arith);
        }
        in
        let p = c.marker f.0 i (xylen B i + q) (xylen B f.0) f.1 h (omega arith) (omega arith) (omega arith) n in
        omega arith

-- every Z is an end of a tail
pub tail_of_z : (B : List Word) (i : ℕ) → i < length B → EndOfTail B (z_of B i)
tail_of_z B i h = of i 0 h refl

-- an end of an end of a tail is one
pub tail_drop : (B : List Word) (z : Word) (n : ℕ) → EndOfTail B z → EndOfTail B (drop n z)
tail_drop B z n (nothing e) = nothing (rw e (drop-nil n))
tail_drop B z n (of i a h e) = of i (a + n) h (rw e (drop-drop n a (z_of B i)))

-- X and Y stand in no end of a tail
pub no_prefix_tail : (B : List Word) → Facts B → (z : Word) → EndOfTail B z → NoRelationPrefix B z
no_prefix_tail B c z (nothing e) = subst (NoRelationPrefix B) (sym e) (no_prefix_nil B c)
no_prefix_tail B c z (of i a h e) = subst (NoRelationPrefix B) (sym e) (no_prefix_drop B (z_of B i) a (no_prefix_z B c i h))

-- no end of a tail is longer than document 01's k
pub tail_at_most : (B : List Word) (z : Word) → EndOfTail B z → length z ≤ longest_suffix_piece B
tail_at_most B z (nothing e) = rw e (omega arith)
tail_at_most B z (of i a h e) = let m = z_at_most B i h in let d = length-drop a (z_of B i) in rw e (omega arith)

-- a prefix XY of z r, nothing standing in z, is longer than z
pub prefix_past_tail : (B : List Word) → Facts B → (z r : Word) (j : ℕ) → NoRelationPrefix B z → j < length B → is_prefix (xy_of B j) (z ++ r) ≡ true → length z < xylen B j
prefix_past_tail B c z r j s h e = by_cases (dec_lt (length z) (xylen B j)) (λ a. a) (λ a.
    let l = length_xy B j in
    absurd (true≢false (sym (stands_of_test B z 0 j h (prefix_of_part (xy_of B j) z r (omega arith) e)) ∙ s.nowhere 0)))
