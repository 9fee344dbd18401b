-- One round is right, for families of any size: what it writes begins the least word, and the least word of the next question follows.
use Prim.Native.Nat.{ℕ, ◌+◌, ◌-◌, ◌≤◌, ◌<◌}
use mathlib.Core.Bool.{true, false, true≢false}
use mathlib.Core.List.{List, [], ◌++◌, append_assoc, append-nil}
use mathlib.Core.Logic.{by_cases, ⊎_elim, ◌⊎◌, inl, inr}
use mathlib.Core.Path.{◌≡◌, sym, ap, ◌∙◌, subst}
use native.Mathlib.Omega.{arith}
use native.Mathlib.Decide.{ℕ_discrete, dec_lt}
use borrow.Author.Tests.{ltb-true, lt-ltb}
use lib.Dec.{ltb}
use lib.ListN.{length, take, drop}
use lib.Seq.{take-add, drop-drop}
use Rattle.words.specs.Words.{Word, is_prefix}
use Rattle.words.proofs.Prefixes.{prefix_split, prefix_append, prefix_trans}
use Rattle.words.proofs.Searching.{any_of, any_found}
use Rattle.overlap.specs.Pieces.{word}
use Rattle.overlap.specs.Cuts.{len, zlen, xylen, x_of, xy_of, z_of}
use Rattle.overlap.proofs.Facts.{length_z, z_bound}
use Rattle.congruence.specs.Rows.{clean_relation_prefix}
use Rattle.congruence.proofs.Heads.{Facts, Clean}
use Rattle.congruence.proofs.RowTests.{head_of_test, test_of_head, clean_relation_prefix_clean, clean_relation_prefix_none}
use Rattle.congruence.proofs.Chains.{Kin, Chain, chain_join, chain_sym, chain_behind, chain_from, chain_to, chain_turn}
use Rattle.congruence.proofs.Chains.Chain.{stop}
use Rattle.congruence.proofs.Places.{xy_z}
use Rattle.congruence.proofs.Merges.{prefix_fixed, reached}
use Rattle.congruence.proofs.CleanPrefixes.{PossiblePrefix}
use Rattle.least.specs.Order.{AtMost}
use Rattle.least.specs.Least.{LeastBehind}
use Rattle.least.specs.Writing.{Part, clean_before}
use Rattle.least.specs.Writing.Part.{end, none, part}
use Rattle.least.proofs.Order.{at_most_behind, at_most_cancel, before_parted}
use Rattle.least.proofs.Marks.{Marking}
use Rattle.least.proofs.Possible.{x_of_xy}
use Rattle.least.proofs.Branches.{Continues}

-- w is the least word behind p for u, over chains of families
abbrev pub LeastChain : List Word → (ℕ → ℕ) → (ℕ → ℕ) → Word → Word → Word → Type 0
LeastChain B fam rank p u w = LeastBehind (Chain B fam) rank p u w

-- there is no word behind p for u
abbrev pub Missing : List Word → (ℕ → ℕ) → Word → Word → Type 0
Missing B fam p u = (w : Word) → Chain B fam (p ++ w) u → ⊥

-- what a round says: the answer, or that the next question has the same answer behind what is written; and the next mark is a mark
abbrev pub Says : List Word → (ℕ → ℕ) → (ℕ → ℕ) → Word → Word → Part → Type 0
Says B fam rank p u end = LeastChain B fam rank p u []
Says B fam rank p u none = Missing B fam p u
Says B fam rank p u (part c p' u') =
    ((w : Word) → LeastChain B fam rank p' u' w → LeastChain B fam rank p u (c ++ w)) × (Missing B fam p' u' → Missing B fam p u) × Marking B p'

module _ {B : List Word} (R : Facts B) where
  -- a prefix of X is one of XY and whatever follows
  prefix_of_x : (p c : Word) (j : ℕ) → j < length B → is_prefix p (x_of B j) ≡ true → is_prefix p (xy_of B j ++ c) ≡ true
  prefix_of_x p c j h e =
      let s = R.some j h in
      prefix_trans p (xy_of B j) (xy_of B j ++ c) (prefix_trans p (x_of B j) (xy_of B j) e (x_of_xy B j (omega arith))) (prefix_append (xy_of B j) c)

  -- XY with part of Z
  pub xy_rest : (j l : ℕ) → l ≤ zlen B j → xy_of B j ++ take (length (z_of B j) - l) (z_of B j) ≡ take (len B j - l) (word B j)
  xy_rest j l h =
      let z = length_z B j in
      let b = z_bound B j in
      sym (take-add (xylen B j) (length (z_of B j) - l) (word B j)) ∙ ap (λ n. take n (word B j)) {x = xylen B j + (length (z_of B j) - l)} {y = len B j - l} (omega arith)

  -- a clean relation prefix at a place, and at the beginning of what is left there
  clean_of_rest : (s : Word) (q i : ℕ) → Clean B (drop q s) 0 i → Clean B s q i
  clean_of_rest s q i h =
      record {
        at = head_of_test s q i (xylen B i) (h.at.there, h.at.long, h.at.part) (test_of_head h.at);
        only = λ d j a b f.
            h.only (d - q) j (omega arith) (omega arith)
            (head_of_test (drop q s) (d - q) j (xylen B j) (f.there, f.long, f.part)
            (subst (λ (w : Word). is_prefix (xy_of B j) w ≡ true) (sym (drop-drop (d - q) q s ∙ ap (λ n. drop n s) {x = q + (d - q)} {y = d} (omega arith))) (test_of_head f)));
      }

  rest_of_clean : (s : Word) (q i : ℕ) → Clean B s q i → Clean B (drop q s) 0 i
  rest_of_clean s q i h =
      record {
        at = head_of_test (drop q s) 0 i (xylen B i) (h.at.there, h.at.long, h.at.part) (test_of_head h.at);
        only = λ d j a b f.
            h.only (q + d) j (omega arith) (omega arith)
            (head_of_test s (q + d) j (xylen B j) (f.there, f.long, f.part) (subst (λ (w : Word). is_prefix (xy_of B j) w ≡ true) (drop-drop d q s) (test_of_head f)));
      }

  -- the test for a clean relation prefix before a place
  pub clean_before_found : (s : Word) (n : ℕ) → clean_before B s n ≡ true → (q : ℕ) × (i : ℕ) × (q < n) × Clean B s q i
  unfolding clean_before
  clean_before_found s n e =
      let f = any_found n (λ q. ltb (clean_relation_prefix B (drop q s)) (length B)) e in
      (f.0, clean_relation_prefix B (drop f.0 s), f.1, clean_of_rest s f.0 _ (clean_relation_prefix_clean R (drop f.0 s) (ltb-true _ _ f.2)))

  pub clean_before_none : (s : Word) (n : ℕ) → clean_before B s n ≡ false → (q i : ℕ) → q < n → Clean B s q i → ⊥
  unfolding clean_before
  clean_before_none s n e q i h c = by_cases (dec_lt (clean_relation_prefix B (drop q s)) (length B))
      (λ a. true≢false (sym (any_of n (λ q. ltb (clean_relation_prefix B (drop q s)) (length B)) q h (lt-ltb _ _ a)) ∙ e))
      (λ a. clean_relation_prefix_none R (drop q s) a i (rest_of_clean s q i c))

  module _ {fam rank : ℕ → ℕ} where
    -- the least words of a question are a part and then those of the next one: XY of j comes first of all that can be reached, and what follows it is known
    module _ {i j : ℕ} {s c p p' u' : Word} (h : Clean B (xy_of B i ++ s) 0 i) (k : Kin B fam i j) (m : Marking B p) (x : is_prefix p (x_of B j) ≡ true)
        (reach : (i ≡ j) ⊎ PossiblePrefix B fam (z_of B i) s)
        (best : (l : ℕ) → Kin B fam i l → is_prefix p (x_of B l) ≡ true → (i ≡ l) ⊎ PossiblePrefix B fam (z_of B i) s → AtMost rank (xy_of B j) (xy_of B l))
        (next : Continues B fam i s j c p' u') where
      -- p and what is written behind it
      mark_then : (w : Word) → p ++ (drop (length p) (xy_of B j ++ c) ++ w) ≡ xy_of B j ++ (c ++ w)
      mark_then w =
          sym (append_assoc p (drop (length p) (xy_of B j ++ c)) w) ∙ ap (◌++ w) (prefix_split p (xy_of B j ++ c) (prefix_of_x p c j k.there x)) ∙ append_assoc (xy_of B j) c w

      after_least : (w : Word) → LeastChain B fam rank p' u' w → LeastChain B fam rank p (xy_of B i ++ s) (drop (length p) (xy_of B j ++ c) ++ w)
      after_least w l =
          record {
            joined = chain_from (mark_then w) (chain_sym (next.from w l.joined));
            first = λ v d.
                let r = reached R h (chain_sym d) in
                at_most_cancel p (drop (length p) (xy_of B j ++ c) ++ w) v
                (subst (λ (y : Word). AtMost rank (p ++ (drop (length p) (xy_of B j ++ c) ++ w)) y) (sym r.product)
                (subst (λ (y : Word). AtMost rank y (xy_of B r.into ++ r.rest)) (sym (mark_then w))
                (compare v r.into r.rest r.kin r.product d
                (⊎_elim (λ a. inl a.0) (λ a. inr (record { rest = a.left; chain = chain_sym a.from })) r.how))));
          }
        where
          compare : (v : Word) (l' : ℕ) (t : Word) → Kin B fam i l' → p ++ v ≡ xy_of B l' ++ t → Chain B fam (p ++ v) (xy_of B i ++ s) → (i ≡ l') ⊎ PossiblePrefix B fam (z_of B i) s
              → AtMost rank (xy_of B j ++ (c ++ w)) (xy_of B l' ++ t)
          compare v l' t kin q d how = by_cases (ℕ_discrete j l')
              (λ e.
              let n = next.to t (chain_to (chain_sym d) (q ∙ ap (λ (y : ℕ). xy_of B y ++ t) (sym e))) in
              subst (λ (y : ℕ). AtMost rank (xy_of B j ++ (c ++ w)) (xy_of B y ++ t)) e
              (subst (λ (y : Word). AtMost rank (xy_of B j ++ (c ++ w)) (xy_of B j ++ y)) (sym n.1) (at_most_behind (xy_of B j) (at_most_behind c (l.first n.0 n.2)))))
              (λ e.
              let apart : (r : Word) → xy_of B l' ≡ xy_of B j ++ r → ⊥ = λ r o. e (sym (prefix_fixed R l' j [] r kin.there k.there (append-nil (xy_of B l') ∙ o)).0) in
              ⊎_elim
              (λ o. absurd (apart [] (sym o ∙ sym (append-nil (xy_of B j)))))
              (λ o. inr (before_parted (xy_of B j) (xy_of B l') (c ++ w) t o apart))
              (best l' kin (m.in_x 0 v t l' kin.there q) how))

      -- some word is reached, so that the next question has an answer
      after_possible : Missing B fam p' u' → ⊥
      after_possible missing = ⊎_elim
          (λ e. let n = next.to s (chain_to stop (ap (λ (y : ℕ). xy_of B y ++ s) e)) in missing n.0 n.2)
          (λ z.
          let d = chain_join (chain_to (chain_behind (xy_of B i) (chain_sym z.chain)) (xy_z B i z.rest)) (chain_to (chain_turn k z.rest) (sym (xy_z B j z.rest))) in
          let n = next.to (z_of B j ++ z.rest) d in
          missing n.0 n.2)
          reach

      pub says_part : (c' : Word) → xy_of B j ++ c ≡ c' → Marking B p' → Says B fam rank p (xy_of B i ++ s) (part (drop (length p) c') p' u')
      says_part c' e m' =
          subst (λ (y : Word). Says B fam rank p (xy_of B i ++ s) (part (drop (length p) y) p' u')) e
          (after_least, (λ missing w d. after_possible missing), m')
