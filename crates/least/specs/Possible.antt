-- Whether a word is a possible prefix of another (document 003: some word that begins with it is congruent to the other), told by a walk along the other that
-- rewrites nothing. Relation words i and j are of one family where `family i` is `family j`.
use Rattle.std.specs.Prelude.{ℕ, zero, suc, Bool, true, false, List, leb, length, drop}
use Rattle.words.specs.Words.{Word, is_empty, is_prefix}
use Rattle.overlap.specs.Cuts.{xylen, z_of}
use Rattle.congruence.specs.Rows.{choose, clean_relation_prefix, alike, marked_by_any}

-- the walk, of at most so many steps: p stands in front of u; or u begins with a letter that stays, and p with the same; or u begins with a clean XY, p with
-- which a member of its family begins, and then Z must be possible behind XY
unfoldable pub possible_within : List Word → (ℕ → ℕ) → ℕ → Word → Word → Bool
possible_within B family zero p u = is_prefix p u
possible_within B family (suc steps) p u =
    choose (is_prefix p u) (λ _. true) (λ _.
    choose (is_empty u) (λ _. false) (λ _.
    choose (leb (length B) (clean_relation_prefix B u)) (λ _.
    choose (alike p u) (λ _. possible_within B family steps (drop 1 p) (drop 1 u)) (λ _. false)) (λ _.
    choose (marked_by_any B family (clean_relation_prefix B u) p)
    (λ _. possible_within B family steps (z_of B (clean_relation_prefix B u)) (drop (xylen B (clean_relation_prefix B u)) u)) (λ _. false))))

-- every step takes a letter of u, so that its length suffices
unfoldable pub possible : List Word → (ℕ → ℕ) → Word → Word → Bool
possible B family p u = possible_within B family (length u) p u
