-- The longest common suffix of two words (document 003: maximal common suffix; document 01, row 8), as `common_suffix` computes its length.
use Prim.Native.Nat.{ℕ, ◌-◌, ◌≤◌, min}
use mathlib.Core.Bool.{true, true≢false}
use mathlib.Core.List.{[], ◌++◌, append-nil}
use mathlib.Core.Path.{◌≡◌, sym, ap, ◌∙◌, subst, subst₂}
use mathlib.Core.Logic.{by_cases}
use native.Mathlib.Omega.{arith}
use native.Mathlib.Decide.{dec_le, dec_lt}
use lib.ListN.{length, take, drop, length-append, length-drop, take-append-drop, drop_of_length-le}
use lib.Seq.{length-take-le, drop_at}
use Rattle.words.specs.Words.{Word, is_prefix, common_suffix, last_letters}
use Rattle.words.proofs.Prefixes.{prefix_append, equal_of_prefix}
use Rattle.words.proofs.Searching.{greatest_bound, greatest_passes, greatest_last}

-- z is the longest common suffix of a and b, a = e z, b = f z
pub record LongestSuffix (a b e f z : Word) : Type 0 where
  pub left : a ≡ e ++ z
  pub right : b ≡ f ++ z
  pub most : (c d x : Word) → a ≡ c ++ x → b ≡ d ++ x → length x ≤ length z

-- the common suffix lies in both words
pub suffix_within : (a b : Word) → (common_suffix a b ≤ length a) × (common_suffix a b ≤ length b)
unfolding common_suffix
suffix_within a b = let g = greatest_bound (min (length a) (length b)) (λ n. is_prefix (last_letters n a) (last_letters n b)) in omega arith

common_same : (a b : Word) → last_letters (common_suffix a b) a ≡ last_letters (common_suffix a b) b
unfolding common_suffix
common_same a b =
    let l = suffix_within a b in
    let x = length-drop (length a - common_suffix a b) a in
    let y = length-drop (length b - common_suffix a b) b in
    by_cases (dec_lt 0 (common_suffix a b))
    (λ h. equal_of_prefix (last_letters (common_suffix a b) a) (last_letters (common_suffix a b) b) (omega arith) (greatest_passes (min (length a) (length b)) (λ n. is_prefix (last_letters n a) (last_letters n b)) h))
    (λ h. drop_of_length-le a {i = length a - common_suffix a b} (omega arith) ∙ sym (drop_of_length-le b {i = length b - common_suffix a b} (omega arith)))

common_most : (a b c d x : Word) → a ≡ c ++ x → b ≡ d ++ x → length x ≤ common_suffix a b
unfolding common_suffix
common_most a b c d x e f =
    let la = simp length-append at (ap length e) in
    let lb = simp length-append at (ap length f) in
    by_cases (dec_le (length x) (common_suffix a b)) (λ h. h) (λ h.
    let no_more = greatest_last (min (length a) (length b)) (λ n. is_prefix (last_letters n a) (last_letters n b)) (length x) (omega arith) (omega arith) in
    let ea : last_letters (length x) a ≡ x = ap (drop (length a - length x)) e ∙ drop_at c x (length a - length x) (omega arith) in
    let eb : last_letters (length x) b ≡ x = ap (drop (length b - length x)) f ∙ drop_at d x (length b - length x) (omega arith) in
    let more : is_prefix x x ≡ true = subst (λ (y : Word). is_prefix x y ≡ true) (append-nil x) (prefix_append x []) in
    absurd (true≢false (sym (subst₂ (λ (y z : Word). is_prefix y z ≡ true) (sym ea) (sym eb) more) ∙ no_more)))

-- row 8's e, f and z
pub longest_suffix : (a b : Word)
    → LongestSuffix a b (take (length a - common_suffix a b) a) (take (length b - common_suffix a b) b) (drop (length (take (length a - common_suffix a b) a)) a)
longest_suffix a b =
    record {
      left = sym (ap (λ (n : ℕ). take (length a - common_suffix a b) a ++ drop n a) la ∙ take-append-drop (length a - common_suffix a b) a);
      right = sym (ap (λ (n : ℕ). take (length b - common_suffix a b) b ++ drop n a) la ∙ ap (take (length b - common_suffix a b) b ++◌) (common_same a b) ∙ take-append-drop (length b - common_suffix a b) b);
      most = λ c d x e f.
          let m = common_most a b c d x e f in
          let l = suffix_within a b in
          let y = length-drop (length (take (length a - common_suffix a b) a)) a in
          omega (arith, la);
    }
  where
    la : length (take (length a - common_suffix a b) a) ≡ length a - common_suffix a b
    la = length-take-le (length a - common_suffix a b) a (omega arith)
