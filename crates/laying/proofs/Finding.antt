-- The place of a word among those that are laid: the loops, and a law for each way on.
use Prim.Native.Nat.{ℕ, ◌+◌, ◌<◌, ◌≤◌}
use mathlib.Core.Bool.{Bool, true, false}
use mathlib.Core.List.{List, []}
use mathlib.Core.Logic.{by_cases}
use mathlib.Core.Path.{◌≡◌, sym, ap, ◌∙◌, subst}
use native.Mathlib.Omega.{arith}
use native.Mathlib.Decide.{dec_lt}
use borrow.Author.Rules.{rules}
use borrow.Author.Tests.{eq-eqb, ne_eqb}
use lib.ListN.{length, get_or}
use Rattle.words.specs.Search.{least}
use Rattle.words.specs.Words.{Word, is_prefix, same_word}
use Rattle.words.specs.Families.{place_of}
use Rattle.words.proofs.Prefixes.{prefix_at, at_prefix}
use Rattle.words.proofs.Tests.{false_of}
use Rattle.words.proofs.Searching.{NoneBelow, none_start, none_more, least_is, least_none, least_same}
use Rattle.layout.specs.Layout.{words_in, Laid}
use Rattle.layout.proofs.Placed.{words_length, word_part}
use Rattle.laying.specs.Sides.{is_word_at}

-- two words agree as far as place k
pub record Agreeing (u v : Word) (k : ℕ) : Type 0 where
  pub long : length u ≡ length v
  pub upto : k ≤ length u
  pub same : (j : ℕ) → j < k → get_or u j 0 ≡ get_or v j 0

pub agree_start : (u v : Word) → length u ≡ length v → Agreeing u v 0
agree_start u v e = record { long = e; upto = omega arith; same = λ j h. absurd (omega (arith, h)) }

module _ (u v : Word) (k : ℕ) (s : Agreeing u v k) where
  module _ (h : k < length u) where
    pub agree_more : get_or u k 0 ≡ get_or v k 0 → Agreeing u v (k + 1)
    agree_more d =
        record {
          long = s.long;
          upto = omega (arith, h);
          same = λ j l. by_cases (dec_lt j k) (λ a. s.same j a) (λ a. subst (λ (i : ℕ). get_or u i 0 ≡ get_or v i 0) (omega (arith, a, l)) d);
        }

    pub agree_differ : (get_or u k 0 ≡ get_or v k 0 → ⊥) → false ≡ is_prefix u v
    agree_differ d = sym (false_of (is_prefix u v) (λ p. d (prefix_at u v p k h)))

  pub agree_end : length u ≤ k → true ≡ is_prefix u v
  agree_end h = let l = s.long in sym (at_prefix u v (omega (arith, l)) (λ j i. s.same j (omega (arith, h, i))))

pub ruleset agreeing = (agree_start, agree_more, agree_differ, agree_end, rules)

-- words of one length are equal where their letters are
module _ (u v : Word) where
  pub equal_letters : (r : Bool) → length u ≡ length v → r ≡ is_prefix u v → r ≡ same_word u v
  unfolding same_word
  equal_letters r e d = rw (eq-eqb (length u) (length v) e) d

  pub unequal_lengths : (length u ≡ length v → ⊥) → false ≡ same_word u v
  unfolding same_word
  unequal_lengths e = rw (ne_eqb (length u) (length v) e)

pub ruleset equals = (equal_letters, unequal_lengths, rules)

-- none of the first i words is the one that is sought
pub record Finding (word text table : List ℕ) (n i : ℕ) : Type 0 where
  pub laid : Laid text table n
  pub upto : i ≤ n
  pub none : NoneBelow (is_word_at word text table) i

pub find_start : (word text table : List ℕ) (n : ℕ) → Laid text table n → Finding word text table n 0
find_start word text table n f = record { laid = f; upto = omega arith; none = none_start _ }

module _ (word text table : List ℕ) (n i : ℕ) (s : Finding word text table n i) where
  -- the search by positions is the search in the list of words
  place_there : least n (is_word_at word text table) ≡ place_of word (words_in text table n)
  unfolding place_of
  place_there =
      rw (words_length text table n)
      (least_same n (is_word_at word text table) (λ j. same_word (get_or (words_in text table n) j []) word)
      (λ j h. ap (λ (w : Word). same_word w word) (sym (word_part text table n j h))))

  module _ (h : i < n) (r : Bool) (e : r ≡ is_word_at word text table i) where
    pub find_more : r ≡ false → Finding word text table n (i + 1)
    find_more t = record { laid = s.laid; upto = omega (arith, h); none = none_more _ i s.none (sym e ∙ t) }

    pub find_found : r ≡ true → i ≡ place_of word (words_in text table n)
    find_found t = sym (least_is n (is_word_at word text table) i h s.none (sym e ∙ t)) ∙ place_there

  pub find_end : n ≤ i → n ≡ place_of word (words_in text table n)
  find_end h =
      let e : i ≡ n = omega (arith, h, s.upto) in
      sym (least_none n (is_word_at word text table) (subst (λ (k : ℕ). NoneBelow (is_word_at word text table) k) e s.none)) ∙ place_there

pub ruleset finding = (find_start, find_more, find_found, find_end, rules)
