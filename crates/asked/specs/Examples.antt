-- Given words, comparisons and least words under book Q (abdc = cadb), worked out by hand from document 01 ("Refusals by number", "Bench cases"); that the definitions
-- give these values is one theorem (proofs/Examples.antt).
use Rattle.std.specs.Prelude.{ℕ, List, [], ◌∷◌, ◌≡◌, replicate, Result, Ok, Err}
use Rattle.refusals.specs.declared.Refusal.{Refusal}
use Rattle.words.specs.Words.{Word}
use Rattle.words.specs.Relations.{Relation}
use Rattle.words.specs.Families.{words_of, family_of}
use Rattle.least.specs.Writing.{Found, found, absent}
use Rattle.refusals.specs.declared.Refusal.TheVariants.{Long, Stranger, Spent}
use Rattle.asked.specs.declared.Comparison.{Comparison}
use Rattle.asked.specs.declared.Comparison.TheVariants as Comparisons
use Rattle.asked.specs.Given.{marked_of, pair_of, triple_of}
use Rattle.asked.specs.Comparing.{comparison_of}
use Rattle.asked.specs.Least.{least_for, least_from}

-- words of four letters, 0 to 3, and others. A word is over its limit before its letters are looked at, and the words are looked at one after the other; the front mark
-- is number 2, whether or not there is a number 1
pub record GivenHold : Type 0 where
  pub fine : pair_of 4 (0 ∷ 3 ∷ []) [] ≡ Ok tt
  pub second : pair_of 4 (0 ∷ 3 ∷ []) (1 ∷ 2 ∷ 4 ∷ []) ≡ Err (Stranger 1 2)
  pub first : pair_of 4 (5 ∷ []) (4 ∷ []) ≡ Err (Stranger 0 0)
  pub mark : marked_of 4 (0 ∷ []) (1 ∷ 4 ∷ []) ≡ Err (Stranger 2 1)
  pub third : triple_of 4 (0 ∷ []) (1 ∷ []) (4 ∷ []) ≡ Err (Stranger 2 0)
  pub long_mark : marked_of 4 (0 ∷ []) (replicate 65 4) ≡ Err (Long 2)
  pub full_mark : triple_of 4 [] [] (replicate 64 3) ≡ Ok tt

abbrev Q : List Relation
Q = record { left = 0 ∷ 1 ∷ 3 ∷ 2 ∷ []; right = 2 ∷ 0 ∷ 3 ∷ 1 ∷ [] } ∷ []

abbrev compared : Word → Word → ℕ → Result Comparison Refusal
compared u v allowance = comparison_of 4 (words_of Q) (family_of Q) u v allowance

-- cadbadb and abdabdc take three rounds: an allowance of two is spent, one of three suffices; a letter that the book does not have comes before all rounds
pub record ComparedHold : Type 0 where
  pub spent : compared (2 ∷ 0 ∷ 3 ∷ 1 ∷ 0 ∷ 3 ∷ 1 ∷ []) (0 ∷ 1 ∷ 3 ∷ 0 ∷ 1 ∷ 3 ∷ 2 ∷ []) 2 ≡ Err (Spent 2)
  pub same : compared (2 ∷ 0 ∷ 3 ∷ 1 ∷ 0 ∷ 3 ∷ 1 ∷ []) (0 ∷ 1 ∷ 3 ∷ 0 ∷ 1 ∷ 3 ∷ 2 ∷ []) 3 ≡ Ok (Comparisons.Same 3)
  pub different : compared (0 ∷ []) [] 0 ≡ Ok (Comparisons.Different 0)
  pub strange : compared (0 ∷ []) (4 ∷ []) 0 ≡ Err (Stranger 1 0)

abbrev front : Word → Word → Found
front p u = least_from (words_of Q) (family_of Q) p u

-- cadb is abdc, which comes first; abdc with c taken off leaves adb, since it is cadb; no chain makes it begin with d
pub record LeastHold : Type 0 where
  pub least : least_for (words_of Q) (family_of Q) (2 ∷ 0 ∷ 3 ∷ 1 ∷ []) ≡ (0 ∷ 1 ∷ 3 ∷ 2 ∷ [])
  pub taken : front (2 ∷ []) (0 ∷ 1 ∷ 3 ∷ 2 ∷ []) ≡ found (0 ∷ 3 ∷ 1 ∷ [])
  pub none : front (3 ∷ []) (0 ∷ 1 ∷ 3 ∷ 2 ∷ []) ≡ absent

pub record AskedHold : Type 0 where
  pub given : GivenHold
  pub compared : ComparedHold
  pub least : LeastHold
