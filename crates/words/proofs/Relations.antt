-- The relation words of relations come in twos, and each has its other one; with a relation withdrawn or added.
use Prim.Native.Nat.{ℕ, zero, suc, ◌*◌, ◌<◌, ◌%◌}
use mathlib.Core.List.{List, [], ◌∷◌, ◌++◌}
use mathlib.Core.Path.{◌≡◌, refl, ap}
use native.Mathlib.Omega.{arith}
use lib.ListN.{length, get_or, take, drop}
use Rattle.words.specs.Words.{Word}
use Rattle.words.specs.Relations.{Relation, relation_words, other}

-- every relation word has its other one
abbrev pub Even : List Word → Type 0
Even B = length B % 2 ≡ 0

pub even_sides : (rs : List Relation) → Even (relation_words rs)
unfolding relation_words
even_sides [] = refl
even_sides (r ∷ rs) = let e = even_sides rs in omega arith

-- relations have two relation words each
pub length_words : (relations : List Relation) → length (relation_words relations) ≡ 2 * length relations
unfolding relation_words
length_words [] = refl
length_words (r ∷ rs) = omega (arith, length_words rs)

-- words that come in twos are the relation words of relations
pub relations_of : (B : List Word) → Even B → (relations : List Relation) × (relation_words relations ≡ B)
unfolding relation_words
relations_of [] e = ([], refl)
relations_of (u ∷ []) e = absurd (omega arith)
relations_of (u ∷ v ∷ B) e =
    let r = relations_of B (omega arith) in
    (record { left = u; right = v } ∷ r.0, ap (λ (C : List Word). u ∷ v ∷ C) r.1)

pub other_there : (n i : ℕ) → n % 2 ≡ 0 → i < n → other i < n
other_there n i e h = omega arith

pub other_differs : (i : ℕ) → i ≡ other i → ⊥
other_differs i e = omega arith

-- without relation i, every relation word is one of all
pub withdrawn_sides : (rs : List Relation) (i : ℕ) (s : ℕ) → s < length (relation_words (take i rs ++ drop (suc i) rs))
    → (t : ℕ) × (t < length (relation_words rs)) × (get_or (relation_words rs) t [] ≡ get_or (relation_words (take i rs ++ drop (suc i) rs)) s [])
unfolding relation_words
withdrawn_sides [] zero s h = absurd (omega arith)
withdrawn_sides [] (suc i) s h = absurd (omega arith)
withdrawn_sides (r ∷ rs) zero s h = (suc (suc s), omega arith, refl)
withdrawn_sides (r ∷ rs) (suc i) zero h = (0, omega arith, refl)
withdrawn_sides (r ∷ rs) (suc i) (suc zero) h = (1, omega arith, refl)
withdrawn_sides (r ∷ rs) (suc i) (suc (suc s)) h = let (t, l, e) = withdrawn_sides rs i s (omega arith) in (suc (suc t), omega arith, e)

-- with one relation more, every relation word so far is one of all
pub added_sides : (rs : List Relation) (r : Relation) (s : ℕ) → s < length (relation_words rs)
    → (t : ℕ) × (t < length (relation_words (rs ++ (r ∷ [])))) × (get_or (relation_words (rs ++ (r ∷ []))) t [] ≡ get_or (relation_words rs) s [])
unfolding relation_words
added_sides [] r s h = absurd (omega arith)
added_sides (q ∷ rs) r zero h = (0, omega arith, refl)
added_sides (q ∷ rs) r (suc zero) h = (1, omega arith, refl)
added_sides (q ∷ rs) r (suc (suc s)) h = let (t, l, e) = added_sides rs r s (omega arith) in (suc (suc t), omega arith, e)
