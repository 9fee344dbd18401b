-- Families: which distinct words the relations join. The numbers of families are the finest for which the two words of each relation have one number.
use Prim.Native.Nat.{ℕ, zero, suc, ◌+◌, ◌*◌, ◌/◌, ◌≤◌, ◌<◌, min, max}
use mathlib.Core.Bool.{cond}
use mathlib.Core.List.{List, [], ◌∷◌}
use mathlib.Core.Path.{◌≡◌, refl, sym, ap, ◌∙◌, subst}
use mathlib.Core.Logic.{by_cases, ⊎_elim, ◌⊎◌, inl, inr, ◌↔◌}
use native.Mathlib.Omega.{arith}
use native.Mathlib.Decide.{dec_lt, ℕ_discrete}
use lib.Dec.{eqb}
use borrow.Author.Tests.{eq-eqb, ne_eqb}
use lib.ListN.{length, get_or, length-append, get_or-append, get_or-eq_default}
use lib.Seq.{get_or_at}
use Rattle.words.specs.Words.{Word}
use Rattle.words.specs.Relations.{Relation, relation_words, other}
use Rattle.words.specs.Families.{place_of, side_words, word_of_side, numbers_below, merged, merged_of, families_after}
use Rattle.words.specs.Families.{words_of, families_of, family_in, family_of, JoinedBy, FamiliesRight}
use Rattle.words.specs.Families.JoinedBy.{here, along}
use Rattle.words.proofs.Relations.{Even, even_sides, length_words, other_there}
use Rattle.words.proofs.Distinct.{Once, distinct_right, side_word_place, place_once, distinct_of_once, side_word_of_once}

-- the numbers below n: each at its own place
pub length_numbers : (n : ℕ) → length (numbers_below n) ≡ n
unfolding numbers_below
length_numbers zero = refl
length_numbers (suc n) = let l = length-append (numbers_below n) (n ∷ []) in let i = length_numbers n in omega arith

pub numbers_at : (n i : ℕ) → i < n → get_or (numbers_below n) i 0 ≡ i
unfolding numbers_below
numbers_at zero i h = absurd (omega arith)
numbers_at (suc n) i h =
    let l = length_numbers n in
    by_cases (dec_lt i n) (λ a. get_or-append (numbers_below n) (n ∷ []) 0 i (omega arith) ∙ numbers_at n i a)
    (λ a. get_or_at (numbers_below n) n [] 0 i (omega arith) ∙ omega arith)

-- the number that takes the place of f where families a and b become one
abbrev pub renamed : ℕ → ℕ → ℕ → ℕ
renamed a b f = cond (eqb f (max a b)) (min a b) f

renamed_larger : (a b f : ℕ) → f ≡ max a b → renamed a b f ≡ min a b
renamed_larger a b f e = rw (eq-eqb f (max a b) e)

renamed_kept : (a b f : ℕ) → ¬ (f ≡ max a b) → renamed a b f ≡ f
renamed_kept a b f n = rw (ne_eqb f (max a b) n)

-- a and b have the smaller number
renamed_both : (a b f : ℕ) → (f ≡ a) ⊎ (f ≡ b) → renamed a b f ≡ min a b
renamed_both a b f c =
    by_cases (ℕ_discrete f (max a b)) (renamed_larger a b f) (λ n. renamed_kept a b f n ∙ ⊎_elim (λ e. omega arith) (λ e. omega arith) c)

-- numbers that become equal were equal, or both are of the families that become one
renamed_apart : (a b f g : ℕ) → renamed a b f ≡ renamed a b g → (f ≡ g) ⊎ (((f ≡ a) ⊎ (f ≡ b)) × ((g ≡ a) ⊎ (g ≡ b)))
renamed_apart a b f g e =
    by_cases (ℕ_discrete f (max a b))
    (λ x. by_cases (ℕ_discrete g (max a b)) (λ y. inl (omega arith))
    (λ y. inr (one_of a b f (inl x), one_of a b g (inr (sym (renamed_kept a b g y) ∙ sym e ∙ renamed_larger a b f x)))))
    (λ x. by_cases (ℕ_discrete g (max a b))
    (λ y. inr (one_of a b f (inr (sym (renamed_kept a b f x) ∙ e ∙ renamed_larger a b g y)), one_of a b g (inl y)))
    (λ y. inl (sym (renamed_kept a b f x) ∙ e ∙ renamed_kept a b g y)))
  where
    one_of : (a b f : ℕ) → (f ≡ max a b) ⊎ (f ≡ min a b) → (f ≡ a) ⊎ (f ≡ b)
    one_of a b f c = by_cases (ℕ_discrete f a) inl (λ n. inr (⊎_elim (λ e. omega arith) (λ e. omega arith) c))

-- the number of a family is never raised
renamed_low : (a b f : ℕ) → renamed a b f ≤ f
renamed_low a b f =
    by_cases (ℕ_discrete f (max a b)) (λ e. let r = renamed_larger a b f e in omega arith) (λ n. let r = renamed_kept a b f n in omega arith)

-- one family of two, word by word; behind the list every number is 0, which stays 0
pub length_merged : (a b : ℕ) (F : List ℕ) → length (merged a b F) ≡ length F
unfolding merged
length_merged a b [] = refl
length_merged a b (f ∷ F) = ap suc (length_merged a b F)

pub merged_at : (a b : ℕ) (F : List ℕ) (i : ℕ) → family_in (merged a b F) i ≡ renamed a b (family_in F i)
unfolding merged
merged_at a b [] i = let r = renamed_low a b 0 in omega arith
merged_at a b (f ∷ F) zero = refl
merged_at a b (f ∷ F) (suc i) = merged_at a b F i

-- one family of one changes nothing
pub merged_same : (a : ℕ) (F : List ℕ) → merged a a F ≡ F
unfolding merged
merged_same a [] = refl
merged_same a (f ∷ F) = cc (one f, merged_same a F)
  where
    one : (f : ℕ) → renamed a a f ≡ f
    one f = by_cases (ℕ_discrete f (max a a)) (λ e. renamed_larger a a f e ∙ omega arith) (renamed_kept a a f)

-- every number of a family is at most the place, and it is the family's lowest member
pub record LowestMembers (F : List ℕ) : Type 0 where
  pub low : (i : ℕ) → family_in F i ≤ i
  pub own : (i : ℕ) → family_in F (family_in F i) ≡ family_in F i

lowest_numbers : (n : ℕ) → LowestMembers (numbers_below n)
lowest_numbers n =
    record {
      low = low;
      own = λ i. by_cases (dec_lt i n) (λ h. ap (family_in (numbers_below n)) (numbers_at n i h))
          (λ h. let x = behind i (omega arith) in let y = low 0 in rw x (omega arith));
    }
  where
    behind : (i : ℕ) → n ≤ i → family_in (numbers_below n) i ≡ 0
    behind i h = get_or-eq_default (numbers_below n) 0 (let l = length_numbers n in omega arith)

    low : (i : ℕ) → family_in (numbers_below n) i ≤ i
    low i = by_cases (dec_lt i n) (λ h. let e = numbers_at n i h in omega arith) (λ h. let e = behind i (omega arith) in omega arith)

-- merging two families leaves of each its lowest member as the number, or that of the other
lowest_merged : (F : List ℕ) (i j : ℕ) → LowestMembers F → LowestMembers (merged_of F i j)
lowest_merged F i j m = go (family_in F i) (family_in F j) (m.own i) (m.own j)
  where
    go : (a b : ℕ) → family_in F a ≡ a → family_in F b ≡ b → LowestMembers (merged a b F)
    go a b x y = record {
      low = λ k. let e = merged_at a b F k in let r = renamed_low a b (family_in F k) in let l = m.low k in omega arith;
      own = λ k. ap (family_in (merged a b F)) (merged_at a b F k) ∙ merged_at a b F (renamed a b (family_in F k)) ∙ own k ∙ sym (merged_at a b F k);
    }
      where
        smaller : family_in F (min a b) ≡ min a b
        smaller = by_cases (dec_lt a b) (λ h. let e : min a b ≡ a = omega arith in rw e x) (λ h. let e : min a b ≡ b = omega arith in rw e y)

        own : (k : ℕ) → renamed a b (family_in F (renamed a b (family_in F k))) ≡ renamed a b (family_in F k)
        own k = by_cases (ℕ_discrete (family_in F k) (max a b))
            (λ e.
            let r = renamed_larger a b (family_in F k) e in
            let one : (min a b ≡ a) ⊎ (min a b ≡ b) = by_cases (dec_lt a b) (λ h. inl (omega arith)) (λ h. inr (omega arith)) in
            ap (λ f. renamed a b (family_in F f)) r ∙ ap (renamed a b) smaller ∙ renamed_both a b (min a b) one ∙ sym r)
            (λ n. ap (λ f. renamed a b (family_in F f)) (renamed_kept a b (family_in F k) n) ∙ ap (renamed a b) (m.own k))

-- after any number of relations
pub length_families : (S : List ℕ) (n r : ℕ) → length (families_after S n r) ≡ n
unfolding families_after
length_families S n zero = length_numbers n
length_families S n (suc r) =
    let F = families_after S n r in
    length_merged (family_in F (get_or S (2 * r) 0)) (family_in F (get_or S (2 * r + 1) 0)) F ∙ length_families S n r

pub lowest_families : (S : List ℕ) (n r : ℕ) → LowestMembers (families_after S n r)
unfolding families_after
lowest_families S n zero = lowest_numbers n
lowest_families S n (suc r) = lowest_merged (families_after S n r) (get_or S (2 * r) 0) (get_or S (2 * r + 1) 0) (lowest_families S n r)

-- the two words of each relation so far are of one family
pub one_family : (S : List ℕ) (n r s : ℕ) → s < 2 * r → family_in (families_after S n r) (get_or S s 0) ≡ family_in (families_after S n r) (get_or S (other s) 0)
unfolding families_after
one_family S n zero s h = absurd (omega arith)
one_family S n (suc r) s h =
    by_cases (dec_lt s (2 * r)) (λ l. after s ∙ ap (renamed a b) (one_family S n r s l) ∙ sym (after (other s)))
    (λ l. by_cases (ℕ_discrete s (2 * r))
    (λ e. let o : other s ≡ 2 * r + 1 = omega arith in joined s (inl e) ∙ sym (joined (other s) (inr o)))
    (λ e. let o : other s ≡ 2 * r = omega arith in joined s (inr (omega arith)) ∙ sym (joined (other s) (inl o))))
  where
    F : List ℕ
    F = families_after S n r

    a : ℕ
    a = family_in F (get_or S (2 * r) 0)

    b : ℕ
    b = family_in F (get_or S (2 * r + 1) 0)

    after : (s : ℕ) → family_in (families_after S n (suc r)) (get_or S s 0) ≡ renamed a b (family_in F (get_or S s 0))
    after s = merged_at a b F (get_or S s 0)

    joined : (s : ℕ) → (s ≡ 2 * r) ⊎ (s ≡ 2 * r + 1) → family_in (families_after S n (suc r)) (get_or S s 0) ≡ min a b
    joined s c =
        let same : (t : ℕ) → s ≡ t → family_in F (get_or S s 0) ≡ family_in F (get_or S t 0) = λ t e. ap (λ k. family_in F (get_or S k 0)) e in
        after s ∙ renamed_both a b (family_in F (get_or S s 0)) (⊎_elim (λ e. inl (same (2 * r) e)) (λ e. inr (same (2 * r + 1) e)) c)

-- a relation between words that goes from a word to itself, back and on
pub record Joins (J : ℕ → ℕ → Type 0) : Type 0 where
  pub itself : (i : ℕ) → J i i
  pub back : (i j : ℕ) → J i j → J j i
  pub on : (i j k : ℕ) → J i j → J j k → J i k

-- one that joins x and y and the words of each family joins those of each family when the families of x and y become one
joined_merged : (J : ℕ → ℕ → Type 0) → Joins J → (F : List ℕ) (n x y : ℕ) → x < n → y < n → J x y
    → ((i j : ℕ) → i < n → j < n → family_in F i ≡ family_in F j → J i j)
    → (i j : ℕ) → i < n → j < n → family_in (merged_of F x y) i ≡ family_in (merged_of F x y) j → J i j
joined_merged J w F n x y hx hy m f i j h k e =
    ⊎_elim (f i j h k) (λ c. w.on i x j (to_first i h c.0) (w.back j x (to_first j k c.1)))
    (renamed_apart (family_in F x) (family_in F y) (family_in F i) (family_in F j)
    (sym (merged_at (family_in F x) (family_in F y) F i) ∙ e ∙ merged_at (family_in F x) (family_in F y) F j))
  where
    to_first : (i : ℕ) → i < n → (family_in F i ≡ family_in F x) ⊎ (family_in F i ≡ family_in F y) → J i x
    to_first i h c = ⊎_elim (f i x h hx) (λ e. w.on i y x (f i y h hy e) (w.back x y m)) c

-- one that joins the two words of each relation so far joins all words of a family
pub joined_of_family : (J : ℕ → ℕ → Type 0) → Joins J → (S : List ℕ) (n r : ℕ) → ((s : ℕ) → s < 2 * r → (get_or S s 0 < n) × J (get_or S s 0) (get_or S (other s) 0))
    → (i j : ℕ) → i < n → j < n → family_in (families_after S n r) i ≡ family_in (families_after S n r) j → J i j
unfolding families_after
joined_of_family J w S n zero f i j h k e = subst (J i) (sym (numbers_at n i h) ∙ e ∙ numbers_at n j k) (w.itself i)
joined_of_family J w S n (suc r) f i j h k e =
    let o : other (2 * r) ≡ 2 * r + 1 = omega arith in
    joined_merged J w (families_after S n r) n (get_or S (2 * r) 0) (get_or S (2 * r + 1) 0) (f (2 * r) (omega arith)).0 (f (2 * r + 1) (omega arith)).0
    (subst (λ t. J (get_or S (2 * r) 0) (get_or S t 0)) o (f (2 * r) (omega arith)).1)
    (joined_of_family J w S n r (λ s l. f s (omega arith))) i j h k e

-- chains of relations between relation words: on, and back where each relation word has its other one
pub joined_on : {sides : List Word} {w x y : Word} → JoinedBy sides w x → JoinedBy sides x y → JoinedBy sides w y
joined_on here d = d
joined_on (along s h e c) d = along s h e (joined_on c d)

pub joined_back : {sides : List Word} {w x : Word} → Even sides → JoinedBy sides w x → JoinedBy sides x w
joined_back v here = here
joined_back {sides} {w} {x} v (along s h e c) =
    let o : other (other s) ≡ s = omega arith in
    joined_on (joined_back v c)
    (along (other s) (other_there (length sides) s v h) refl (subst (λ (u : Word). JoinedBy sides u w) (sym e ∙ ap (λ t. get_or sides t []) (sym o)) here))

-- the words that a chain of relations joins
abbrev JoinedWords : List Relation → ℕ → ℕ → Type 0
JoinedWords relations i j = JoinedBy (relation_words relations) (get_or (words_of relations) i []) (get_or (words_of relations) j [])

joins_words : (relations : List Relation) → Joins (JoinedWords relations)
joins_words relations = record { itself = λ i. here; back = λ i j. joined_back (even_sides relations); on = λ i j k. joined_on }

-- the words of a side and of its other side are of one family
pub family_of_sides : (relations : List Relation) (s : ℕ) → s < length (relation_words relations)
    → family_of relations (word_of_side (relation_words relations) s) ≡ family_of relations (word_of_side (relation_words relations) (other s))
unfolding families_of
family_of_sides relations s h =
    one_family (side_words (relation_words relations)) (length (words_of relations)) (length relations) s (let l = length_words relations in omega arith)

-- words of one family are joined by a chain of relations
pub joined_of_families : (relations : List Relation) (i j : ℕ) → i < length (words_of relations) → j < length (words_of relations)
    → family_of relations i ≡ family_of relations j → JoinedWords relations i j
unfolding families_of
joined_of_families relations =
    joined_of_family (JoinedWords relations) (joins_words relations) (side_words (relation_words relations)) (length (words_of relations)) (length relations) (λ s h.
    let l = length_words relations in
    let v = even_sides relations in
    let d = distinct_right (relation_words relations) in
    let x = d.all s (omega arith) in
    let y = d.all (other s) (other_there (length (relation_words relations)) s v (omega arith)) in
    let w = get_or (words_of relations) (word_of_side (relation_words relations) (other s)) [] in
    (x.0, along s (omega arith) (sym x.1) (subst (λ u. JoinedBy (relation_words relations) u w) y.1 here)))

-- words that a chain of relations joins are of one family
pub families_of_joined : (relations : List Relation) {w x : Word} → JoinedBy (relation_words relations) w x
    → family_of relations (place_of w (words_of relations)) ≡ family_of relations (place_of x (words_of relations))
families_of_joined relations here = refl
families_of_joined relations (along s h e c) =
    ap (λ u. family_of relations (place_of u (words_of relations))) (sym e)
    ∙ ap (family_of relations) (sym (side_word_place (relation_words relations) s h))
    ∙ family_of_sides relations s h
    ∙ ap (family_of relations) (side_word_place (relation_words relations) (other s) (other_there (length (relation_words relations)) s (even_sides relations) h))
    ∙ families_of_joined relations c

-- two words are of one family exactly when a chain of relations joins them
pub families_right : FamiliesRight
families_right relations i j h k =
    let o = (distinct_right (relation_words relations)).once in (
      joined_of_families relations i j h k,
      λ c.
          ap (family_of relations) (sym (place_once (get_or (words_of relations) i []) (words_of relations) i o h refl))
          ∙ families_of_joined relations c
          ∙ ap (family_of relations) (place_once (get_or (words_of relations) j []) (words_of relations) j o k refl),
    )

-- the words of one relation, where no two sides are equal
halves : Joins (λ i j. i / 2 ≡ j / 2)
halves = record { itself = λ i. refl; back = λ i j e. sym e; on = λ i j k e f. e ∙ f }

half_of_once : (relations : List Relation) → Once (relation_words relations)
    → (i j : ℕ) → i < length (relation_words relations) → j < length (relation_words relations) → family_of relations i ≡ family_of relations j → i / 2 ≡ j / 2
unfolding families_of
half_of_once relations o i j h k e =
    let n = ap length (distinct_of_once (relation_words relations) o) in
    joined_of_family (λ i j. i / 2 ≡ j / 2) halves (side_words (relation_words relations)) (length (words_of relations)) (length relations) (λ s l.
    let m = length_words relations in
    let v = even_sides relations in
    let x = side_word_of_once (relation_words relations) o s (omega arith) in
    let y = side_word_of_once (relation_words relations) o (other s) (other_there (length (relation_words relations)) s v (omega arith)) in
    (omega arith, omega arith)) i j (omega arith) (omega arith) e

-- where no two sides are equal, a family has the two words of a relation
pub family_of_once : (relations : List Relation) → Once (relation_words relations)
    → (i j : ℕ) → i < length (relation_words relations) → j < length (relation_words relations) → (family_of relations i ≡ family_of relations j) ↔ ((j ≡ i) ⊎ (j ≡ other i))
family_of_once relations o i j h k = (
  λ e. let f = half_of_once relations o i j h k e in by_cases (ℕ_discrete j i) inl (λ n. inr (omega arith)),
  ⊎_elim (λ e. ap (family_of relations) (sym e)) (λ e.
      let y = side_word_of_once (relation_words relations) o (other i) (other_there (length (relation_words relations)) i (even_sides relations) h) in
      ap (family_of relations) (sym (side_word_of_once (relation_words relations) o i h)) ∙ family_of_sides relations i h ∙ ap (family_of relations) (y ∙ sym e)),
)
