-- Distinct words: the place of a word in a list, what including a word changes, and that the distinct words of sides are the sides, each once.
use Prim.Native.Nat.{ℕ, zero, suc, ◌+◌, ◌≤◌, ◌<◌}
use mathlib.Core.Bool.{true≢false}
use mathlib.Core.List.{List, [], ◌∷◌, ◌++◌, append_assoc, append-nil}
use mathlib.Core.Path.{◌≡◌, refl, sym, ap, ◌∙◌, subst}
use mathlib.Core.Logic.{by_cases}
use native.Mathlib.Omega.{arith}
use native.Mathlib.Decide.{dec_lt}
use borrow.Author.Tests.{lt-ltb, le-ltb}
use lib.ListN.{length, get_or, length-append, get_or-append}
use lib.Seq.{get_or_at}
use Rattle.words.specs.Words.{Word, same_word}
use Rattle.words.specs.Families.{place_of, including, including_all, distinct_words, places_in, side_words, word_of_side, DistinctRight, DistinctWordsRight}
use Rattle.words.proofs.Tests.{false_of}
use Rattle.words.proofs.Searching.{least_bound, least_passes, least_first, least_is, least_none}
use Rattle.words.proofs.Prefixes.{same_word_iff_equal}

-- a property of lists that goes from a list to one with one more element at its end
pub by_last : {A : Type 0} (P : List A → Type 0) → P [] → ((l : List A) (x : A) → P l → P (l ++ (x ∷ []))) → (l : List A) → P l
by_last {A} P z f l = go [] l z
  where
    go : (a b : List A) → P a → P (a ++ b)
    go a [] p = subst P (sym (append-nil a)) p
    go a (x ∷ b) p = subst P (append_assoc a (x ∷ []) b) (go (a ++ (x ∷ [])) b (f a x p))

-- no two words of the list are equal
abbrev pub Once : List Word → Type 0
Once D = (i j : ℕ) → i < length D → j < length D → get_or D i [] ≡ get_or D j [] → i ≡ j

-- the place of a word lies in the list or at its end
pub place_bound : (w : Word) (D : List Word) → place_of w D ≤ length D
unfolding place_of
place_bound w D = least_bound (length D) (λ i. same_word (get_or D i []) w)

-- in the list it is a place of the word
pub place_word : (w : Word) (D : List Word) → place_of w D < length D → get_or D (place_of w D) [] ≡ w
unfolding place_of
place_word w D h = (same_word_iff_equal (get_or D (place_of w D) []) w).0 (least_passes (length D) (λ i. same_word (get_or D i []) w) h)

-- the first one
pub place_first : (w : Word) (D : List Word) (i : ℕ) → get_or D i [] ≡ w → place_of w D ≤ i
unfolding place_of
place_first w D i e =
    by_cases (dec_lt i (place_of w D))
    (λ h. absurd (true≢false (sym ((same_word_iff_equal (get_or D i []) w).1 e) ∙ (least_first (length D) (λ k. same_word (get_or D k []) w)).none i h)))
    (λ h. omega arith)

-- a word that stands at no place below i and at place i has this place
pub place_is : (w : Word) (D : List Word) (i : ℕ) → i < length D → get_or D i [] ≡ w → ((k : ℕ) → k < i → get_or D k [] ≡ w → ⊥) → place_of w D ≡ i
unfolding place_of
place_is w D i h e f =
    least_is (length D) (λ k. same_word (get_or D k []) w) i h
    (record { none = λ k l. false_of (same_word (get_or D k []) w) (λ t. f k l ((same_word_iff_equal (get_or D k []) w).0 t)) })
    ((same_word_iff_equal (get_or D i []) w).1 e)

-- a word that is not in the list has the list's end
pub place_none : (w : Word) (D : List Word) → ((k : ℕ) → k < length D → get_or D k [] ≡ w → ⊥) → place_of w D ≡ length D
unfolding place_of
place_none w D f =
    least_none (length D) (λ k. same_word (get_or D k []) w)
    (record { none = λ k l. false_of (same_word (get_or D k []) w) (λ t. f k l ((same_word_iff_equal (get_or D k []) w).0 t)) })

-- where no two words are equal, the word at place i has place i
pub place_once : (w : Word) (D : List Word) (i : ℕ) → Once D → i < length D → get_or D i [] ≡ w → place_of w D ≡ i
place_once w D i o h e = place_is w D i h e (λ k l f. let g = o k i (omega arith) h (f ∙ sym e) in absurd (omega arith))

-- more words behind the list do not move a word that is in it
pub place_append : (w : Word) (D E : List Word) → place_of w D < length D → place_of w (D ++ E) ≡ place_of w D
place_append w D E h =
    let l = length-append D E in
    place_is w (D ++ E) (place_of w D) (omega arith) (get_or-append D E [] (place_of w D) h ∙ place_word w D h)
    (λ k b e. let f = place_first w D k (sym (get_or-append D E [] k (omega arith)) ∙ e) in omega arith)

-- a word that is in the list leaves it as it is
pub including_there : (D : List Word) (w : Word) → place_of w D < length D → including D w ≡ D
unfolding including
including_there D w h = rw (lt-ltb (place_of w D) (length D) h)

-- a new word comes behind it
pub including_new : (D : List Word) (w : Word) → length D ≤ place_of w D → including D w ≡ D ++ (w ∷ [])
unfolding including
including_new D w h = rw (le-ltb (place_of w D) (length D) h)

-- what holds of a list that includes a word: its words are those of the list before, and the word at the place it had, which may have been the end
pub record Included (D : List Word) (w : Word) (D' : List Word) : Type 0 where
  pub longer : length D ≤ length D'
  pub keeps : (i : ℕ) → i < length D → get_or D' i [] ≡ get_or D i []
  pub there : place_of w D < length D'
  pub has : get_or D' (place_of w D) [] ≡ w
  pub rest : (i : ℕ) → i < length D' → length D ≤ i → i ≡ place_of w D

pub included : (D : List Word) (w : Word) → Included D w (including D w)
included D w = by_cases (dec_lt (place_of w D) (length D))
    (λ h. subst (Included D w) (sym (including_there D w h)) (record {
      longer = omega arith;
      keeps = λ i l. refl;
      there = h;
      has = place_word w D h;
      rest = λ i l m. absurd (omega arith);
    }))
    (λ h. subst (Included D w) (sym (including_new D w (omega arith))) (new (let b = place_bound w D in omega arith) (length-append D (w ∷ []))))
  where
    new : place_of w D ≡ length D → length (D ++ (w ∷ [])) ≡ length D + 1 → Included D w (D ++ (w ∷ []))
    new e l = record {
      longer = omega arith;
      keeps = λ i h. get_or-append D (w ∷ []) [] i h;
      there = omega arith;
      has = get_or_at D w [] [] (place_of w D) (sym e);
      rest = λ i h m. omega arith;
    }

-- no word becomes one of two equal ones
pub including_once : (D : List Word) (w : Word) → Once D → Once (including D w)
including_once D w o i j h k e =
    let c = included D w in
    by_cases (dec_lt i (length D))
    (λ a. by_cases (dec_lt j (length D)) (λ b. o i j a b (sym (c.keeps i a) ∙ e ∙ c.keeps j b)) (λ b. absurd (apart i j a k (omega arith) e)))
    (λ a. by_cases (dec_lt j (length D)) (λ b. absurd (apart j i b h (omega arith) (sym e))) (λ b. c.rest i h (omega arith) ∙ sym (c.rest j k (omega arith))))
  where
    apart : (i j : ℕ) → i < length D → j < length (including D w) → length D ≤ j → get_or (including D w) i [] ≡ get_or (including D w) j [] → ⊥
    apart i j a k b e =
        let c = included D w in
        let r = c.rest j k b in
        let f = place_first w D i (sym (c.keeps i a) ∙ e ∙ ap (λ n. get_or (including D w) n []) r ∙ c.has) in
        omega arith

-- the word has the place that it had, which may have been the end
pub place_including : (w : Word) (D : List Word) → place_of w (including D w) ≡ place_of w D
place_including w D =
    let c = included D w in
    let b = place_bound w D in
    place_is w (including D w) (place_of w D) c.there c.has (λ k l e. let f = place_first w D k (sym (c.keeps k (omega arith)) ∙ e) in omega arith)

-- and a word that is in the list stays where it is
pub place_stays : (x w : Word) (D : List Word) → place_of x D < length D → place_of x (including D w) ≡ place_of x D
place_stays x w D h = by_cases (dec_lt (place_of w D) (length D))
    (λ l. ap (place_of x) (including_there D w l)) (λ l. ap (place_of x) (including_new D w (omega arith)) ∙ place_append x D (w ∷ []) h)

including_all_last : (D ws : List Word) (w : Word) → including_all D (ws ++ (w ∷ [])) ≡ including (including_all D ws) w
unfolding including_all
including_all_last D [] w = refl
including_all_last D (x ∷ ws) w = including_all_last (including D x) ws w

-- the distinct words with one more side
pub distinct_last : (ws : List Word) (w : Word) → distinct_words (ws ++ (w ∷ [])) ≡ including (distinct_words ws) w
unfolding distinct_words
distinct_last ws w = including_all_last [] ws w

-- the places of words: one for each, the place of the word
length_places : (D ws : List Word) → length (places_in D ws) ≡ length ws
unfolding places_in
length_places D [] = refl
length_places D (w ∷ ws) = ap suc (length_places D ws)

places_at : (D ws : List Word) (s : ℕ) → s < length ws → get_or (places_in D ws) s 0 ≡ place_of (get_or ws s []) D
unfolding places_in
places_at D [] s h = absurd (omega arith)
places_at D (w ∷ ws) zero h = refl
places_at D (w ∷ ws) (suc s) h = places_at D ws s (omega arith)

places_last : (D ws : List Word) (w : Word) → places_in D (ws ++ (w ∷ [])) ≡ places_in D ws ++ (place_of w D ∷ [])
unfolding places_in
places_last D [] w = refl
places_last D (x ∷ ws) w = ap (place_of x D ∷◌) (places_last D ws w)

-- one more word in the list leaves the places of words that are in it
places_stay : (D ws : List Word) (w : Word) → ((s : ℕ) → s < length ws → place_of (get_or ws s []) D < length D) → places_in (including D w) ws ≡ places_in D ws
unfolding places_in
places_stay D [] w h = refl
places_stay D (x ∷ ws) w h = rw (place_stays x w D (h 0 (omega arith))) (ap (place_of x D ∷◌) (places_stay D ws w (λ s l. h (suc s) (omega arith))))

-- each side has a number
pub length_side_words : (sides : List Word) → length (side_words sides) ≡ length sides
unfolding side_words
length_side_words sides = length_places (distinct_words sides) sides

-- which is the place of its word among the distinct words
pub side_word_place : (sides : List Word) (s : ℕ) → s < length sides → word_of_side sides s ≡ place_of (get_or sides s []) (distinct_words sides)
unfolding side_words
side_word_place sides s h = places_at (distinct_words sides) sides s h

-- with one more side: where the words so far are known to be right
side_words_more : (ws : List Word) (w : Word) → DistinctRight ws → side_words (ws ++ (w ∷ [])) ≡ side_words ws ++ (place_of w (distinct_words ws) ∷ [])
unfolding side_words
side_words_more ws w d =
    ap (λ D. places_in D (ws ++ (w ∷ []))) (distinct_last ws w)
    ∙ places_last (including (distinct_words ws) w) ws w
    ∙ ap (places_in (including (distinct_words ws) w) ws ++◌) (ap (◌∷ []) (place_including w (distinct_words ws)))
    ∙ ap (◌++ (place_of w (distinct_words ws) ∷ []))
    (places_stay (distinct_words ws) ws w (λ s h. subst (◌< length (distinct_words ws)) (side_word_place ws s h) (d.all s h).0))

-- with no side there is nothing to show
distinct_start : DistinctRight []
unfolding distinct_words including_all
distinct_start =
    record {
      all = λ s h. absurd (omega arith);
      only = λ i h. absurd (omega arith);
      once = λ i j h k e. absurd (omega arith);
      ordered = λ i s h l. absurd (omega arith);
    }

-- one more side
distinct_more : (ws : List Word) (w : Word) → DistinctRight ws → DistinctRight (ws ++ (w ∷ []))
distinct_more ws w d =
    let longer = c.longer in
    let l₁ = length-append ws (w ∷ []) in
    let l₂ = ap length (distinct_last ws w) in
    record {
      all = λ s h. by_cases (dec_lt s (length ws))
          (λ a. let n = old s a in let b = (d.all s a).0 in (
            omega arith,
            word (word_of_side (ws ++ (w ∷ [])) s) ∙ ap (λ i. get_or (including D w) i []) n
                ∙ c.keeps (word_of_side ws s) b ∙ (d.all s a).1 ∙ sym (get_or-append ws (w ∷ []) [] s a),
          ))
          (λ a. let n = last s (omega arith) in let b = c.there in (
            omega arith,
            word (word_of_side (ws ++ (w ∷ [])) s) ∙ ap (λ i. get_or (including D w) i []) n ∙ c.has ∙ sym (get_or_at ws w [] [] s (omega arith)),
          ));
      only = λ i h. by_cases (dec_lt i (length D))
          (λ a. let (s, l, e) = d.only i a in (s, omega arith, old s l ∙ e))
          (λ a. (length ws, omega arith, last (length ws) refl ∙ sym (c.rest i (omega arith) (omega arith))));
      once = λ i j h k e. including_once D w d.once i j (omega arith) (omega arith) (sym (word i) ∙ e ∙ word j);
      ordered = λ i s h l. by_cases (dec_lt s (length ws))
          (λ a. let n = old s a in let (r, b, e) = d.ordered i s a (omega arith) in (r, b, old r (omega arith) ∙ e))
          (λ a. let n = last s (omega arith) in let p = place_bound w D in let (r, b, e) = d.only i (omega arith) in (r, omega arith, old r b ∙ e));
    }
  where
    D : List Word
    D = distinct_words ws

    c : Included D w (including D w)
    c = included D w

    word : (i : ℕ) → get_or (distinct_words (ws ++ (w ∷ []))) i [] ≡ get_or (including D w) i []
    word i = ap (λ E. get_or E i []) (distinct_last ws w)

    old : (s : ℕ) → s < length ws → word_of_side (ws ++ (w ∷ [])) s ≡ word_of_side ws s
    old s h = ap (λ S. get_or S s 0) (side_words_more ws w d) ∙ get_or-append (side_words ws) (place_of w D ∷ []) 0 s (let l = length_side_words ws in omega arith)

    last : (s : ℕ) → s ≡ length ws → word_of_side (ws ++ (w ∷ [])) s ≡ place_of w D
    last s e = ap (λ S. get_or S s 0) (side_words_more ws w d) ∙ get_or_at (side_words ws) (place_of w D) [] 0 s (length_side_words ws ∙ sym e)

-- the distinct words are the sides, each once, in order of first appearance
pub distinct_right : DistinctWordsRight
distinct_right = by_last DistinctRight distinct_start distinct_more

-- the number of one more side is the place of its word in the words so far: the end where it is new
pub side_words_last : (ws : List Word) (w : Word) → side_words (ws ++ (w ∷ [])) ≡ side_words ws ++ (place_of w (distinct_words ws) ∷ [])
side_words_last ws w = side_words_more ws w (distinct_right ws)

-- sides of which no two are equal are the distinct words themselves
pub distinct_of_once : (sides : List Word) → Once sides → distinct_words sides ≡ sides
unfolding distinct_words including_all
distinct_of_once = by_last (λ sides. Once sides → distinct_words sides ≡ sides) (λ o. refl) (λ ws w f o.
    let l = length-append ws (w ∷ []) in
    let front : Once ws = λ i j h k e. o i j (omega arith) (omega arith) (get_or-append ws (w ∷ []) [] i h ∙ e ∙ sym (get_or-append ws (w ∷ []) [] j k)) in
    let new = place_none w ws (λ k h e.
    let g = o k (length ws) (omega arith) (omega arith) (get_or-append ws (w ∷ []) [] k h ∙ e ∙ sym (get_or_at ws w [] [] (length ws) refl)) in omega arith) in
    distinct_last ws w ∙ ap (λ D. including D w) (f front) ∙ including_new ws w (omega arith))

-- and the number of a side's word is the side's own
pub side_word_of_once : (sides : List Word) → Once sides → (s : ℕ) → s < length sides → word_of_side sides s ≡ s
side_word_of_once sides o s h =
    side_word_place sides s h ∙ ap (place_of (get_or sides s [])) (distinct_of_once sides o) ∙ place_once (get_or sides s []) sides s o h refl
