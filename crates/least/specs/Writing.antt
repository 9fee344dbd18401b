-- The rounds that write the least word w with p w congruent to u (document 01, "The least equal run"; there p is empty). A round works on a front mark p and a word u, writes a
-- part of w, and goes on with the next mark and word. Nothing that was written is ever changed.
use Rattle.std.specs.Prelude.{ℕ, zero, suc, ◌+◌, ◌-◌, ◌*◌, Bool, ◌&&◌, ◌||◌, not, List, [], ◌++◌, ◌≡◌, eqb, leb, ltb, length, take, drop}
use Rattle.words.specs.Search.{any_below, least}
use Rattle.words.specs.Words.{Word, is_empty, is_prefix, common_suffix}
use Rattle.overlap.specs.Pieces.{word}
use Rattle.overlap.specs.Cuts.{len, xylen, x_of, xy_of, z_of, longest_suffix_piece}
use Rattle.congruence.specs.Rows.{choose, clean_relation_prefix, active, alike, marked}
use Rattle.least.specs.Order.{before}
use Rattle.least.specs.Possible.{possible}

-- what a round gives: the end of the word; that there is no such word; or a part that is written, and the next p and u
pub data Part : Type 0 where
  end : Part
  none : Part
  part : Word → Word → Word → Part

-- a clean relation prefix begins in w before place n
unfoldable pub clean_before : List Word → Word → ℕ → Bool
clean_before B w n = any_below n (λ q. ltb (clean_relation_prefix B (drop q w)) (length B))

-- u has no clean relation prefix: its first letter stays
unfoldable pub letter_part : Word → Word → Part
letter_part p u =
    choose (is_empty p) (λ _. part (take 1 u) [] (drop 1 u)) (λ _.
    choose (alike p u) (λ _. part [] (drop 1 p) (drop 1 u)) (λ _. none))

-- of the members of i's family with p a prefix of their X, the one whose XY comes first; or the number of relation words
unfoldable pub first_member : List Word → (ℕ → ℕ) → (ℕ → ℕ) → ℕ → Word → ℕ
first_member B family rank i p =
    least (length B) (λ j. marked B family i p j && not (any_below (length B) (λ l. marked B family i p l && before rank (xy_of B l) (xy_of B j))))

-- the member whose XY the least word begins with, where XY of i is clean and s follows it; or the number of relation words. Another member than i can be
-- reached only where Z of i is possible behind XY
unfoldable pub chosen_member : List Word → (ℕ → ℕ) → (ℕ → ℕ) → ℕ → Word → Word → ℕ
chosen_member B family rank i p s =
    choose (eqb (first_member B family rank i p) i || possible B family (z_of B i) s) (λ _. first_member B family rank i p) (λ _.
    choose (is_prefix p (x_of B i)) (λ _. i) (λ _. length B))

-- the first member of i's family for whose Z the word w is active, or i
unfoldable pub carrier : List Word → (ℕ → ℕ) → ℕ → Word → ℕ
carrier B family i w =
    let c = least (length B) (λ j. eqb (family i) (family j) && active B (z_of B j) w) in
    choose (ltb c (length B)) (λ _. c) (λ _. i)

-- u = XYZ w, XYZ relation word i, and the least word begins with XY of j
unfoldable pub whole_part : List Word → (ℕ → ℕ) → ℕ → ℕ → Word → Word → Part
whole_part B family i j p w =
    choose (active B (z_of B j) w) (λ _. part (drop (length p) (xy_of B j)) [] (z_of B j ++ w)) (λ _.
    part (drop (length p) (word B j)) (z_of B (carrier B family i w)) (z_of B (carrier B family i w) ++ w))

-- u = XY s, s not beginning with Z, and the least word begins with XY of j, other than i: Z of i is e z and Z of j is f z with the longest common suffix z
unfoldable pub other_part : List Word → ℕ → ℕ → Word → Word → Part
other_part B i j p s =
    let l = common_suffix (z_of B i) (z_of B j) in
    let e = take (length (z_of B i) - l) (z_of B i) in
    choose (is_prefix e s && not (clean_before B s (length e))) (λ _. part (drop (length p) (take (len B j - l) (word B j))) [] (drop (length e) s)) (λ _.
    part (drop (length p) (word B j)) (z_of B i) s)

-- XY of i is the clean relation prefix of u, and the least word begins with XY of j
unfoldable pub member_part : List Word → (ℕ → ℕ) → ℕ → ℕ → Word → Word → Part
member_part B family i j p u =
    choose (leb (length B) j) (λ _. none) (λ _.
    choose (is_prefix (z_of B i) (drop (xylen B i) u)) (λ _. whole_part B family i j p (drop (len B i) u)) (λ _.
    choose (eqb j i) (λ _. part (drop (length p) (xy_of B i)) [] (drop (xylen B i) u)) (λ _.
    other_part B i j p (drop (xylen B i) u))))

-- one round
unfoldable pub write_part : List Word → (ℕ → ℕ) → (ℕ → ℕ) → Word → Word → Part
write_part B family rank p u =
    choose (is_empty u) (λ _. choose (is_empty p) (λ _. end) (λ _. none)) (λ _.
    choose (leb (length B) (clean_relation_prefix B u)) (λ _. letter_part p u) (λ _.
    member_part B family (clean_relation_prefix B u) (chosen_member B family rank (clean_relation_prefix B u) p (drop (xylen B (clean_relation_prefix B u)) u)) p u))

-- what the rounds give: a word, or that there is none
pub data Found : Type 0 where
  found : Word → Found
  absent : Found

-- a word behind a part
abbrev pub behind : Word → Found → Found
behind c (found w) = found (c ++ w)
behind c absent = absent

-- from p and u the rounds make n parts and then end with r
pub data Parts (B : List Word) (family rank : ℕ → ℕ) : Word → Word → ℕ → Found → Type 0 where
  ended : {p u : Word} → write_part B family rank p u ≡ end → Parts B family rank p u 0 (found [])
  failed : {p u : Word} → write_part B family rank p u ≡ none → Parts B family rank p u 0 absent
  goes : {p u c p' u' : Word} {n : ℕ} {r : Found} → write_part B family rank p u ≡ part c p' u' → Parts B family rank p' u' n r → Parts B family rank p u (suc n) (behind c r)

-- what computes: the same with at most so many rounds
abbrev pub on_part : Part → (Word → Word → Word → Found) → Found
on_part end k = found []
on_part none k = absent
on_part (part c p u) k = k c p u

unfoldable pub least_within : List Word → (ℕ → ℕ) → (ℕ → ℕ) → ℕ → Word → Word → Found
least_within B family rank zero p u = on_part (write_part B family rank p u) (λ c p u. absent)
least_within B family rank (suc rounds) p u = on_part (write_part B family rank p u) (λ c p u. behind c (least_within B family rank rounds p u))

-- the least word behind p for u, or that there is none; k + 1 rounds for each letter of u suffice
unfoldable pub least_behind : List Word → (ℕ → ℕ) → (ℕ → ℕ) → Word → Word → Found
least_behind B family rank p u = least_within B family rank ((longest_suffix_piece B + 1) * length u) p u

-- the word that was found
abbrev pub word_of : Found → Word
word_of (found w) = w
word_of absent = []
