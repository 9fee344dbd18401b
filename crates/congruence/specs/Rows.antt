-- The eight rows of one round, in the order and by the conditions of document 01, "Exchanges and rounds" (document 003: procedure WP-PREFIX).
-- A round works on u, v and a front mark p. `B` lists the distinct relation words; of the one with number i, `x_of`, `xy_of`, `z_of` are X, X with Y, and Z.
use Rattle.std.specs.Prelude.{ℕ, ◌+◌, ◌-◌, Bool, true, false, ◌&&◌, ◌||◌, not, List, [], ◌++◌, eqb, leb, ltb, length, get_or, take, drop}
use Rattle.words.specs.Search.{any_below, least}
use Rattle.words.specs.Words.{Word, is_empty, is_prefix, common_suffix}
use Rattle.overlap.specs.Pieces.{word}
use Rattle.overlap.specs.Cuts.{len, xlen, xylen, x_of, xy_of, z_of}

-- what a round gives: the end, with 'same' for true and 'different' for false, or the next u, v and p
pub data Next : Type 0 where
  end : Bool → Next
  go : Word → Word → Word → Next

-- the second or the third by the first; only the chosen one is computed
abbrev pub choose : {A : Type 0} → Bool → (Unit {0} → A) → (Unit {0} → A) → A
choose true x y = x tt
choose false x y = y tt

-- X and Y of some relation word stand in w at place q
unfoldable pub has_relation_prefix_at : List Word → Word → ℕ → Bool
has_relation_prefix_at B w q = any_below (length B) (λ j. is_prefix (xy_of B j) (drop q w))

-- X and Y of some relation word stand in w at a place from lo on and below hi
unfoldable pub has_relation_prefix_between : List Word → Word → ℕ → ℕ → Bool
has_relation_prefix_between B w lo hi = any_below hi (λ q. leb lo q && has_relation_prefix_at B w q)

-- XY of relation word i is a clean relation prefix of u (document 01: a clean front): u begins with XY,
-- and does not begin with X, a non-empty proper prefix of Y, and then the X and Y of any relation word
unfoldable pub clean : List Word → Word → ℕ → Bool
clean B u i = is_prefix (xy_of B i) u && not (has_relation_prefix_between B u (xlen B i + 1) (xylen B i))

-- the relation word whose XY is a clean relation prefix of u, or the number of relation words
unfoldable pub clean_relation_prefix : List Word → Word → ℕ
clean_relation_prefix B u = least (length B) (clean B u)

-- t is z-active: z t begins with g, shorter than z, and then the X and Y of some relation word
unfoldable pub active : List Word → Word → Word → Bool
active B z t = has_relation_prefix_between B (z ++ t) 0 (length z)

-- the first letters are the same; asked only of words that are not empty
abbrev pub alike : Word → Word → Bool
alike u v = eqb (get_or u 0 0) (get_or v 0 0)

-- Relation words i and j are of one family where `family i` is `family j`.

-- relation word j is of i's family, and p is a prefix of its X
unfoldable pub marked : List Word → (ℕ → ℕ) → ℕ → Word → ℕ → Bool
marked B family i p j = eqb (family i) (family j) && is_prefix p (x_of B j)

-- p is a prefix of the X of some member of i's family
unfoldable pub marked_by_any : List Word → (ℕ → ℕ) → ℕ → Word → Bool
marked_by_any B family i p = any_below (length B) (marked B family i p)

-- relation word j is of i's family, and v begins with its X and Y
unfoldable pub begun : List Word → (ℕ → ℕ) → ℕ → Word → ℕ → Bool
begun B family i v j = eqb (family i) (family j) && is_prefix (xy_of B j) v

-- the member of i's family whose X and Y v begins with, or the number of relation words (document 01: X'Y'Z', whichever member v begins with)
unfoldable pub member_of : List Word → (ℕ → ℕ) → ℕ → Word → ℕ
member_of B family i v = least (length B) (begun B family i v)

-- j is a member of i's family other than i
unfoldable pub is_other : (ℕ → ℕ) → ℕ → ℕ → Bool
is_other family i j = eqb (family i) (family j) && not (eqb i j)

-- the first other member of i's family, or the number of relation words
unfoldable pub first_other : List Word → (ℕ → ℕ) → ℕ → ℕ
first_other B family i = least (length B) (is_other family i)

-- the first other member for whose Z the word s is active, or the number of relation words
unfoldable pub first_active : List Word → (ℕ → ℕ) → ℕ → Word → ℕ
first_active B family i s = least (length B) (λ j. is_other family i j && active B (z_of B j) s)

-- the member whose tail row 4 goes on with: i where s is active for its Z; else the first other member for whose Z s is active; else the first other member; else i
unfoldable pub tail_member : List Word → (ℕ → ℕ) → ℕ → Word → ℕ
tail_member B family i s =
    choose (active B (z_of B i) s) (λ _. i) (λ _.
    choose (ltb (first_active B family i s) (length B)) (λ _. first_active B family i s) (λ _.
    choose (ltb (first_other B family i) (length B)) (λ _. first_other B family i) (λ _. i)))

-- The number of the first row that fits. Relation word i is the one whose XY is the clean relation prefix of u, and i is the number of relation words
-- where there is none; X'Y'Z' is relation word j, the member of i's family whose XY v begins with, and j is the number of relation words where there is none.
module _ (B : List Word) (family : ℕ → ℕ) (i j : ℕ) (u v p : Word) where
  unfoldable pub fitting : ℕ
  fitting =
      choose (is_empty u || is_empty v) (λ _. 1) (λ _.
      choose (leb (length B) i) (λ _. 2) (λ _.
      choose (not (marked_by_any B family i p && ltb j (length B))) (λ _. 3) (λ _.
      choose (is_prefix (word B i) u && is_prefix (word B j) v) (λ _. 4) (λ _.
      choose (is_prefix (xy_of B i) v) (λ _. 5) (λ _.
      choose (not (is_prefix (z_of B i) (drop (xylen B i) u)) && is_prefix (word B j) v) (λ _. 6) (λ _.
      choose (is_prefix (word B i) u && not (is_prefix (z_of B j) (drop (xylen B j) v))) (λ _. 7) (λ _. 8)))))))

-- What each row makes, by the same i and j.

-- row 1: u or v empty
unfoldable pub row1 : Word → Word → Word → Next
row1 u v p = end (is_empty u && (is_empty v && is_empty p))

-- row 2: u has no clean relation prefix; u and v are not empty
unfoldable pub row2 : Word → Word → Word → Next
row2 u v p = choose (alike u v && (is_empty p || alike p u)) (λ _. go (drop 1 u) (drop 1 v) (drop 1 p)) (λ _. end false)

-- row 4: u = XYZ s and v = X'Y'Z' t; one tail serves both
unfoldable pub row4 : List Word → (ℕ → ℕ) → ℕ → ℕ → Word → Word → Next
row4 B family i j u v =
    let s = drop (len B i) u in
    let t = drop (len B j) v in
    let z = z_of B (tail_member B family i s) in
    go (z ++ s) (z ++ t) []

module _ (B : List Word) (i j : ℕ) (u v p : Word) where
  -- row 5: u = XY s, v = XY t
  unfoldable pub row5 : Next
  row5 = go (drop (xylen B i) u) (drop (xylen B i) v) (choose (is_prefix p (x_of B i)) (λ _. []) (λ _. z_of B i))

  -- row 6: u = XY s, s not beginning with Z, v = X'Y'Z' t
  unfoldable pub row6 : Next
  row6 = go (drop (xylen B i) u) (z_of B i ++ drop (len B j) v) []

  -- row 7: u = XYZ s, v = X'Y' t, t not beginning with Z'
  unfoldable pub row7 : Next
  row7 = go (z_of B j ++ drop (len B i) u) (drop (xylen B j) v) []

  -- row 8: u = XY s, v = X'Y' t otherwise; z is the longest common suffix of Z and Z', Z = e z, Z' = f z
  unfoldable pub row8 : Next
  row8 =
      let s = drop (xylen B i) u in
      let t = drop (xylen B j) v in
      let l = common_suffix (z_of B i) (z_of B j) in
      let e = take (length (z_of B i) - l) (z_of B i) in
      let f = take (length (z_of B j) - l) (z_of B j) in
      choose (is_prefix e s && is_prefix f t) (λ _. go (drop (length e) s) (drop (length f) t) (drop (length e) (z_of B i))) (λ _. end false)

-- what the row of this number makes; row 3 ends with 'different'
unfoldable pub makes : List Word → (ℕ → ℕ) → ℕ → ℕ → Word → Word → Word → ℕ → Next
makes B family i j u v p row =
    choose (eqb row 1) (λ _. row1 u v p) (λ _.
    choose (eqb row 2) (λ _. row2 u v p) (λ _.
    choose (eqb row 3) (λ _. end false) (λ _.
    choose (eqb row 4) (λ _. row4 B family i j u v) (λ _.
    choose (eqb row 5) (λ _. row5 B i j u v p) (λ _.
    choose (eqb row 6) (λ _. row6 B i j u v p) (λ _.
    choose (eqb row 7) (λ _. row7 B i j u v p) (λ _. row8 B i j u v p)))))))

-- the relation word that document 01 writes X'Y'Z': the member v begins with of the family of the word whose XY is the clean relation prefix of u
abbrev pub primed_word : List Word → (ℕ → ℕ) → Word → Word → ℕ
primed_word B family u v = member_of B family (clean_relation_prefix B u) v

-- the number of the first row that fits, from 1 to 8
unfoldable pub first_row : List Word → (ℕ → ℕ) → Word → Word → Word → ℕ
first_row B family u v p = fitting B family (clean_relation_prefix B u) (primed_word B family u v) u v p

-- one round: what the first row that fits makes
unfoldable pub round : List Word → (ℕ → ℕ) → Word → Word → Word → Next
round B family u v p = makes B family (clean_relation_prefix B u) (primed_word B family u v) u v p (first_row B family u v p)
