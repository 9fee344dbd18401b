-- The rows for a presentation in which no word is on two sides (document 01 before rules could share a word): X'Y'Z' is the other word of the relation, row 3 looks at
-- two X and two XY, and row 4 goes on with Z' where s is not Z-active. They serve one theorem alone: there the rows for families give the same rounds.
use Rattle.std.specs.Prelude.{ℕ, suc, Bool, false, ◌&&◌, ◌||◌, not, List, [], ◌++◌, ◌≡◌, eqb, leb, length, drop}
use Rattle.words.specs.Words.{Word, is_empty, is_prefix}
use Rattle.words.specs.Relations.{other}
use Rattle.overlap.specs.Pieces.{word}
use Rattle.overlap.specs.Cuts.{len, xylen, x_of, xy_of, z_of}
use Rattle.congruence.specs.Rows.{Next, choose, clean_relation_prefix, active, row1, row2, row5, row6, row7, row8}
use Rattle.congruence.specs.Rows.Next.{end, go}

-- the number of the first row that fits: relation word i is the one whose XY is the clean relation prefix of u, j the other one of its relation
module _ (B : List Word) (i j : ℕ) (u v p : Word) where
  unfoldable pub pair_fitting : ℕ
  pair_fitting =
      choose (is_empty u || is_empty v) (λ _. 1) (λ _.
      choose (leb (length B) i) (λ _. 2) (λ _.
      choose (not ((is_prefix p (x_of B i) || is_prefix p (x_of B j)) && (is_prefix (xy_of B i) v || is_prefix (xy_of B j) v))) (λ _. 3) (λ _.
      choose (is_prefix (word B i) u && (is_prefix (word B i) v || is_prefix (word B j) v)) (λ _. 4) (λ _.
      choose (is_prefix (xy_of B i) v) (λ _. 5) (λ _.
      choose (not (is_prefix (z_of B i) (drop (xylen B i) u)) && is_prefix (word B j) v) (λ _. 6) (λ _.
      choose (is_prefix (word B i) u && not (is_prefix (z_of B j) (drop (xylen B j) v))) (λ _. 7) (λ _. 8)))))))

  -- row 4: u = XYZ s and v = XYZ t or X'Y'Z' t; one tail serves both
  unfoldable pub pair_row4 : Next
  pair_row4 =
      let s = drop (len B i) u in
      let t = choose (is_prefix (word B i) v) (λ _. drop (len B i) v) (λ _. drop (len B j) v) in
      let z = choose (active B (z_of B i) s) (λ _. z_of B i) (λ _. z_of B j) in
      go (z ++ s) (z ++ t) []

  unfoldable pub pair_makes : ℕ → Next
  pair_makes row =
      choose (eqb row 1) (λ _. row1 u v p) (λ _.
      choose (eqb row 2) (λ _. row2 u v p) (λ _.
      choose (eqb row 3) (λ _. end false) (λ _.
      choose (eqb row 4) (λ _. pair_row4) (λ _.
      choose (eqb row 5) (λ _. row5 B i j u v p) (λ _.
      choose (eqb row 6) (λ _. row6 B i j u v p) (λ _.
      choose (eqb row 7) (λ _. row7 B i j u v p) (λ _. row8 B i j u v p)))))))

-- one round
unfoldable pub pair_round : List Word → Word → Word → Word → Next
pair_round B u v p =
    let i = clean_relation_prefix B u in
    pair_makes B i (other i) u v p (pair_fitting B i (other i) u v p)

-- from u, v and p these rows make n rounds and then end with b
pub data PairRounds (B : List Word) : Word → Word → Word → ℕ → Bool → Type 0 where
  ended : {u v p : Word} {b : Bool} → pair_round B u v p ≡ end b → PairRounds B u v p 0 b
  goes : {u v p u' v' p' : Word} {n : ℕ} {b : Bool} → pair_round B u v p ≡ go u' v' p' → PairRounds B u' v' p' n b → PairRounds B u v p (suc n) b
