-- Where the relation words' prefixes can stand in a word: document 003, section 2, the remarks on relation prefixes before Proposition 1.
-- A head of relation word i is a prefix of it that is longer than X; XY is a head, and so is the whole word.
use Prim.Native.Nat.{ℕ, suc, ◌+◌, ◌-◌, ◌≤◌, ◌<◌}
use mathlib.Core.List.{List}
use mathlib.Core.Path.{◌≡◌, sym}
use mathlib.Core.Logic.{by_cases}
use native.Mathlib.Omega.{arith}
use native.Mathlib.Decide.{dec_le, dec_lt}
use lib.ListN.{length}
use Rattle.words.specs.Words.{Word}
use Rattle.words.proofs.Segments.{Same, same_sym, same_sub, same_via}
use Rattle.overlap.specs.Pieces.{word}
use Rattle.overlap.specs.Cuts.{len, xlen, xylen}
use Rattle.overlap.proofs.Rigid.{Rigid}

-- the facts that C(4) gives, of the cuts that the rows use
abbrev pub Facts : List Word → Type 0
Facts B = Rigid B (xlen B) (xylen B)

-- the first n letters of relation word i, more than X, stand in u at p
pub record Head (B : List Word) (u : Word) (p i n : ℕ) : Type 0 where
  pub there : i < length B
  pub long : xlen B i < n
  pub part : n ≤ len B i
  pub fits : p + n ≤ length u
  pub same : Same (word B i) 0 u p n

-- XY of relation word i stands in u at p (document 003: a relation prefix, up to what precedes it)
abbrev pub Prefix : List Word → Word → ℕ → ℕ → Type 0
Prefix B u p i = Head B u p i (xylen B i)

-- the relation word i stands in u at p
abbrev pub Whole : List Word → Word → ℕ → ℕ → Type 0
Whole B u p i = Head B u p i (len B i)

-- XY of i stands in u at p, and no other XY begins inside it (document 003: a clean relation prefix)
pub record Clean (B : List Word) (u : Word) (p i : ℕ) : Type 0 where
  pub at : Prefix B u p i
  pub only : (q j : ℕ) → p < q → q < p + xylen B i → Prefix B u q j → ⊥

module _ {B : List Word} where
  -- a shorter head at the same place
  pub head_shorter : {u : Word} {p i n : ℕ} → Head B u p i n → (m : ℕ) → (xlen B i < m) × (m ≤ n) → Head B u p i m
  head_shorter h m c =
      record {
        there = h.there;
        long = omega arith;
        part = let a = h.part in omega arith;
        fits = let a = h.fits in omega arith;
        same = same_sub h.same (omega arith);
      }

  -- a head stands wherever its letters do
  pub head_move : {u v : Word} {p q i n : ℕ} → Head B u p i n → Same u p v q n → q + n ≤ length v → Head B v q i n
  head_move h s l = record { there = h.there; long = h.long; part = h.part; fits = l; same = same_via h.same s (omega arith) }

  module _ (R : Facts B) where
    -- two heads at one place are of one relation word
    pub one_word : {u : Word} {p i n j m : ℕ} → Head B u p i n → Head B u p j m → i ≡ j
    one_word {u} {p} {i} {n} {j} {m} g h = by_cases (dec_le n m)
        (λ a. (R.marker i j 0 n g.there h.there g.long g.part (omega (arith, h.part)) (same_via g.same (same_sym h.same) (omega arith))).0)
        (λ a. sym (R.marker j i 0 m h.there g.there h.long h.part (omega (arith, g.part)) (same_via h.same (same_sym g.same) (omega arith))).0)

    -- a head reaches no further than X of a head behind its beginning
    pub reach : {u : Word} {p i n q j m : ℕ} → Head B u p i n → Head B u q j m → p < q → p + n ≤ q + xlen B j
    reach {u} {p} {i} {n} {q} {j} {m} g h l = by_cases (dec_le (p + n) (q + xlen B j)) (λ a. a) (λ a.
        let hl = h.long in
        let hp = h.part in
        let gp = g.part in
        let r =
        R.marker j i (q - p) (suc (xlen B j)) h.there g.there (omega arith) (omega arith) (omega arith)
        (same_via h.same (same_sym g.same) (omega arith)) in
        absurd (omega (arith, r.1)))

    -- behind the beginning of XY the next head begins only behind X: Y is in no other place
    pub behind : {u : Word} {p i q j m : ℕ} → Prefix B u p i → Head B u q j m → p < q → p + xlen B i < q
    behind {u} {p} {i} {q} {j} {m} g h l = by_cases (dec_lt (p + xlen B i) q) (λ a. a) (λ a.
        let c = reach g h l in
        let hl = h.long in
        let hp = h.part in
        let gl = g.long in
        let r =
        R.middle i j (p + xlen B i - q) g.there h.there (omega arith)
        (same_via g.same (same_sym h.same) (omega arith)) in
        absurd (omega (arith, r.1)))

    -- no head begins inside XY of a whole relation word: an end longer than Z is in no other place
    pub clear : {u : Word} {p i q j m : ℕ} → Whole B u p i → Head B u q j m → p < q → p + xylen B i ≤ q
    clear {u} {p} {i} {q} {j} {m} g h l = by_cases (dec_le (p + xylen B i) q) (λ a. a) (λ a.
        let c = reach g h l in
        let hl = h.long in
        let hp = h.part in
        let r =
        R.tail i j (q - p) 0 g.there h.there (omega arith) (omega arith)
        (same_via g.same (same_sym h.same) (omega arith)) in
        absurd (omega (arith, r.1)))

    -- XY of a whole relation word
    pub prefix_of_whole : {u : Word} {p i : ℕ} → Whole B u p i → Prefix B u p i
    prefix_of_whole {u} {p} {i} h = let a = R.some i h.there in head_shorter h (xylen B i) (omega arith)

    -- and it is clean (document 003, Lemma 1)
    pub clean_of_whole : {u : Word} {p i : ℕ} → Whole B u p i → Clean B u p i
    clean_of_whole h = record { at = prefix_of_whole h; only = λ q j a b f. let c = clear h f a in absurd (omega arith) }
