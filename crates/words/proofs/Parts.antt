-- Parts of words: their lengths and letters, parts of parts, and parts of words that agree.
use Prim.Native.Nat.{ℕ, ◌+◌, ◌-◌, ◌≤◌, ◌<◌}
use mathlib.Core.List.{List, []}
use mathlib.Core.Path.{◌≡◌, sym, ap, ◌∙◌}
use native.Mathlib.Omega.{arith}
use lib.ListN.{length, get_or, take, drop, length-take, length-drop}
use lib.Seq.{length-take-le, take-take, drop-drop, get_or-take, get_or-drop, ext_get_or}
use Rattle.words.specs.Words.{part}
use Rattle.words.proofs.Lists.{drop_take}

-- how long a part is, and its letters by their places in the whole
pub part_length : (text : List ℕ) (a b : ℕ) → b ≤ length text → length (part text a b) ≡ b - a
part_length text a b h = let d = length-drop a text in length-take-le (b - a) (drop a text) (omega (arith, h, d))

pub part_at : (text : List ℕ) (a b k : ℕ) → k < b - a → get_or (part text a b) k 0 ≡ get_or text (a + k) 0
part_at text a b k h = get_or-take (b - a) (drop a text) k 0 h ∙ get_or-drop a text k 0

pub part_none : (text : List ℕ) (a b : ℕ) → b ≤ a → part text a b ≡ []
part_none text a b h = let e : b - a ≡ 0 = omega (arith, h) in rw e

-- the prefix of a part, and what is left behind it
pub part_take : (text : List ℕ) (a b n : ℕ) → n ≤ b - a → take n (part text a b) ≡ part text a (a + n)
part_take text a b n h = let e : a + n - a ≡ n = omega arith in take-take n (b - a) (drop a text) h ∙ ap (λ k. take k (drop a text)) (sym e)

pub part_drop : (text : List ℕ) (a b n : ℕ) → drop n (part text a b) ≡ part text (a + n) b
part_drop text a b n = let e : b - a - n ≡ b - (a + n) = omega arith in drop_take n (b - a) (drop a text) ∙ rw (drop-drop n a text, e)

-- a part of a prefix of the text
pub part_of_take : (text : List ℕ) (t a b : ℕ) → b ≤ t → part (take t text) a b ≡ part text a b
part_of_take text t a b h = rw (drop_take a t text) (take-take (b - a) (t - a) (drop a text) (omega (arith, h)))

-- texts that agree from a to b have the same part there
pub same_part : (text text' : List ℕ) (a b : ℕ) → length text' ≡ length text → ((q : ℕ) → a ≤ q → q < b → get_or text' q 0 ≡ get_or text q 0)
    → part text' a b ≡ part text a b
same_part text text' a b e f =
    let l : length (part text' a b) ≡ length (part text a b) = simp (length-take, length-drop) (rw e) in
    ext_get_or 0 (part text' a b) (part text a b) l
    (λ k h.
    let g : k < b - a = omega (arith, length-take (b - a) (drop a text')) in
    part_at text' a b k g ∙ f (a + k) (omega arith) (omega arith) ∙ sym (part_at text a b k g))
