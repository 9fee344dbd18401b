-- Laws of `written` and `over`: their length, their elements, two writings behind each other, one element.
use Prim.Native.Nat.{ℕ, ◌+◌, ◌-◌, ◌≤◌, ◌<◌}
use mathlib.Core.List.{List, [], ◌∷◌, ◌++◌, append_assoc}
use mathlib.Core.Path.{◌≡◌, refl, sym, ap, ◌∙◌}
use native.Mathlib.Omega.{arith}
use native.Mathlib.Numerals.{add-one}
use native.Mathlib.Nat.{add_assoc}
use lib.ListN.{length, get_or, take, drop, set, length-append, length-drop, get_or-append}
use lib.Seq.{length-take-le, get_or-take, get_or-append-add, get_or-drop, take_at, drop_at, drop-drop, drop-append-add, take-append_seam, set_split, paste, take-length}
use Rattle.writing.specs.Writing.{Bytes}
use Rattle.words.specs.Writing.{written, over}

-- place 0 is the start
pub written_zero : (s d : List ℕ) → written 0 s d ≡ over s d
unfolding written
written_zero s d = let z : 0 + length s ≡ length s = omega arith in rw z

-- what is written at the start can be read there
pub written_taken : (s d b : List ℕ) → b ≡ written 0 s d → take (length s) b ≡ s
written_taken s d b e = ap (take (length s)) (e ∙ written_zero s d) ∙ take-append_seam s (drop (length s) d)

-- what is written over the start of a list, and what stands behind it
pub over_prefix : (out buffer : List ℕ) (j : ℕ) → j < length out → get_or (over out buffer) j 0 ≡ get_or out j 0
over_prefix out buffer j h = get_or-append out (drop (length out) buffer) 0 j h

pub over_behind : (out buffer : List ℕ) (j : ℕ) → length out ≤ j → get_or (over out buffer) j 0 ≡ get_or buffer j 0
over_behind out buffer j h =
    let e : j ≡ length out + (j - length out) = omega arith in
    ap (λ (m : ℕ). get_or (over out buffer) m 0) e ∙ get_or-append-add out (drop (length out) buffer) (j - length out) 0 ∙ get_or-drop (length out) buffer (j - length out) 0
    ∙ ap (λ (m : ℕ). get_or buffer m 0) (sym e)

module _ (at : ℕ) (s d : List ℕ) (h : at + length s ≤ length d) where
  head_long : length (take at d) ≡ at
  head_long = length-take-le at d (omega arith)

  pub written_length : length (written at s d) ≡ length d
  unfolding written
  written_length =
      let a = head_long in
      let b = length-append (take at d) (s ++ drop (at + length s) d) in
      let c = length-append s (drop (at + length s) d) in
      let e = length-drop (at + length s) d in
      omega arith

  pub written_before : (q : ℕ) → q < at → get_or (written at s d) q 0 ≡ get_or d q 0
  unfolding written
  written_before q l =
      let a = head_long in
      get_or-append (take at d) (s ++ drop (at + length s) d) 0 q (omega arith) ∙ get_or-take at d q 0 l

  pub written_in : (k : ℕ) → k < length s → get_or (written at s d) (at + k) 0 ≡ get_or s k 0
  unfolding written
  written_in k l =
      ap (λ (n : ℕ). get_or (take at d ++ (s ++ drop (at + length s) d)) (n + k) 0) (sym head_long)
      ∙ get_or-append-add (take at d) (s ++ drop (at + length s) d) k 0
      ∙ get_or-append s (drop (at + length s) d) 0 k l

  -- the part from `at` on is s
  pub written_there : take (length s) (drop at (written at s d)) ≡ s
  unfolding written
  written_there = rw (drop_at (take at d) (s ++ drop (at + length s) d) at head_long) (take_at s (drop (at + length s) d) (length s) refl)

pub over_kept : (out buffer : List ℕ) → length out ≤ length buffer → length (over out buffer) ≡ length buffer
over_kept out buffer h = ap length (sym (written_zero out buffer)) ∙ written_length 0 out buffer (omega arith)

-- a writing and another behind it are one
pub written_behind : (at : ℕ) (s t d : List ℕ) (n : ℕ) → n ≡ at + length s → at + length s ≤ length d → written n t (written at s d) ≡ written at (s ++ t) d
unfolding written
written_behind at s t d n e h =
    let a = head_long at s d h in
    let l : length (take at d ++ s) ≡ at + length s = length-append (take at d) s ∙ rw a in
    let w : take at d ++ (s ++ drop (at + length s) d) ≡ (take at d ++ s) ++ drop (at + length s) d = sym (append_assoc (take at d) s (drop (at + length s) d)) in
    let m : n ≡ length (take at d ++ s) = omega arith in
    let front : take n ((take at d ++ s) ++ drop (at + length s) d) ≡ take at d ++ s = take_at (take at d ++ s) (drop (at + length s) d) n (sym m) in
    let k : n + length t ≡ length (take at d ++ s) + length t = omega arith in
    let back : drop (n + length t) ((take at d ++ s) ++ drop (at + length s) d) ≡ drop (at + length (s ++ t)) d =
    rw (k, drop-append-add, drop-drop, length-append s t, add_assoc) in
    rw (w, front, back) (simp append_assoc)

-- one element is written by a store
pub written_one : (at : ℕ) (x : ℕ) (d : List ℕ) → at < length d → set d at x ≡ written at (x ∷ []) d
unfolding written
written_one at x d h = rw (set_split d at x h, add-one)

-- what a loop has written after its last turn
pub pasted : (at : ℕ) (s d : List ℕ) → paste d at s (length s) ≡ written at s d
unfolding written
pasted at s d = rw take-length (append_assoc (take at d) s (drop (at + length s) d))

-- parts of what fits in bytes
pub bytes_drop : (s : List ℕ) (n : ℕ) → Bytes s → Bytes (drop n s)
bytes_drop s n b = record { at = λ k h. rw (get_or-drop n s k 0) (b.at (n + k) (omega (arith, length-drop n s))) }

pub bytes_take : (s : List ℕ) (n : ℕ) → n ≤ length s → Bytes s → Bytes (take n s)
bytes_take s n l b =
    let e = length-take-le n s l in
    record { at = λ k h. rw (get_or-take n s k 0 (omega arith)) (b.at k (omega arith)) }
