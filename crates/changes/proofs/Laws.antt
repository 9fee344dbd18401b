-- A law for each way that the functions can go which make the parts of a plan.
use Prim.Native.Nat.{ℕ, ◌+◌, ◌-◌, ◌≤◌}
use mathlib.Core.Bool.{Bool, true, false}
use mathlib.Core.List.{List}
use mathlib.Core.Path.{◌≡◌, refl}
use native.Mathlib.Omega.{arith}
use borrow.Author.Rules.{rules}
use lib.ListN.{length, drop}
use Rattle.words.specs.Words.{Word, is_prefix, part}
use Rattle.layout.specs.Layout.{Span}
use Rattle.changes.specs.declared.Change.{Change}
use Rattle.asked.specs.declared.Round.TheVariants.{Next}
use Rattle.sites.specs.declared.Site.{Site}
use Rattle.changes.specs.Asked.{TailHas}
use Rattle.changes.specs.Changes.{cut_by, tail_by, put_both, mark_after, plan6, plan7, rest_at, plan8}
use Rattle.sites.proofs.Laws.{tail_after}

-- changes by their numbers
pub cut_made : (m : ℕ) → record { from = 0; to = 0; cut = m } ≡ cut_by m
unfolding cut_by
cut_made m = refl

pub tail_made : (s : Site) (m : ℕ) → record { from = s.tail; to = s.stop; cut = m } ≡ tail_by s m
unfolding tail_by
tail_made s m = refl

pub ruleset changes_made = (cut_made, tail_made, rules)

-- plans by their changes
module _ (c d : Change) where
  pub made8 : (s t : Site) (l k : ℕ) → c ≡ cut_by (s.stop - l - s.start) → d ≡ cut_by (t.stop - l - t.start)
      → Next (record { u = c; v = d; mark = record { from = s.stop - l; to = s.stop; cut = k } }) ≡ plan8 s t l k
  unfolding plan8
  made8 s t l k e f = rw (e, f)

  module _ (a : Change) where
    pub made4 : (m : ℕ) (z : Site) (l k : ℕ) → c ≡ tail_by z m → d ≡ tail_by z l → a ≡ cut_by k → Next (record { u = c; v = d; mark = a }) ≡ put_both m z l k
    unfolding put_both
    made4 m z l k e f g = rw (e, f, g)

    pub made6 : (s t : Site) (k : ℕ) → c ≡ cut_by (s.tail - s.start) → d ≡ tail_by s (t.stop - t.start) → a ≡ cut_by k → Next (record { u = c; v = d; mark = a }) ≡ plan6 s t k
    unfolding plan6
    made6 s t k e f g = rw (e, f, g)

    pub made7 : (s t : Site) (k : ℕ) → c ≡ tail_by t (s.stop - s.start) → d ≡ cut_by (t.tail - t.start) → a ≡ cut_by k → Next (record { u = c; v = d; mark = a }) ≡ plan7 s t k
    unfolding plan7
    made7 s t k e f g = rw (e, f, g)

-- what a sum leaves
pub sum_low : (a l b : ℕ) → a + l ≤ b → l ≤ b
sum_low a l b h = omega arith

pub sum_far : (a l b : ℕ) → a + l ≤ b → a ≤ b - l
sum_far a l b h = omega arith

pub ruleset mades = (made4, made6, made7, made8, sum_low, sum_far, tail_after, rules)

-- row 5
module _ (text : List ℕ) (s : Site) (p : Word) (x : Bool) (e : x ≡ is_prefix p (part text s.start s.middle)) (c : Change) where
  pub after_cleared : x ≡ true → c ≡ cut_by (length p) → c ≡ mark_after text s p
  unfolding mark_after
  after_cleared h f = rw (← e, h) f

  pub after_tail : x ≡ false → c ≡ tail_by s (length p) → c ≡ mark_after text s p
  unfolding mark_after
  after_tail h f = rw (← e, h) f

pub ruleset afters = (after_cleared, after_tail, rules)

-- row 8
module _ (text : List ℕ) (s : Site) (l : ℕ) (h : TailHas text s l) where
  pub headed_span : Span text s.tail (s.stop - l)
  headed_span = let a = h.lies in let b = h.site.third in let c = h.site.inside in record { upwards = omega arith; inside = omega arith }

  pub headed_low : l ≤ s.stop
  headed_low = let a = h.lies in omega arith

  pub headed_tail : s.start ≤ s.tail
  headed_tail = tail_after text s h.site

  pub headed_rest : (w : Word) (r : Bool) → r ≡ is_prefix (part text s.tail (s.stop - l)) (drop (s.tail - s.start) w) → r ≡ rest_at text s l w
  unfolding rest_at
  headed_rest w r e = e

pub ruleset rests = (headed_span, headed_low, headed_tail, headed_rest, rules)
