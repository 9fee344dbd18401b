-- A law for each way that the functions of the rows can go.
use Prim.Native.Nat.{ℕ, suc, ◌+◌, ◌-◌, ◌≤◌, ◌<◌, min}
use mathlib.Core.Bool.{Bool, true, false}
use mathlib.Core.List.{List, [], ◌∷◌, ◌++◌}
use mathlib.Core.Path.{◌≡◌, refl, sym, ap, ◌∙◌}
use native.Mathlib.Omega.{arith}
use borrow.Author.Rules.{rules}
use borrow.Author.Tests.{eq-eqb, ne_eqb}
use lib.Dec.{eqb}
use lib.ListN.{length, get_or, drop, length-append}
use Rattle.words.specs.Words.{Word, is_empty}
use Rattle.words.proofs.Lists.{drop_past}
use Rattle.overlap.proofs.Facts.{rigid_of_c4}
use Rattle.overlap.specs.Cuts.{z_of}
use Rattle.congruence.specs.Rows.{has_relation_prefix_between, active, tail_member}
use Rattle.congruence.proofs.ShapeRows.{tail_member_there}
use Rattle.layout.specs.Places.{end_cell}
use Rattle.layout.specs.Layout.{words_in, Checked}
use Rattle.layout.specs.Families.{family_by}
use Rattle.layout.proofs.Placed.{words_length}
use Rattle.sites.specs.declared.Site.{Site}
use Rattle.sites.specs.Sites.{site_of}
use Rattle.sites.proofs.Sites.{Lies}
use Rattle.kin.specs.Asked.{IdleRest}
use Rattle.kin.proofs.Laws.{grouped_room, grouped_lies}
use Rattle.changes.specs.declared.Change.{Change}
use Rattle.changes.specs.declared.Changes.{Changes}
use Rattle.asked.specs.declared.Round.{Round}
use Rattle.asked.specs.declared.Round.TheVariants.{End, Next}
use Rattle.changes.specs.Asked.{TailHas, SitesHave}
use Rattle.changes.specs.Changes.{cut_by, put_both, mark_after, rest_at, plan8}
use Rattle.plans.specs.Asked.{BothNonEmpty, WholeWords, TailsHave}
use Rattle.plans.specs.RowPlans.{plan1, drop_one, mark_drop, letter_drop, plan2, plan4, plan5, plan8_of}
use Rattle.sites.proofs.Laws.{tail_after}
use Rattle.plans.proofs.Carried.{active_between}
use Rattle.joined.proofs.Laws.{empty_right}

-- plans by their changes
module _ (c d : Change) where
  pub made2 : (m : ℕ) → c ≡ cut_by 1 → d ≡ cut_by m → Next (record { u = c; v = c; mark = d }) ≡ drop_one m
  unfolding drop_one
  made2 m e f = rw (e, f)

  pub made5 : (text : List ℕ) (s : Site) (p : Word) → d ≡ mark_after text s p → c ≡ cut_by (s.tail - s.start) → Next (record { u = c; v = c; mark = d }) ≡ plan5 text s p
  unfolding plan5
  made5 text s p e f = rw (e, f)

pub ruleset mades = (made2, made5, tail_after, rules)

-- row 1
module _ (u v p : Word) (x : Bool) (e : x ≡ is_empty u) where
  pub finish_u : x ≡ false → End false ≡ plan1 u v p
  unfolding plan1
  finish_u h = rw (← e, h)

  module _ (h : x ≡ true) (y : Bool) (f : y ≡ is_empty v) where
    pub finish_v : y ≡ false → End false ≡ plan1 u v p
    unfolding plan1
    finish_v k = rw (← e, h, ← f, k)

    pub finish_p : y ≡ true → End (eqb (length p) 0) ≡ plan1 u v p
    unfolding plan1
    finish_p k = rw (← e, h, ← f, k) (ap End (empty_right [] p (omega arith)))

pub ruleset finishes = (finish_u, finish_v, finish_p, rules)

-- row 2
pub mark_none : (x : ℕ) (p : Word) (r : Round Changes) → length p ≡ 0 → r ≡ drop_one 0 → r ≡ mark_drop x p
unfolding mark_drop
mark_none x [] r h e = e
mark_none x (y ∷ p) r h e = absurd (omega arith)

pub mark_there : (p : Word) → (length p ≡ 0 → ⊥) → 0 < length p
mark_there p h = omega arith

pub mark_like : (x : ℕ) (p : Word) → (length p ≡ 0 → ⊥) → get_or p 0 0 ≡ x → (r : Round Changes) → r ≡ drop_one 1 → r ≡ mark_drop x p
unfolding mark_drop
mark_like x [] h k r e = absurd (h refl)
mark_like x (y ∷ p) h k r e = let q : min 1 (suc (length p)) ≡ 1 = omega arith in rw (eq-eqb y x k, q) e

pub mark_unlike : (x : ℕ) (p : Word) → (length p ≡ 0 → ⊥) → (get_or p 0 0 ≡ x → ⊥) → End false ≡ mark_drop x p
unfolding mark_drop
mark_unlike x [] h k = absurd (h refl)
mark_unlike x (y ∷ p) h k = rw (ne_eqb y x k)

pub ruleset mark_drops = (mark_none, mark_there, mark_like, mark_unlike, rules)

pub drop_unlike : (x y : ℕ) (p : Word) → (x ≡ y → ⊥) → End false ≡ letter_drop x y p
unfolding letter_drop
drop_unlike x y p d = rw (ne_eqb x y d)

pub drop_like : (x y : ℕ) (p : Word) → x ≡ y → (r : Round Changes) → r ≡ mark_drop x p → r ≡ letter_drop x y p
unfolding letter_drop
drop_like x y p d r h = rw (eq-eqb x y d) h

pub ruleset alike_drops = (drop_unlike, drop_like, rules)

pub drop_letters : (u v p : Word) (x y : ℕ) → x ≡ get_or u 0 0 → y ≡ get_or v 0 0 → (r : Round Changes) → r ≡ letter_drop x y p → r ≡ plan2 u v p
unfolding plan2
drop_letters u v p x y e f r h = rw (← e, ← f) h

pub some_left : (a b v : Word) → BothNonEmpty (a ++ b) v → 0 < length a + length b
some_left a b v h = let s = h.some_u in let l = length-append a b in omega arith

pub some_right : (u a b : Word) → BothNonEmpty u (a ++ b) → 0 < length a + length b
some_right u a b h = let s = h.some_v in let l = length-append a b in omega arith

pub ruleset letter_drops = (drop_letters, some_left, some_right, rules)

-- row 4
module _ (text table : List ℕ) (n i : ℕ) (s t : Site) (ua ub : Word) (h : WholeWords text table n i s t ua ub) where
  lies_whole : Lies text (words_in text table n) i s
  lies_whole = grouped_lies text table n i h.known s h.at

  pub whole_checked : Checked text table n
  whole_checked = h.known.grouped.checked

  pub whole_own : s.start ≤ s.stop
  whole_own = h.own

  pub whole_tail : s.start ≤ s.tail
  whole_tail = let l = lies_whole in let a = l.first in let b = l.second in omega arith

  pub whole_member : t.start ≤ t.stop
  whole_member = h.member

  pub whole_past : length ua ≤ s.stop - s.start
  whole_past = h.past

  -- what is left of u behind the relation word is in the second slice
  rest_is : drop (s.stop - s.start) (ua ++ ub) ≡ drop (s.stop - s.start - length ua) ub
  rest_is = drop_past ua ub (s.stop - s.start) h.past

  module _ (x : Bool) (ex : x ≡ has_relation_prefix_between (words_in text table n) (ua ++ ub) (s.tail - s.start) (s.stop - s.start)) where
    -- active for the own tail, by the places of u
    active_own : x ≡ active (words_in text table n) (z_of (words_in text table n) i) (drop (s.stop - s.start) (ua ++ ub))
    active_own = ex ∙ sym (active_between text (words_in text table n) i s lies_whole (ua ++ ub) h.begins)

    pub replace_own : x ≡ true → (k : ℕ) (r : Round Changes) → r ≡ put_both (s.stop - s.start) s (t.stop - t.start) k
        → r ≡ plan4 s t (site_of table (tail_member (words_in text table n) (family_by table n) i (drop (s.stop - s.start) (ua ++ ub)))) k
    unfolding plan4 tail_member
    replace_own q k r f = f ∙ rw (← active_own, q, ← h.at)

    module _ (q : x ≡ false) where
      pub whole_rest : IdleRest text table n ub i (s.stop - s.start - length ua)
      whole_rest = record { rest = record { word = h.known; within = h.within }; idle = rw rest_is at (sym active_own ∙ q) }

      module _ (j : ℕ) (e : j ≡ tail_member (words_in text table n) (family_by table n) i (drop (s.stop - s.start - length ua) ub)) where
        pub tail_room : end_cell j < length table
        tail_room =
            let B = words_in text table n in
            let b = words_length text table n in
            let t = h.known.there in
            let a = tail_member_there B (rigid_of_c4 B h.known.grouped.checked.accepted) (family_by table n) i (drop (s.stop - s.start - length ua) ub) (omega (arith, b, t)) in
            grouped_room text table n j (record { grouped = h.known.grouped; there = omega (arith, a, b, e) })

        pub replace_made : (z : Site) → z ≡ site_of table j → (k : ℕ) (r : Round Changes) → r ≡ put_both (s.stop - s.start) z (t.stop - t.start) k
            → r ≡ plan4 s t (site_of table (tail_member (words_in text table n) (family_by table n) i (drop (s.stop - s.start) (ua ++ ub)))) k
        unfolding plan4
        replace_made z ez k r f = rw (rest_is, ← e, ← ez) f

pub ruleset replacements = (whole_checked, whole_own, whole_tail, whole_member, whole_past, replace_own, whole_rest, tail_room, replace_made, rules)

-- row 8
module _ (text : List ℕ) (s t : Site) (l : ℕ) (h : TailsHave text s t l) where
  pub shared_own : TailHas text s l
  shared_own = h.own

  pub shared_other : TailHas text t l
  shared_other = h.other

  pub shared_ends : SitesHave s t l
  shared_ends =
      let a = h.own.lies in
      let b = h.other.lies in
      let c = tail_after text s h.own.site in
      let d = tail_after text t h.other.site in
      let e = h.own.site.third in
      let f = h.other.site.third in
      record { own = omega arith; other = omega arith }

module _ (text : List ℕ) (s t : Site) (l : ℕ) (u v p : Word) (x : Bool) (e : x ≡ rest_at text s l u) where
  pub common_u : x ≡ false → End false ≡ plan8_of text s t l u v p
  unfolding plan8_of
  common_u h = rw (← e, h)

  module _ (h : x ≡ true) (y : Bool) (f : y ≡ rest_at text t l v) where
    pub common_v : y ≡ false → End false ≡ plan8_of text s t l u v p
    unfolding plan8_of
    common_v k = rw (← e, h, ← f, k)

    pub common_both : y ≡ true → (r : Round Changes) → r ≡ plan8 s t l (length p) → r ≡ plan8_of text s t l u v p
    unfolding plan8_of
    common_both k r g = rw (← e, h, ← f, k) g

pub ruleset commons = (shared_own, shared_other, shared_ends, common_u, common_v, common_both, rules)
