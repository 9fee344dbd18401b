-- The plan of each row, by sites, makes the next words of that row where it fits first, and its changes fit.
use Prim.Native.Nat.{ℕ, suc, ◌+◌, ◌-◌, ◌≤◌, min}
use mathlib.Core.Bool.{Bool, true, false, cond, ◌&&◌, ◌||◌, and-eq-true_iff}
use mathlib.Core.List.{List, [], ◌∷◌, ◌++◌, append-nil}
use mathlib.Core.Path.{◌≡◌, refl, sym, ap, ◌∙◌}
use native.Mathlib.Omega.{arith}
use lib.ListN.{length, take, drop, length-drop}
use lib.Seq.{length-take-le, drop-length, drop-drop, drop-append-le}
use Rattle.words.specs.Words.{Word, is_empty, is_prefix, common_suffix, part}
use Rattle.words.proofs.Prefixes.{prefix_length, prefix_split}
use Rattle.words.proofs.Tests.{cond_both}
use Rattle.words.proofs.Parts.{part_length, part_take, part_drop}
use Rattle.overlap.specs.Pieces.{word}
use Rattle.overlap.specs.Cuts.{len, xylen, x_of, xy_of, z_of}
use Rattle.congruence.specs.Rows.{choose, alike, has_relation_prefix_between, active, tail_member, row2, row4, row5, row6, row7, row8}
use Rattle.congruence.specs.Rows.Next.{end, go}
use Rattle.overlap.proofs.Facts.{length_xy}
use Rattle.words.proofs.CommonSuffixes.{suffix_within}
use Rattle.congruence.proofs.RowTests.{prefix_of_clean}
use Rattle.congruence.proofs.FirstRow.{Fits, xy_of_whole}
use Rattle.congruence.proofs.FirstRow.Fits.{fits2, fits4, fits5, fits6, fits7, fits8}
use Rattle.asked.specs.declared.Round.TheVariants.{End}
use Rattle.sites.specs.declared.Site.{Site}
use Rattle.plans.specs.Plans.{applied, planned, Fit, MarkFit, Carries}
use Rattle.plans.specs.Plans.PlanFit.{ends, goes}
use Rattle.changes.specs.Changes.{cut_by, tail_by, put_both, mark_after, plan6, plan7, plan8, rest_at, shared_suffix}
use Rattle.plans.specs.RowPlans.{drop_one, mark_drop, letter_drop, plan2, plan4, plan5, plan8_of}
use Rattle.sites.proofs.Sites.{Lies}
use Rattle.sites.proofs.CleanPrefixes.{between_drop}

-- changes that fit
pub cut_fits : (text : List ℕ) (B : List Word) (w : Word) (m : ℕ) → m ≤ length w → Fit text B w (cut_by m)
unfolding cut_by
cut_fits text B w m h = record { up = omega arith; inside = omega arith; short = omega arith; within = h; tailed = λ l. absurd (omega arith) }

pub cut_mark : (text : List ℕ) (B : List Word) (p : Word) (m : ℕ) → m ≤ length p → MarkFit text B p (cut_by m)
unfolding cut_by
cut_mark text B p m h = record { up = omega arith; inside = omega arith; short = omega arith; within = h; whole = λ l. absurd (omega arith) }

pub cut_applied : (text : List ℕ) (m : ℕ) (w : Word) → applied text (cut_by m) w ≡ drop m w
unfolding cut_by
cut_applied text m w = refl

-- the lengths of the parts of a relation word
module _ (text : List ℕ) (B : List Word) (i : ℕ) (s : Site) (l : Lies text B i s) where
  z_length : length (z_of B i) ≡ s.stop - s.tail
  z_length = ap length l.z ∙ part_length text s.tail s.stop l.inside

  -- behind XY of a word that begins with the relation word stands its Z and what follows the relation word
  rest_of_whole : (w : Word) → is_prefix (word B i) w ≡ true → z_of B i ++ drop (len B i) w ≡ drop (xylen B i) w
  rest_of_whole w e =
      let b = l.long in
      let d = l.long_xy in
      let t = l.third in
      sym (drop-append-le (xylen B i) (word B i) (drop (len B i) w) (omega arith)) ∙ ap (drop (xylen B i)) (prefix_split (word B i) w e)

  -- what follows the relation word is active for its Z where an XY stands in the word at a place of that Z
  pub active_between : (w : Word) → is_prefix (word B i) w ≡ true
      → active B (z_of B i) (drop (s.stop - s.start) w) ≡ has_relation_prefix_between B w (s.tail - s.start) (s.stop - s.start)
  unfolding active
  active_between w e =
      let a = l.first in
      let b = l.second in
      let c = l.third in
      let d = l.long_xy in
      let z = z_length in
      let m : xylen B i + length (z_of B i) ≡ s.stop - s.start = omega arith in
      ap (λ k. has_relation_prefix_between B (z_of B i ++ drop k w) 0 (length (z_of B i))) (sym l.long)
      ∙ ap (λ x. has_relation_prefix_between B x 0 (length (z_of B i))) (rest_of_whole w e) ∙ between_drop B w (xylen B i) (length (z_of B i))
      ∙ ap (λ k. has_relation_prefix_between B w k (xylen B i + length (z_of B i))) d ∙ ap (has_relation_prefix_between B w (s.tail - s.start)) m

  -- a word that begins with XY, or with all of the relation word, is as long
  xy_within : (w : Word) → is_prefix (xy_of B i) w ≡ true → s.tail - s.start ≤ length w
  xy_within w e = let f = prefix_length (xy_of B i) w e in let g = length_xy B i in let d = l.long_xy in omega arith

  pub whole_within : (w : Word) → is_prefix (word B i) w ≡ true → s.stop - s.start ≤ length w
  whole_within w e = let f = prefix_length (word B i) w e in let d = l.long in omega arith

  tail_mark : (p : Word) → MarkFit text B p (tail_by s (length p))
  unfolding tail_by
  tail_mark p = record { up = l.third; inside = l.inside; short = let f = l.first in let g = l.second in let h = l.short in omega arith; within = omega arith; whole = λ h. refl }

  tail_applied : (m : ℕ) (w : Word) → applied text (tail_by s m) w ≡ z_of B i ++ drop m w
  unfolding tail_by
  tail_applied m w = rw l.z

  -- the Z of i in the place of letters that begin with the X and Y of k
  tail_fits : (k : ℕ) (t : Site) → Lies text B k t → (w : Word) (m : ℕ) → is_prefix (xy_of B k) w ≡ true → t.tail - t.start ≤ m → m ≤ length w
      → Fit text B w (tail_by s m)
  unfolding tail_by
  tail_fits k t lk w m e h q =
      let f = l.first in
      let g = l.second in
      let b = l.short in
      record {
        up = l.third;
        inside = l.inside;
        short = omega arith;
        within = q;
        tailed = λ _. record { of = i; known = l.known; tail = sym l.z; by = k; there = lk.known; prefix = e; taken = let d = lk.long_xy in omega arith };
      }

pub go_same : {u v p u' v' p' : Word} → u ≡ u' → v ≡ v' → p ≡ p' → go u v p ≡ go u' v' p'
go_same a b c = cc

module _ (text : List ℕ) (B : List Word) (i j : ℕ) (s t : Site) (li : Lies text B i s) (lj : Lies text B j t) (u v p : Word) where
  -- what is cut, by the words and by positions
  cut_xy : (w : Word) → applied text (cut_by (s.tail - s.start)) w ≡ drop (xylen B i) w
  cut_xy w = cut_applied text _ w ∙ ap (λ m. drop m w) (sym li.long_xy)

  cut_mark_all : applied text (cut_by (length p)) p ≡ []
  cut_mark_all = cut_applied text _ p ∙ drop-length p

  tail_mark_all : applied text (tail_by s (length p)) p ≡ z_of B i
  tail_mark_all = tail_applied text B i s li (length p) p ∙ ap (z_of B i ++◌) (drop-length p) ∙ append-nil (z_of B i)

  tail_whole : (w : Word) → applied text (tail_by s (t.stop - t.start)) w ≡ z_of B i ++ drop (len B j) w
  tail_whole w = tail_applied text B i s li _ w ∙ ap (λ m. z_of B i ++ drop m w) (sym lj.long)

module _ (text : List ℕ) (B : List Word) (i j : ℕ) (s t : Site) (li : Lies text B i s) (lj : Lies text B j t) (family : ℕ → ℕ) (u v p : Word) where
  -- row 5
  pub carried5 : Fits B family i j u v p 5 → Carries text B u v p (plan5 text s p) (row5 B i j u v p)
  unfolding plan5 mark_after planned row5
  carried5 (fits5 c k o f w) = mark (is_prefix p (part text s.start s.middle)) refl
    where
      e : is_prefix (xy_of B i) u ≡ true
      e = prefix_of_clean B u i c.clean

      mark : (m : Bool) → is_prefix p (part text s.start s.middle) ≡ m
          → Carries text B u v p (plan5 text s p) (go (drop (xylen B i) u) (drop (xylen B i) v) (choose (is_prefix p (x_of B i)) (λ _. []) (λ _. z_of B i)))
      mark true q =
          rw (li.x, q)
          (record {
            same = go_same (cut_xy text B i j s t li lj u v p u) (cut_xy text B i j s t li lj u v p v) (cut_mark_all text B i j s t li lj u v p);
            fits = goes (cut_fits text B u _ (xy_within text B i s li u e)) (cut_fits text B v _ (xy_within text B i s li v f)) (cut_mark text B p (length p) (omega arith));
          })
      mark false q =
          rw (li.x, q)
          (record {
            same = go_same (cut_xy text B i j s t li lj u v p u) (cut_xy text B i j s t li lj u v p v) (tail_mark_all text B i j s t li lj u v p);
            fits = goes (cut_fits text B u _ (xy_within text B i s li u e)) (cut_fits text B v _ (xy_within text B i s li v f)) (tail_mark text B i s li p);
          })

  -- row 6
  pub carried6 : Fits B family i j u v p 6 → Carries text B u v p (plan6 s t (length p)) (row6 B i j u v p)
  unfolding plan6 planned row6
  carried6 (fits6 c m o a z f) =
      let e = prefix_of_clean B u i c.clean in
      record {
        same = go_same (cut_xy text B i j s t li lj u v p u) (tail_whole text B i j s t li lj u v p v) (cut_mark_all text B i j s t li lj u v p);
        fits =
            goes (cut_fits text B u _ (xy_within text B i s li u e))
            (tail_fits text B i s li j t lj v _ (xy_of_whole B j v f) (let a = lj.third in omega arith) (whole_within text B j t lj v f))
            (cut_mark text B p (length p) (omega arith));
      }

  -- row 7
  pub carried7 : Fits B family i j u v p 7 → Carries text B u v p (plan7 s t (length p)) (row7 B i j u v p)
  unfolding plan7 planned row7
  carried7 (fits7 c m o a e z) =
      record {
        same = go_same (tail_whole text B j i t s lj li u v p u) (cut_xy text B j i t s lj li u v p v) (cut_mark_all text B i j s t li lj u v p);
        fits =
            goes
            (tail_fits text B j t lj i s li u _ (xy_of_whole B i u e) (let a = li.third in omega arith) (whole_within text B i s li u e))
            (cut_fits text B v _ (xy_within text B j t lj v o.begins))
            (cut_mark text B p (length p) (omega arith));
      }

  -- row 4, with the Z of relation word k, which lies at z
  pub carried4 : (k : ℕ) (z : Site) → Lies text B k z → k ≡ tail_member B family i (drop (len B i) u) → Fits B family i j u v p 4
      → Carries text B u v p (plan4 s t z (length p)) (row4 B family i j u v)
  unfolding plan4 put_both planned row4
  carried4 k z lk q (fits4 c m o e f) =
      rw (← q)
      (record {
        same = go_same (tail_whole text B k i z s lk li u v p u) (tail_whole text B k j z t lk lj u v p v) (cut_mark_all text B i j s t li lj u v p);
        fits =
            goes
            (tail_fits text B k z lk i s li u _ (xy_of_whole B i u e) (let a = li.third in omega arith) (whole_within text B i s li u e))
            (tail_fits text B k z lk j t lj v _ (xy_of_whole B j v f) (let a = lj.third in omega arith) (whole_within text B j t lj v f))
            (cut_mark text B p (length p) (omega arith));
      })

sum_within : (a b c w : ℕ) → a ≤ w → b ≤ w - a → c ≡ a + b → c ≤ w
sum_within a b c w h k e = omega arith

-- Z without its last l letters
module _ (text : List ℕ) (B : List Word) (i : ℕ) (s : Site) (li : Lies text B i s) (l : ℕ) (h : l ≤ length (z_of B i)) where
  abbrev head : Word
  head = take (length (z_of B i) - l) (z_of B i)

  head_length : length head ≡ s.stop - l - s.tail
  head_length =
      let z = z_length text B i s li in
      let a = length-take-le (length (z_of B i) - l) (z_of B i) (omega arith) in
      omega arith

  head_part : head ≡ part text s.tail (s.stop - l)
  head_part =
      let z = z_length text B i s li in
      let c = li.third in
      let m : s.tail + (s.stop - s.tail - l) ≡ s.stop - l = omega arith in
      ap (λ k. take (k - l) (z_of B i)) z ∙ ap (take (s.stop - s.tail - l)) li.z ∙ part_take text s.tail s.stop (s.stop - s.tail - l) (omega arith) ∙ ap (part text s.tail) m

  head_rest : drop (length head) (z_of B i) ≡ part text (s.stop - l) s.stop
  head_rest =
      let z = z_length text B i s li in
      let c = li.third in
      let b = head_length in
      let m : s.tail + (s.stop - l - s.tail) ≡ s.stop - l = omega arith in
      ap (λ k. drop k (z_of B i)) b ∙ ap (drop (s.stop - l - s.tail)) li.z ∙ part_drop text s.tail s.stop (s.stop - l - s.tail) ∙ ap (λ k. part text k s.stop) m

  head_test : (w : Word) → rest_at text s l w ≡ is_prefix head (drop (xylen B i) w)
  unfolding rest_at
  head_test w = ap (λ k. is_prefix (part text s.tail (s.stop - l)) (drop k w)) (sym li.long_xy) ∙ ap (λ k. is_prefix k (drop (xylen B i) w)) (sym head_part)

  head_end : s.stop - l - s.start ≡ xylen B i + length head
  head_end =
      let z = z_length text B i s li in
      let a = li.first in
      let b = li.second in
      let c = li.third in
      let d = li.long_xy in
      let e = head_length in
      omega arith

  head_cut : (w : Word) → applied text (cut_by (s.stop - l - s.start)) w ≡ drop (length head) (drop (xylen B i) w)
  head_cut w = cut_applied text _ w ∙ ap (λ k. drop k w) head_end ∙ sym (drop-drop (length head) (xylen B i) w)

  head_fits : (w : Word) → is_prefix (xy_of B i) w ≡ true → is_prefix head (drop (xylen B i) w) ≡ true → Fit text B w (cut_by (s.stop - l - s.start))
  head_fits w e f =
      cut_fits text B w _
      (sum_within (xylen B i) (length head) (s.stop - l - s.start) (length w) (rw li.long_xy (xy_within text B i s li w e))
      (rw (← length-drop (xylen B i) w) (prefix_length head (drop (xylen B i) w) f)) head_end)

  head_mark : (p : Word) → MarkFit text B p (record { from = s.stop - l; to = s.stop; cut = length p })
  head_mark p =
      let z = z_length text B i s li in
      let a = li.first in
      let b = li.second in
      let c = li.third in
      let d = li.short in
      record { up = omega arith; inside = li.inside; short = omega arith; within = omega arith; whole = λ _. refl }

module _ (text : List ℕ) (B : List Word) (i j : ℕ) (s t : Site) (li : Lies text B i s) (lj : Lies text B j t) (family : ℕ → ℕ) (u v p : Word) where
  shared_end : shared_suffix text s t ≡ common_suffix (z_of B i) (z_of B j)
  unfolding shared_suffix
  shared_end = rw (li.z, lj.z)

  abbrev both8 : Bool
  both8 =
      is_prefix (head text B i s li (common_suffix (z_of B i) (z_of B j)) (suffix_within (z_of B i) (z_of B j)).0) (drop (xylen B i) u)
      && is_prefix (head text B j t lj (common_suffix (z_of B i) (z_of B j)) (suffix_within (z_of B i) (z_of B j)).1) (drop (xylen B j) v)

  pub carried8 : Fits B family i j u v p 8 → Carries text B u v p (plan8_of text s t (shared_suffix text s t) u v p) (row8 B i j u v p)
  unfolding plan8_of plan8 planned row8
  carried8 (fits8 c m o a z y) =
      rw (shared_end, head_test text B i s li l hi u, head_test text B j t lj l hj v) (by_test both8 refl)
    where
      e : is_prefix (xy_of B i) u ≡ true
      e = prefix_of_clean B u i c.clean

      l : ℕ
      l = common_suffix (z_of B i) (z_of B j)

      hi : common_suffix (z_of B i) (z_of B j) ≤ length (z_of B i)
      hi = (suffix_within (z_of B i) (z_of B j)).0

      hj : common_suffix (z_of B i) (z_of B j) ≤ length (z_of B j)
      hj = (suffix_within (z_of B i) (z_of B j)).1

      by_test : (q : Bool) → both8 ≡ q → Carries text B u v p (cond q (plan8 s t (common_suffix (z_of B i) (z_of B j)) (length p)) (End false))
          (choose q (λ _. go (drop (length (take (length (z_of B i) - common_suffix (z_of B i) (z_of B j)) (z_of B i))) (drop (xylen B i) u))
          (drop (length (take (length (z_of B j) - common_suffix (z_of B i) (z_of B j)) (z_of B j))) (drop (xylen B j) v))
          (drop (length (take (length (z_of B i) - common_suffix (z_of B i) (z_of B j)) (z_of B i))) (z_of B i))) (λ _. end false))
      by_test true q =
          let r = simp and-eq-true_iff at q in
          record {
            same =
                go_same (head_cut text B i s li (common_suffix (z_of B i) (z_of B j)) hi u) (head_cut text B j t lj (common_suffix (z_of B i) (z_of B j)) hj v)
                (ap (part text (s.stop - common_suffix (z_of B i) (z_of B j)) s.stop ++◌) (drop-length p) ∙ append-nil _ ∙ sym (head_rest text B i s li (common_suffix (z_of B i) (z_of B j)) hi));
            fits =
                goes (head_fits text B i s li (common_suffix (z_of B i) (z_of B j)) hi u e r.0) (head_fits text B j t lj (common_suffix (z_of B i) (z_of B j)) hj v o.begins r.1)
                (head_mark text B i s li (common_suffix (z_of B i) (z_of B j)) hi p);
          }
      by_test false q = record { same = refl; fits = ends }

-- the mark without its first letter, if it has one
pub mark_drop_lem : (p : Word) → drop (min 1 (length p)) p ≡ drop 1 p
mark_drop_lem [] = refl
mark_drop_lem (x ∷ p) = let e : min 1 (suc (length p)) ≡ 1 = omega arith in ap (λ k. drop k (x ∷ p)) e

-- row 2
pub carried2 : (text : List ℕ) (B : List Word) (family : ℕ → ℕ) (i j : ℕ) (u v p : Word) → Fits B family i j u v p 2 → Carries text B u v p (plan2 u v p) (row2 u v p)
unfolding plan2 letter_drop mark_drop drop_one row2 planned
carried2 text B family i j u v p (fits2 a b l) =
    rw (cond_both (alike u v) (is_empty p || alike p u) (drop_one (min 1 (length p))) (End false)) (by_test (alike u v && (is_empty p || alike p u)))
  where
    by_test : (q : Bool) → Carries text B u v p (cond q (drop_one (min 1 (length p))) (End false)) (choose q (λ _. go (drop 1 u) (drop 1 v) (drop 1 p)) (λ _. end false))
    by_test true =
        record {
          same = go_same (cut_applied text 1 u) (cut_applied text 1 v) (cut_applied text _ p ∙ mark_drop_lem p);
          fits = goes (cut_fits text B u 1 a) (cut_fits text B v 1 b) (cut_mark text B p (min 1 (length p)) (omega arith));
        }
    by_test false = record { same = refl; fits = ends }
