-- Laws of the decision: the plan that is made for the row that is found gives the round.
use Prim.Native.Nat.{ℕ, ◌-◌, ◌<◌}
use mathlib.Core.List.{List, ◌++◌}
use mathlib.Core.Path.{◌≡◌, refl, sym, ap, ◌∙◌, subst}
use native.Mathlib.Omega.{arith}
use borrow.Author.Rules.{rules}
use mathlib.Core.Bool.{false}
use lib.ListN.{length, drop, length-append}
use Rattle.words.specs.Words.{Word, part}
use Rattle.words.proofs.Parts.{part_length}
use Rattle.words.proofs.CommonSuffixes.{suffix_within}
use Rattle.overlap.specs.Cuts.{len}
use Rattle.overlap.proofs.Facts.{rigid_of_c4}
use Rattle.congruence.specs.Rows.{clean_relation_prefix, Next, primed_word, tail_member, makes, row1, round}
use Rattle.congruence.proofs.FirstRow.{Fits, Member, fits, prefix_of_fits, row_eight, xy_of_whole}
use Rattle.congruence.proofs.FirstRow.Fits.{fits1, fits2, fits3, fits4, fits5, fits6, fits7, fits8}
use Rattle.congruence.proofs.ShapeNoPrefix.{prefix_past_tail}
use Rattle.congruence.proofs.ShapeRows.{tail_member_there}
use Rattle.layout.specs.Layout.{words_in}
use Rattle.layout.specs.Families.{family_by, Grouped, GroupedWord}
use Rattle.layout.proofs.Placed.{words_length}
use Rattle.sites.specs.declared.Site.{Site}
use Rattle.sites.specs.Sites.{site_of, SiteInText, SitesInText}
use Rattle.sites.proofs.Sites.{Lies, lies, site_in_text}
use Rattle.sites.proofs.Laws.{tail_after, stop_after}
use Rattle.kin.proofs.Laws.{grouped_lies}
use Rattle.rows.specs.declared.Found.{Found}
use Rattle.rows.specs.Shapes.{FoundRow}
use Rattle.changes.specs.declared.Changes.{Changes}
use Rattle.asked.specs.declared.Round.{Round}
use Rattle.asked.specs.declared.Round.TheVariants.{End}
use Rattle.changes.specs.Asked.{SitesUpwards}
use Rattle.changes.specs.Changes.{plan6, plan7, shared_suffix}
use Rattle.plans.specs.Plans.{planned, Carries, PlansRound}
use Rattle.plans.specs.Plans.PlanFit.{ends}
use Rattle.plans.specs.Asked.{HeadClear, BothNonEmpty, WholeWords, TailsHave}
use Rattle.plans.specs.RowPlans.{plan1, plan2, plan4, plan5, plan8_of}
use Rattle.plans.proofs.Carried.{whole_within, carried2, carried4, carried5, carried6, carried7, carried8}

-- row 8
module _ (text : List ℕ) (s t : Site) (h : SitesInText text s t) (l : ℕ) (e : l ≡ shared_suffix text s t) where
  pub shared_lies : TailsHave text s t l
  unfolding shared_suffix
  shared_lies =
      let w = suffix_within (part text s.tail s.stop) (part text t.tail t.stop) in
      let a = part_length text s.tail s.stop h.own.inside in
      let b = part_length text t.tail t.stop h.other.inside in
      record { own = record { site = h.own; lies = omega arith }; other = record { site = h.other; lies = omega arith } }

  pub shared_made : (u v p : Word) (r : Round Changes) → r ≡ plan8_of text s t l u v p → r ≡ plan8_of text s t (shared_suffix text s t) u v p
  shared_made u v p r f = rw (← e) f

pub ruleset sharings = (shared_lies, shared_made, rules)

-- from row 4 on v begins with a member
member_of_fits : {B : List Word} {family : ℕ → ℕ} {i j : ℕ} {u v p : Word} {row : ℕ} → Fits B family i j u v p row → 3 < row → Member B family v i j
member_of_fits (fits1 e) h = absurd (omega arith)
member_of_fits (fits2 a b l) h = absurd (omega arith)
member_of_fits (fits3 c q) h = absurd (omega arith)
member_of_fits (fits4 c m o q r) h = o
member_of_fits (fits5 c m o q w) h = o
member_of_fits (fits6 c m o a z w) h = o
member_of_fits (fits7 c m o a w z) h = o
member_of_fits (fits8 c m o a w z) h = o

-- the relation word of u's clean relation prefix, and the member of its family that v begins with
abbrev own_word : List ℕ → List ℕ → ℕ → Word → ℕ
own_word text table n u = clean_relation_prefix (words_in text table n) u

abbrev member_word : List ℕ → List ℕ → ℕ → Word → Word → ℕ
member_word text table n u v = primed_word (words_in text table n) (family_by table n) u v

-- what holds where a row fits first, and what it makes
abbrev FitsRow : List ℕ → List ℕ → ℕ → Word → Word → Word → ℕ → Type 0
FitsRow text table n u v p k = Fits (words_in text table n) (family_by table n) (own_word text table n u) (member_word text table n u v) u v p k

abbrev row_makes : List ℕ → List ℕ → ℕ → Word → Word → Word → ℕ → Next
row_makes text table n u v p k = makes (words_in text table n) (family_by table n) (own_word text table n u) (member_word text table n u v) u v p k

-- the arms of the decision
module _ (text table : List ℕ) (n : ℕ) (u v p : Word) (f : Found) (h : FoundRow text table n u v p f) where
  -- what holds where the row that is found has this number
  fits_found : (k : ℕ) → f.row ≡ k → FitsRow text table n u v p k
  fits_found k e =
      subst (FitsRow text table n u v p) (sym h.number ∙ e) (fits (words_in text table n) (family_by table n) u v p)

  pub found_some : f.row ≡ 2 → BothNonEmpty u v
  found_some e = some (fits_found 2 e)
    where
      some : FitsRow text table n u v p 2 → BothNonEmpty u v
      some (fits2 a b l) = record { some_u = a; some_v = b }

  -- a plan that carries what the row makes gives the round
  by_row : (k : ℕ) → f.row ≡ k → (r : Round Changes)
      → Carries text (words_in text table n) u v p r (row_makes text table n u v p k)
      → PlansRound text table n u v p r
  unfolding round
  by_row k e r q =
      record {
        same = q.same ∙ ap (row_makes text table n u v p) (sym e ∙ h.number);
        fits = q.fits;
      }

  pub by1 : (r : Round Changes) → f.row ≡ 1 → r ≡ plan1 u v p → PlansRound text table n u v p r
  unfolding makes row1 plan1 planned
  by1 r e g = by_row 1 e r (rw g (record { same = refl; fits = ends }))

  pub by2 : (r : Round Changes) → f.row ≡ 2 → r ≡ plan2 u v p → PlansRound text table n u v p r
  unfolding makes
  by2 r e g =
      by_row 2 e r (rw g (carried2 text (words_in text table n) (family_by table n) (own_word text table n u) (member_word text table n u v) u v p (fits_found 2 e)))

  pub by3 : f.row ≡ 3 → PlansRound text table n u v p (End false)
  unfolding makes planned
  by3 e = by_row 3 e (End false) (record { same = refl; fits = ends })

  module _ (c : Grouped text table n) where
    -- from row 4 on both relation words lie in the text
    own_grouped : (k : ℕ) → f.row ≡ k → 3 < k → GroupedWord text table n (own_word text table n u)
    own_grouped k e l =
        let t = (prefix_of_fits (fits_found k e) (omega arith)).there in
        let b = words_length text table n in
        record { grouped = c; there = omega (arith, t, b) }

    member_grouped : (k : ℕ) → f.row ≡ k → 3 < k → GroupedWord text table n (member_word text table n u v)
    member_grouped k e l =
        let t = (member_of_fits (fits_found k e) l).there in
        let b = words_length text table n in
        record { grouped = c; there = omega (arith, t, b) }

    lies_own : (k : ℕ) → f.row ≡ k → 3 < k → Lies text (words_in text table n) (own_word text table n u) f.own
    lies_own k e l = grouped_lies text table n (own_word text table n u) (own_grouped k e l) f.own (h.own (omega arith))

    lies_member : (k : ℕ) → f.row ≡ k → 3 < k → Lies text (words_in text table n) (member_word text table n u v) f.member
    lies_member k e l = grouped_lies text table n (member_word text table n u v) (member_grouped k e l) f.member (h.member (omega arith))

    found_sites : (k : ℕ) → f.row ≡ k → 3 < k → SitesInText text f.own f.member
    found_sites k e l =
        record {
          own = site_in_text text (words_in text table n) (own_word text table n u) f.own (lies_own k e l);
          other = site_in_text text (words_in text table n) (member_word text table n u v) f.member (lies_member k e l);
        }

    sites_upwards : SitesInText text f.own f.member → SitesUpwards f.own f.member
    sites_upwards m =
        record {
          own_xy = tail_after text f.own m.own;
          own = stop_after text f.own m.own;
          other_xy = tail_after text f.member m.other;
          other = stop_after text f.member m.other;
        }

    pub row5_site : f.row ≡ 5 → SiteInText text f.own
    row5_site e = (found_sites 5 e (omega arith)).own

    pub row6_sites : f.row ≡ 6 → SitesUpwards f.own f.member
    row6_sites e = sites_upwards (found_sites 6 e (omega arith))

    pub row7_sites : f.row ≡ 7 → SitesUpwards f.own f.member
    row7_sites e = sites_upwards (found_sites 7 e (omega arith))

    module _ (r : Round Changes) where
      pub by4 : f.row ≡ 4
          → r ≡ plan4 f.own f.member (site_of table (tail_member (words_in text table n) (family_by table n) f.word (drop (f.own.stop - f.own.start) u))) (length p)
          → PlansRound text table n u v p r
      unfolding makes
      by4 e g =
          let B = words_in text table n in
          let F = family_by table n in
          let lo = lies_own 4 e (omega arith) in
          let w = (own_grouped 4 e (omega arith)).there in
          let b = words_length text table n in
          let k = tail_member B F f.word (drop (f.own.stop - f.own.start) u) in
          let q : k ≡ tail_member B F (clean_relation_prefix B u) (drop (len B (clean_relation_prefix B u)) u) = rw (h.word (omega arith), lo.long) in
          let d = h.word (omega arith) in
          let t = tail_member_there B (rigid_of_c4 B c.checked.accepted) F f.word (drop (f.own.stop - f.own.start) u) (omega (arith, b, w, d)) in
          let lk = lies text table n c.checked k (omega (arith, b, t)) in
          by_row 4 e r (rw g (carried4 text B _ _ f.own f.member lo (lies_member 4 e (omega arith)) F u v p k (site_of table k) lk q (fits_found 4 e)))

      pub by5 : f.row ≡ 5 → r ≡ plan5 text f.own p → PlansRound text table n u v p r
      unfolding makes
      by5 e g =
          let lo = lies_own 5 e (omega arith) in
          let lm = lies_member 5 e (omega arith) in
          by_row 5 e r (rw g (carried5 text (words_in text table n) _ _ f.own f.member lo lm (family_by table n) u v p (fits_found 5 e)))

      pub by6 : f.row ≡ 6 → r ≡ plan6 f.own f.member (length p) → PlansRound text table n u v p r
      unfolding makes
      by6 e g =
          let lo = lies_own 6 e (omega arith) in
          let lm = lies_member 6 e (omega arith) in
          by_row 6 e r (rw g (carried6 text (words_in text table n) _ _ f.own f.member lo lm (family_by table n) u v p (fits_found 6 e)))

      pub by7 : f.row ≡ 7 → r ≡ plan7 f.own f.member (length p) → PlansRound text table n u v p r
      unfolding makes
      by7 e g =
          let lo = lies_own 7 e (omega arith) in
          let lm = lies_member 7 e (omega arith) in
          by_row 7 e r (rw g (carried7 text (words_in text table n) _ _ f.own f.member lo lm (family_by table n) u v p (fits_found 7 e)))

    -- the last arm: a row that is none of the others
    module _ (h1 : f.row ≡ 1 → ⊥) (h2 : f.row ≡ 2 → ⊥) (h3 : f.row ≡ 3 → ⊥) (h4 : f.row ≡ 4 → ⊥) (h5 : f.row ≡ 5 → ⊥) (h6 : f.row ≡ 6 → ⊥) (h7 : f.row ≡ 7 → ⊥) where
      last : f.row ≡ 8
      last = row_eight (fits_found f.row refl) h1 h2 h3 h4 h5 h6 h7

      pub row8_sites : SitesInText text f.own f.member
      row8_sites = found_sites 8 last (omega arith)

      pub by8 : (r : Round Changes) → r ≡ plan8_of text f.own f.member (shared_suffix text f.own f.member) u v p → PlansRound text table n u v p r
      unfolding makes
      by8 r g =
          let lo = lies_own 8 last (omega arith) in
          let lm = lies_member 8 last (omega arith) in
          by_row 8 last r (rw g (carried8 text (words_in text table n) _ _ f.own f.member lo lm (family_by table n) u v p (fits_found 8 last)))

-- what is asked of the head part
module _ (text table : List ℕ) (n : ℕ) (ua : Word) (c : HeadClear text table n ua) where
  pub grouped_of_clear : Grouped text table n
  grouped_of_clear = c.grouped

  -- row 4: X and Y reach past the head part, so that the rest behind the relation word is in the second slice
  pub row4_words : (ub v p : Word) (f : Found) → FoundRow text table n (ua ++ ub) v p f → f.row ≡ 4 → WholeWords text table n f.word f.own f.member ua ub
  row4_words ub v p f h e = words (fits_found text table n (ua ++ ub) v p f h 4 e)
    where
      words : FitsRow text table n (ua ++ ub) v p 4
          → WholeWords text table n f.word f.own f.member ua ub
      words (fits4 k m o q r) =
          let i = own_word text table n (ua ++ ub) in
          let lo = lies_own text table n (ua ++ ub) v p f h c.grouped 4 e (omega arith) in
          let lm = lies_member text table n (ua ++ ub) v p f h c.grouped 4 e (omega arith) in
          let w = own_grouped text table n (ua ++ ub) v p f h c.grouped 4 e (omega arith) in
          let x = xy_of_whole (words_in text table n) i (ua ++ ub) q in
          let a = prefix_past_tail (words_in text table n) (rigid_of_c4 (words_in text table n) c.grouped.checked.accepted) ua ub i c.clear k.there x in
          let b = whole_within text (words_in text table n) i f.own lo (ua ++ ub) q in
          let d = length-append ua ub in
          record {
            known = rw (h.word (omega arith)) w;
            at = rw (h.word (omega arith)) (h.own (omega arith));
            begins = rw (h.word (omega arith)) q;
            own = stop_after text f.own (site_in_text text (words_in text table n) i f.own lo);
            member = stop_after text f.member (site_in_text text (words_in text table n) _ f.member lm);
            past = omega (arith, a, lo.long_xy, lo.third);
            within = omega (arith, b, d);
          }

pub ruleset decisions = (by1, by2, by3, by4, by5, by6, by7, by8, found_some, row4_words, grouped_of_clear, row5_site, row6_sites, row7_sites, row8_sites, rules)
