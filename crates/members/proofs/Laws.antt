-- A law for each way that choosing a member of a family can go.
use Prim.Native.Nat.{ℕ, ◌-◌, ◌≤◌, ◌<◌}
use mathlib.Core.Bool.{Bool, true, false}
use mathlib.Core.List.{List}
use mathlib.Core.Path.{◌≡◌, refl, sym}
use native.Mathlib.Omega.{arith}
use borrow.Author.Rules.{rules}
use borrow.Author.Tests.{le-leb, lt-leb}
use lib.ListN.{length}
use Rattle.words.specs.Words.{Word, is_prefix, part}
use Rattle.overlap.proofs.Facts.{rigid_of_c4}
use Rattle.least.specs.Order.{house_rank}
use Rattle.least.specs.Writing.{first_member}
use Rattle.layout.specs.Places.{next_cell}
use Rattle.layout.specs.Layout.{words_in}
use Rattle.layout.specs.Families.{family_at, family_by, next_of, GroupedWord}
use Rattle.layout.proofs.Placed.{words_length}
use Rattle.sites.specs.declared.Site.{Site}
use Rattle.sites.specs.Sites.{site_of, SiteInText, SitesInText}
use Rattle.sites.proofs.Sites.{Lies, site_in_text}
use Rattle.kin.proofs.Laws.{grouped, grouped_room, grouped_next_room, grouped_lies, grouped_site, grouped_other}
use Rattle.moves.specs.declared.Mark.{Mark}
use Rattle.moves.specs.State.{placed_mark}
use Rattle.members.specs.Members.{first_at, beats, better, settled}
use Rattle.members.specs.Asked.{MarkAsked}
use Rattle.members.proofs.Best.{BestSoFar, none_yet, best_kept, best_new, best_is_first}

-- the better one of a member and the best so far
module _ (text table : List ℕ) (n : ℕ) (p : Word) (best j : ℕ) (h : GroupedWord text table n j) (s : Site) (e : s ≡ site_of table j) where
  own : Lies text (words_in text table n) j s
  own = grouped_lies text table n j h s e

  module _ (x : Bool) (ex : x ≡ is_prefix p (part text s.start s.middle)) where
    pub better_not : x ≡ false → best ≡ better (words_in text table n) p best j
    unfolding better beats
    better_not hx = rw (own.x, ← ex, hx)

    module _ (hx : x ≡ true) where
      pub better_only : n ≤ best → j ≡ better (words_in text table n) p best j
      unfolding better beats
      better_only l = rw (own.x, ← ex, hx, words_length text table n, le-leb n best l)

      module _ (l : best < n) (t : Site) (f : t ≡ site_of table best) where
        bests : Lies text (words_in text table n) best t
        bests = grouped_lies text table n best (grouped_other text table n j h best l) t f

        pub better_sites : SitesInText text s t
        better_sites = record { own = grouped_site text table n j h s e; other = site_in_text text (words_in text table n) best t bests }

        module _ (y : Bool) (ey : y ≡ first_at text s t) where
          -- what the test for the better one comes to
          compared : beats (words_in text table n) p best j ≡ y
          unfolding beats first_at
          compared = rw (own.x, ← ex, hx, words_length text table n, lt-leb n best l, own.xy, bests.xy) (sym ey)

          pub better_new : y ≡ true → j ≡ better (words_in text table n) p best j
          unfolding better
          better_new hy = rw (compared, hy)

          pub better_old : y ≡ false → best ≡ better (words_in text table n) p best j
          unfolding better
          better_old hy = rw (compared, hy)

-- where there is no best one yet
module _ (text table : List ℕ) (n : ℕ) (p : Word) (j : ℕ) (h : GroupedWord text table n j) (s : Site) (e : s ≡ site_of table j)
    (x : Bool) (ex : x ≡ is_prefix p (part text s.start s.middle)) where
  pub better_first : x ≡ true → j ≡ better (words_in text table n) p n j
  better_first hx = better_only text table n p n j h s e x ex hx (omega arith)

pub ruleset markeds = (grouped, better_not, better_first, rules)

pub ruleset betters = (grouped, better_not, better_only, better_sites, better_new, better_old, rules)

-- the first member
module _ (text table : List ℕ) (n i : ℕ) (m : Mark) (h : MarkAsked text table n i m) where
  pub mark_word : GroupedWord text table n i
  mark_word = h.word

  pub mark_up : m.at ≤ m.to
  mark_up = h.mark.up

  pub mark_inside : m.to ≤ length text
  mark_inside = h.mark.inside

  -- it begins with the lowest member
  low_there : (f : ℕ) → f ≡ family_at table i → f < n
  low_there f e = let a = h.word.grouped.linked.low i h.word.there in let b = h.word.there in omega (arith, a, b, e)

  pub low_word : (f : ℕ) → f ≡ family_at table i → GroupedWord text table n f
  low_word f e = grouped_other text table n i h.word f (low_there f e)

  pub low_next_room : (f : ℕ) → f ≡ family_at table i → next_cell f < length table
  low_next_room f e = grouped_next_room text table n f (low_word f e)

  module _ (best j : ℕ) (u : BestSoFar (words_in text table n) table n i (placed_mark text m) best j) where
    module _ (l : j < n) where
      pub best_word : GroupedWord text table n j
      best_word = grouped_other text table n i h.word j l

      pub best_next : (r : ℕ) → r ≡ better (words_in text table n) (placed_mark text m) best j → (k : ℕ) → k ≡ next_of table j → BestSoFar (words_in text table n) table n i (placed_mark text m) r k
      unfolding better
      best_next r e k f = go _ refl
        where
          go : (b : Bool) → beats (words_in text table n) (placed_mark text m) best j ≡ b → BestSoFar (words_in text table n) table n i (placed_mark text m) r k
          go true a =
              let g : r ≡ j = rw a at e in
              rw (g, f) (best_new (words_in text table n) table n (words_length text table n) h.word.grouped.linked i h.word.there (placed_mark text m) best j u l a)
          go false a =
              let g : r ≡ best = rw a at e in
              rw (g, f) (best_kept (words_in text table n) table n (words_length text table n) h.word.grouped.linked i h.word.there (placed_mark text m) best j u l a)

      pub best_later : (k : ℕ) → k ≡ next_of table j → n - k < n - j
      best_later k e = let a = h.word.grouped.linked.later j l in omega (arith, a, e, l)

    pub best_end : n ≤ j → best ≡ first_member (words_in text table n) (family_by table n) house_rank i (placed_mark text m)
    best_end l =
        best_is_first (words_in text table n) table n (words_length text table n) h.word.grouped.linked i h.word.there (placed_mark text m) best j u
        (rigid_of_c4 (words_in text table n) h.word.grouped.checked.accepted) l

  pub best_start : (f : ℕ) → f ≡ family_at table i → (r : ℕ) → r ≡ better (words_in text table n) (placed_mark text m) n f → (k : ℕ) → k ≡ next_of table f
      → BestSoFar (words_in text table n) table n i (placed_mark text m) r k
  best_start f e r g k q =
      let u = none_yet (words_in text table n) table n (words_length text table n) h.word.grouped.linked i h.word.there (placed_mark text m) in
      best_next n f (rw e u) (low_there f e) r g k q

pub ruleset first_members = (mark_word, mark_up, mark_inside, low_word, low_next_room, best_word, grouped, best_later, best_end, rules)

-- the member, where the first one is another than i
module _ (text table : List ℕ) (n i : ℕ) (m : Mark) (t : ℕ) (b : Bool) where
  pub settle_first : b ≡ true → t ≡ settled (words_in text table n) n i (placed_mark text m) t b
  unfolding settled
  settle_first h = rw h

  module _ (a : MarkAsked text table n i m) where
    module _ (s : Site) (e : s ≡ site_of table i) where
      settle_lies : Lies text (words_in text table n) i s
      settle_lies = grouped_lies text table n i a.word s e

      pub settle_site : SiteInText text s
      settle_site = site_in_text text (words_in text table n) i s settle_lies

      module _ (h : b ≡ false) (x : Bool) (g : x ≡ is_prefix (part text m.at m.to) (part text s.start s.middle)) where
        pub settle_own : x ≡ true → i ≡ settled (words_in text table n) n i (placed_mark text m) t b
        unfolding settled
        settle_own l = rw (h, settle_lies.x, ← g, l)

        pub settle_none : x ≡ false → n ≡ settled (words_in text table n) n i (placed_mark text m) t b
        unfolding settled
        settle_none l = rw (h, settle_lies.x, ← g, l)

pub ruleset settles = (mark_word, mark_up, mark_inside, grouped_room, settle_first, settle_site, settle_own, settle_none, rules)
