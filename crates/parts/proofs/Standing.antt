-- What a round with a clean relation prefix leaves: letters of relation words that are written, and states that stand.
use Prim.Native.Nat.{ℕ, ◌+◌, ◌-◌, ◌≤◌, ◌<◌}
use mathlib.Core.List.{List, []}
use mathlib.Core.Path.{◌≡◌, ap, ◌∙◌, subst}
use Rattle.std.proofs.Common.{Some}
use native.Mathlib.Omega.{arith}
use lib.ListN.{length, take, drop}
use Rattle.words.specs.Words.{Word, part}
use Rattle.words.proofs.Parts.{part_length, part_at, part_take, part_drop}
use Rattle.words.proofs.Prefixes.{prefix_length}
use Rattle.overlap.specs.Pieces.{word}
use Rattle.overlap.specs.Cuts.{len, x_of}
use Rattle.overlap.proofs.Facts.{rigid_of_c4, length_x}
use Rattle.congruence.specs.NoRelationPrefix.{NoRelationPrefix}
use Rattle.congruence.proofs.Heads.{Facts}
use Rattle.congruence.proofs.ShapeNoPrefix.{no_prefix_nil, no_prefix_z}
use Rattle.least.specs.Writing.Part.{part as writes}
use Rattle.layout.specs.Layout.{words_in, Checked}
use Rattle.layout.specs.Families.{family_by}
use Rattle.layout.proofs.Placed.{words_length}
use Rattle.sites.specs.declared.Site.{Site}
use Rattle.sites.specs.Sites.{site_of}
use Rattle.sites.proofs.Sites.{Lies, lies}
use Rattle.moves.specs.declared.PlacedWord.{PlacedWord}
use Rattle.moves.specs.declared.Mark.{Mark}
use Rattle.moves.specs.State.{placed_word, placed_mark, WordFits, MarkFits}
use Rattle.parts.specs.declared.Source.{Source}
use Rattle.parts.specs.declared.LeastState.{LeastState}
use Rattle.parts.specs.declared.Stage.TheVariants as Stages
use Rattle.parts.specs.State.{source_word, LettersLow, SourceFits, Goes, Makes, weight}
use Rattle.parts.specs.Choices.{source_behind}
use Rattle.parts.specs.Asked.{PlacesSmall, MemberFound}
use Rattle.members.proofs.Members.{ChosenFits, chosen_fits}

-- letters of relation words, and words that begin with a Z
module _ (text table : List ℕ) (n : ℕ) (c : Checked text table n) where
  pub facts : Facts (words_in text table n)
  facts = rigid_of_c4 (words_in text table n) c.accepted

  module _ (j : ℕ) (h : j < n) (s : Site) (e : s ≡ site_of table j) where
    pub site_lies : Lies text (words_in text table n) j s
    site_lies = rw e (lies text table n c j h)

    pub site_letters : (a b : ℕ) → s.start ≤ a → b ≤ s.stop → LettersLow (part text a b)
    unfolding site_of
    site_letters a b l u =
        let f = ap (λ (t : Site). t.start) e in
        let g = ap (λ (t : Site). t.stop) e in
        let i = site_lies.inside in
        let p = part_length text a b (omega (arith, i, u)) in
        record { at = λ k d. rw (part_at text a b k (omega (arith, d, p))) (c.laid.letters j (a + k) h (omega (arith, f, l)) (omega (arith, g, u, d, p))) }

    pub source_stands : (given : Word) (m : Mark) (to : ℕ) → s.start + (m.to - m.at) ≤ to → to ≤ s.stop → SourceFits text given (source_behind s m to)
    unfolding source_behind source_word
    source_stands given m to l u =
        let y = site_lies in
        record {
          up = l;
          short = omega (arith, u, y.short);
          inside = omega (arith, u, y.inside);
          low = λ g. site_letters (s.start + (m.to - m.at)) to (omega arith) u;
        }

    pub tail_stands : (given : Word) (k : ℕ) → k ≤ length given → WordFits text (words_in text table n) given (record { at = s.tail; to = s.stop; from = k })
    tail_stands given k l =
        let y = site_lies in
        record {
          up = y.third;
          inside = y.inside;
          short = omega (arith, y.first, y.second, y.short);
          within = l;
          no_prefix = subst (NoRelationPrefix (words_in text table n)) y.z (no_prefix_z (words_in text table n) facts j y.known);
        }

    pub tail_letters : LettersLow (part text s.tail s.stop)
    tail_letters = let y = site_lies in site_letters s.tail s.stop (omega (arith, y.first, y.second)) (omega arith)

    pub tail_mark : MarkFits text (record { at = s.tail; to = s.stop })
    tail_mark = let y = site_lies in record { up = y.third; inside = y.inside; short = omega (arith, y.first, y.second, y.short) }

  -- the rest of the given word alone
  pub bare_stands : (given : Word) (k : ℕ) → k ≤ length given → WordFits text (words_in text table n) given (record { at = 0; to = 0; from = k })
  bare_stands given k l = record { up = omega arith; inside = omega arith; short = omega arith; within = l; no_prefix = no_prefix_nil (words_in text table n) facts }

pub empty_letters : LettersLow []
empty_letters = record { at = λ k h. absurd (omega arith) }

pub empty_mark : (text : List ℕ) → MarkFits text (record { at = 0; to = 0 })
empty_mark text = record { up = omega arith; inside = omega arith; short = omega arith }

-- a round that goes on, by what it writes and goes on with
pub go_makes : (text : List ℕ) (B : List Word) (fam : ℕ → ℕ) (given : Word) (s : LeastState) (c : Source) (t : LeastState) (w p u : Word)
    → source_word text given c ≡ w → placed_mark text t.mark ≡ p → placed_word text given t.word ≡ u → Goes text B fam given s c t → Makes text B fam given s (writes w p u) (Some (Stages.Go c t))
go_makes text B fam given s c t w p u e f g h = record { same = rw (e, f, g); stands = h }

-- the chosen member j, at the site z
module _ (text table : List ℕ) (n : ℕ) (given : Word) (s : LeastState) (i k j : ℕ) (f : MemberFound text table n given s i k j) where
  pub found_checked : Checked text table n
  found_checked = f.found.asked.ready.ready.grouped.checked

  pub found_fits : ChosenFits (words_in text table n) (family_by table n) i (placed_mark text s.mark) (drop k given) j
  found_fits = chosen_fits (words_in text table n) (family_by table n) i (placed_mark text s.mark) (drop k given) j f.member (rw (words_length text table n) f.known)

  pub mark_length : length (placed_mark text s.mark) ≡ s.mark.to - s.mark.at
  mark_length = part_length text s.mark.at s.mark.to f.found.asked.ready.standing.mark.inside

  module _ (z : Site) (e : z ≡ site_of table j) where
    pub found_lies : Lies text (words_in text table n) j z
    found_lies = site_lies text table n found_checked j f.known z e

    -- the mark lies in X
    pub found_in_x : z.start + (s.mark.to - s.mark.at) ≤ z.middle
    found_in_x =
        let y = found_lies in
        let x = prefix_length (placed_mark text s.mark) (x_of (words_in text table n) j) found_fits.in_x in
        let l = length_x (words_in text table n) j in
        let m = mark_length in
        omega (arith, x, l, m, y.long_x, y.first)

    pub found_small : PlacesSmall z s.mark
    found_small =
        let y = found_lies in
        let r = f.found.asked.ready in
        let m = r.standing.mark in
        let t = r.ready.text_short in
        record { start = omega (arith, y.first, y.second, y.third, y.inside, t); up = m.up; mark = omega (arith, m.inside, t) }

    -- a prefix of relation word j without the mark
    pub found_written : (w : Word) (to : ℕ) → w ≡ part text z.start to → drop (length (placed_mark text s.mark)) w ≡ source_word text given (source_behind z s.mark to)
    unfolding source_word source_behind
    found_written w to g = rw (g, mark_length) (part_drop text z.start to (s.mark.to - s.mark.at))

    pub found_source : (to : ℕ) → z.middle ≤ to → to ≤ z.stop → SourceFits text given (source_behind z s.mark to)
    found_source to l u = let x = found_in_x in source_stands text table n found_checked j f.known z e given s.mark to (omega (arith, x, l)) u

    -- the last l letters are left out
    pub found_short : (l : ℕ) → l ≤ z.stop - z.tail → take (len (words_in text table n) j - l) (word (words_in text table n) j) ≡ part text z.start (z.stop - l)
    found_short l h =
        let y = found_lies in
        let d : z.start + (len (words_in text table n) j - l) ≡ z.stop - l = omega (arith, y.long, h, y.first, y.second, y.third) in
        ap (take (len (words_in text table n) j - l)) y.whole ∙ part_take text z.start z.stop (len (words_in text table n) j - l) (omega (arith, y.long)) ∙ ap (part text z.start) d

  -- what a round leaves weighs less
  pub found_lighter : (q : ℕ) → k ≤ q → q ≤ length given → (h : PlacedWord) → h.from ≡ q → h.to - h.at ≤ 64 → weight given h < weight given s.word
  found_lighter q a b h e l = let d = f.found.later in omega (arith, a, b, e, l, d)
