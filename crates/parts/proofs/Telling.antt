-- What a hint tells of Z behind X and Y, and a law for each way that the choice of a member can go.
use Prim.Native.Nat.{ℕ, ◌<◌}
use mathlib.Core.Bool.{Bool, true, false, not, true≢false, and-eq-true_iff}
use mathlib.Core.Logic.{by_cases}
use mathlib.Core.List.{List}
use mathlib.Core.Path.{◌≡◌, refl, sym, ap, ◌∙◌, subst}
use Rattle.std.proofs.Common.{Option, Some, None}
use native.Mathlib.Omega.{arith}
use native.Mathlib.Decide.{ℕ_discrete}
use borrow.Author.Rules.{rules}
use borrow.Author.Tests.{not-true}
use lib.ListN.{length, drop}
use Rattle.words.specs.Words.{Word, is_prefix, part}
use Rattle.words.proofs.Parts.{part_none}
use Rattle.overlap.specs.Cuts.{x_of, z_of}
use Rattle.overlap.proofs.Facts.{rigid_of_c4}
use Rattle.least.specs.Order.{house_rank}
use Rattle.least.specs.Possible.{possible}
use Rattle.least.specs.Writing.{first_member, chosen_member}
use Rattle.least.proofs.Possible.{possible_turn}
use Rattle.layout.specs.Places.{end_cell}
use Rattle.layout.specs.Layout.{words_in}
use Rattle.layout.specs.Families.{family_by}
use Rattle.layout.proofs.Placed.{words_length, row_inside}
use Rattle.sites.specs.declared.Site.{Site}
use Rattle.sites.specs.Sites.{site_of}
use Rattle.sites.proofs.Sites.{Lies, lies}
use Rattle.moves.specs.declared.Mark.{Mark}
use Rattle.moves.specs.State.{placed_word, placed_mark}
use Rattle.walks.specs.Walks.{Walking}
use Rattle.parts.specs.declared.Hint.{Hint}
use Rattle.parts.specs.declared.LeastState.{LeastState}
use Rattle.parts.specs.State.{HintTold, HintRight}
use Rattle.members.specs.Members.{applies, settled}
use Rattle.parts.specs.Choices.{ToldRight, denied_by, ChoiceMade}
use Rattle.members.specs.Asked.{MarkAsked}
use Rattle.parts.specs.Asked.{RestFound, ToldFound}
use Rattle.members.proofs.Members.{first_fits, chosen_own, chosen_first, chosen_back, chosen_none}

-- where nothing is known nothing is told
pub carry_nothing : (B : List Word) (fam : ℕ → ℕ) (given : Word) (i k : ℕ) → ToldRight B fam given i k None
carry_nothing B fam given i k = tt

module _ (text table : List ℕ) (n : ℕ) (given : Word) (s : LeastState) (i k : ℕ) (f : RestFound text table n given s i k) where
  known : i < length (words_in text table n)
  known = rw (words_length text table n) f.asked.there

  module _ (o : Hint) (e : s.hint ≡ Some o) where
    told : HintTold text (words_in text table n) (family_by table n) given s.word o.mark o.possible
    told = subst (HintRight text (words_in text table n) (family_by table n) given s.word) e f.asked.ready.standing.hint

    pub carry_asked : MarkAsked text table n i o.mark
    carry_asked = record { word = record { grouped = f.asked.ready.ready.grouped; there = f.asked.there }; mark = told.mark }

    -- the word is the rest of the given word alone
    bare : placed_word text given s.word ≡ drop s.word.from given
    bare = rw (part_none text s.word.at s.word.to told.bare)

    pub carry_that : (x : Bool) → x ≡ applies (words_in text table n) (family_by table n) given i (placed_mark text o.mark) s.word.from → x ≡ true → ToldRight (words_in text table n) (family_by table n) given i k (Some o.possible)
    unfolding applies
    carry_that x g h =
        let a = simp and-eq-true_iff at (sym g ∙ h) in
        let R = rigid_of_c4 (words_in text table n) f.asked.ready.ready.grouped.checked.accepted in
        let c = rw bare at f.asked.clean in
        let d = rw bare at f.rest in
        sym (ap (possible (words_in text table n) (family_by table n) (z_of (words_in text table n) i)) d)
        ∙ sym (possible_turn R (family_by table n) (placed_mark text o.mark) (drop s.word.from given) i (not-true _ a.0) c known a.1) ∙ told.told

pub ruleset hints_carried = (carry_nothing, carry_asked, carry_that, rules)

-- asked of what is told, or of the walk
module _ (text table : List ℕ) (n : ℕ) (given : Word) (s : LeastState) (i k : ℕ) (t : Option Bool) (f : ToldFound text table n given s i k t) where
  pub ask_told : (b : Bool) → t ≡ Some b → b ≡ possible (words_in text table n) (family_by table n) (z_of (words_in text table n) i) (drop k given)
  ask_told b e = sym (subst (ToldRight (words_in text table n) (family_by table n) given i k) e f.told)

  pub ask_room : end_cell i < length table
  ask_room = row_inside text table n f.found.asked.ready.ready.grouped.checked.laid i f.found.asked.there

  module _ (z : Site) (e : z ≡ site_of table i) where
    ask_lies : Lies text (words_in text table n) i z
    ask_lies = rw e (lies text table n f.found.asked.ready.ready.grouped.checked i f.found.asked.there)

    pub ask_walking : Walking text table n given z.tail z.stop k
    ask_walking = record {
      ready = f.found.asked.ready.ready;
      short = f.found.asked.ready.short;
      span = record { upwards = ask_lies.third; inside = ask_lies.inside };
      within = f.found.within;
    }

    pub ask_walked : (r : Bool) → r ≡ possible (words_in text table n) (family_by table n) (part text z.tail z.stop) (drop k given)
        → r ≡ possible (words_in text table n) (family_by table n) (z_of (words_in text table n) i) (drop k given)
    ask_walked r g = rw ask_lies.z g

pub ruleset asks = (ask_told, ask_room, ask_walking, ask_walked, rules)

-- the choice
module _ (text table : List ℕ) (n : ℕ) (given : Word) (s : LeastState) (i k : ℕ) (f : RestFound text table n given s i k) where
  pub choice_asked : MarkAsked text table n i s.mark
  choice_asked = record { word = record { grouped = f.asked.ready.ready.grouped; there = f.asked.there }; mark = f.asked.ready.standing.mark }

  pub choice_told : (t : Option Bool) → ToldRight (words_in text table n) (family_by table n) given i k t → ToldFound text table n given s i k t
  choice_told t g = record { found = f; told = g }

  -- where Z is not possible only i is left, whichever member comes first
  denied_is : possible (words_in text table n) (family_by table n) (z_of (words_in text table n) i) (drop k given) ≡ false → (x : Bool) → is_prefix (placed_mark text s.mark) (x_of (words_in text table n) i) ≡ x
      → settled (words_in text table n) n i (placed_mark text s.mark) n false ≡ chosen_member (words_in text table n) (family_by table n) house_rank i (placed_mark text s.mark) (drop k given)
  unfolding settled
  denied_is g true q = rw q (by_cases (ℕ_discrete (first_member (words_in text table n) (family_by table n) house_rank i (placed_mark text s.mark)) i)
      (λ e. sym (chosen_own (words_in text table n) (family_by table n) i (placed_mark text s.mark) (drop k given) e))
      (λ e. sym (chosen_back (words_in text table n) (family_by table n) i (placed_mark text s.mark) (drop k given) e g q)))
  denied_is g false q = rw q (by_cases (ℕ_discrete (first_member (words_in text table n) (family_by table n) house_rank i (placed_mark text s.mark)) i)
      (λ e.
      let b = words_length text table n in
      let h = f.asked.there in
      let x = first_fits (words_in text table n) (family_by table n) i (placed_mark text s.mark) (omega (arith, e, b, h)) in
      absurd (true≢false (sym (subst (λ (m : ℕ). is_prefix (placed_mark text s.mark) (x_of (words_in text table n) m) ≡ true) e x) ∙ q)))
      (λ e. sym (chosen_none (words_in text table n) (family_by table n) i (placed_mark text s.mark) (drop k given) e g q ∙ words_length text table n)))

  pub choice_denied : (d : Option Bool) → ToldRight (words_in text table n) (family_by table n) given i k d → (r : Bool) → r ≡ denied_by d → r ≡ true → (j : ℕ) → j ≡ settled (words_in text table n) n i (placed_mark text s.mark) n false
      → ChoiceMade text table n given s.mark i k (record { member = j; told = d })
  unfolding denied_by
  choice_denied None g r e h j q = absurd (true≢false (sym h ∙ e))
  choice_denied (Some true) g r e h j q = absurd (true≢false (sym h ∙ e))
  choice_denied (Some false) g r e h j q = record { member = q ∙ denied_is g _ refl; told = g }

pub ruleset denials = (choice_asked, choice_told, choice_denied, rules)

module _ (text table : List ℕ) (n : ℕ) (given : Word) (s : LeastState) (i k : ℕ) (t : Option Bool) (f : ToldFound text table n given s i k t) where
  pub first_asked : MarkAsked text table n i s.mark
  first_asked = choice_asked text table n given s i k f.found

  pub first_told : ToldRight (words_in text table n) (family_by table n) given i k t
  first_told = f.told

module _ (text table : List ℕ) (n : ℕ) (given : Word) (m : Mark) (i k t : ℕ) (e : t ≡ first_member (words_in text table n) (family_by table n) house_rank i (placed_mark text m)) where
  pub choice_own : t ≡ i → (d : Option Bool) → ToldRight (words_in text table n) (family_by table n) given i k d → ChoiceMade text table n given m i k (record { member = i; told = d })
  choice_own h d g = record { member = sym (chosen_own (words_in text table n) (family_by table n) i (placed_mark text m) (drop k given) (sym e ∙ h)); told = g }

  settled_is : (t ≡ i → ⊥) → (b : Bool) → possible (words_in text table n) (family_by table n) (z_of (words_in text table n) i) (drop k given) ≡ b → (x : Bool) → is_prefix (placed_mark text m) (x_of (words_in text table n) i) ≡ x
      → settled (words_in text table n) n i (placed_mark text m) t b ≡ chosen_member (words_in text table n) (family_by table n) house_rank i (placed_mark text m) (drop k given)
  unfolding settled
  settled_is d true g x q = e ∙ sym (chosen_first (words_in text table n) (family_by table n) i (placed_mark text m) (drop k given) g)
  settled_is d false g true q = rw q (sym (chosen_back (words_in text table n) (family_by table n) i (placed_mark text m) (drop k given) (λ z. d (e ∙ z)) g q))
  settled_is d false g false q = rw q (sym (chosen_none (words_in text table n) (family_by table n) i (placed_mark text m) (drop k given) (λ z. d (e ∙ z)) g q ∙ words_length text table n))

  pub choice_settled : (t ≡ i → ⊥) → (b : Bool) → b ≡ possible (words_in text table n) (family_by table n) (z_of (words_in text table n) i) (drop k given)
      → (j : ℕ) → j ≡ settled (words_in text table n) n i (placed_mark text m) t b → ChoiceMade text table n given m i k (record { member = j; told = Some b })
  choice_settled d b g j h = record { member = h ∙ settled_is d b (sym g) _ refl; told = sym g }

pub ruleset choices = (first_asked, first_told, choice_own, choice_settled, rules)

-- whether it is told that Z is not possible
pub denied_nothing : (d : Option Bool) → d ≡ None → false ≡ denied_by d
unfolding denied_by
denied_nothing d e = rw e

pub denied_not : (d : Option Bool) (b : Bool) → d ≡ Some b → not b ≡ denied_by d
unfolding denied_by
denied_not d b e = rw e

pub ruleset denyings = (denied_nothing, denied_not, rules)
