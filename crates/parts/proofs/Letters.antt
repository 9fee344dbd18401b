-- A law for each way that a round without a clean relation prefix can go.
use Prim.Native.Nat.{ℕ, ◌+◌, ◌-◌, ◌≤◌, ◌<◌}
use mathlib.Core.Bool.{Bool, true, false}
use mathlib.Core.Logic.{by_cases, ⊎_elim}
use mathlib.Core.List.{List, [], ◌∷◌, ◌++◌}
use mathlib.Core.Path.{◌≡◌, refl, sym, ap, ◌∙◌, subst}
use Rattle.std.proofs.Common.{Option, Some, None}
use native.Mathlib.Omega.{arith}
use native.Mathlib.Decide.{dec_lt}
use borrow.Author.Rules.{rules}
use borrow.Author.Tests.{lt-ltb, le-ltb, eq-eqb, ne_eqb, eqb-true}
use mir.Syntax.{w64}
use mir.Val.{Fits}
use lib.Dec.{eqb}
use lib.ListN.{length, get_or, take, drop, length-drop, length-take}
use lib.Seq.{drop-append-le, drop-drop, get_or-take}
use Rattle.words.specs.Words.{Word, is_empty, is_prefix, common_prefix, part}
use Rattle.words.proofs.Tests.{true_or_false}
use Rattle.words.proofs.Parts.{part_length, part_at, part_none, part_take, part_drop}
use Rattle.words.proofs.Commons.{common_most}
use Rattle.congruence.specs.NoRelationPrefix.{NoRelationPrefix}
use Rattle.congruence.specs.Rows.{clean_relation_prefix}
use Rattle.congruence.proofs.ShapeNoPrefix.{no_prefix_drop}
use Rattle.least.specs.Possible.{possible}
use Rattle.least.specs.Writing.{letter_part}
use Rattle.least.proofs.Possible.{possible_front}
use Rattle.layout.specs.Layout.{words_in}
use Rattle.layout.specs.Families.{family_by}
use Rattle.moves.specs.declared.PlacedWord.{PlacedWord}
use Rattle.moves.specs.declared.Mark.{Mark}
use Rattle.moves.specs.State.{placed_word, placed_mark, WordFits}
use Rattle.moves.specs.Drops.{HasLetter}
use Rattle.moves.proofs.Drops.{rest_place}
use Rattle.walks.proofs.Legs.{prefix_rest, passed}
use Rattle.parts.specs.declared.Hint.{Hint}
use Rattle.parts.specs.declared.Source.{Source}
use Rattle.parts.specs.declared.Source.TheVariants as Sources
use Rattle.parts.specs.declared.LeastState.{LeastState}
use Rattle.parts.specs.declared.Stage.TheVariants as Stages
use Rattle.parts.specs.State.{source_word, LettersLow, HintTold, HintRight, SourceFits, Makes, weight}
use Rattle.parts.specs.Letters.{WordSmall, without_letter, first_source, HintLies, hint_behind}
use Rattle.parts.specs.Asked.{LetterAsked}
use Rattle.parts.proofs.Standing.{go_makes, empty_letters}

-- a word with a letter is not empty
pub some_of : (w : Word) → 0 < length w → is_empty w ≡ false
some_of [] h = absurd (omega arith)
some_of (x ∷ w) h = refl

-- the first letter of two words is that of the first
first_of_both : (a b : Word) → 0 < length a → take 1 (a ++ b) ≡ take 1 a
first_of_both [] b h = absurd (omega arith)
first_of_both (x ∷ a) b h = refl

-- the letters of a part of a word
low_part : (w : Word) (a b : ℕ) → b ≤ length w → LettersLow w → LettersLow (part w a b)
low_part w a b h l =
    let p = part_length w a b h in
    record { at = λ k g. rw (part_at w a b k (omega (arith, g, p))) (l.at (a + k) (omega (arith, g, p, h))) }

-- a held word without its first letter
module _ (text : List ℕ) (B : List Word) (given : Word) (h : PlacedWord) (f : WordFits text B given h) (l : HasLetter text given h) where
  -- the part of the text has a letter
  module _ (g : h.at < h.to) where
    head_long : length (part text h.at h.to) ≡ h.to - h.at
    head_long = part_length text h.at h.to f.inside

    head_next : part text (h.at + 1) h.to ++ drop h.from given ≡ drop 1 (placed_word text given h)
    head_next =
        let d = head_long in
        sym (drop-append-le 1 (part text h.at h.to) (drop h.from given) (omega (arith, d, g)) ∙ ap (◌++ drop h.from given) (part_drop text h.at h.to 1))

    head_first : take 1 (placed_word text given h) ≡ part text h.at (h.at + 1)
    head_first =
        let d = head_long in
        first_of_both (part text h.at h.to) (drop h.from given) (omega (arith, d, g)) ∙ part_take text h.at h.to 1 (omega (arith, g))

    head_fits : WordFits text B given (record { at = h.at + 1; to = h.to; from = h.from })
    head_fits = record {
      up = omega (arith, g);
      inside = f.inside;
      short = let s = f.short in omega (arith, s);
      within = f.within;
      no_prefix = subst (NoRelationPrefix B) (part_drop text h.at h.to 1) (no_prefix_drop B (part text h.at h.to) 1 f.no_prefix);
    }

  -- it has none
  module _ (g : h.to ≤ h.at) where
    bare_word : placed_word text given h ≡ drop h.from given
    bare_word = rw (part_none text h.at h.to g)

    bare_next : part text h.at h.to ++ drop (h.from + 1) given ≡ drop 1 (placed_word text given h)
    bare_next = rw (part_none text h.at h.to g) (sym (drop-drop 1 h.from given))

    bare_first : take 1 (placed_word text given h) ≡ part given h.from (h.from + 1)
    bare_first = let e : h.from + 1 - h.from ≡ 1 = omega arith in rw (bare_word, e)

    bare_fits : WordFits text B given (record { at = h.at; to = h.to; from = h.from + 1 })
    bare_fits = record {
      up = f.up;
      inside = f.inside;
      short = f.short;
      within = let r = rest_place text given h l g in omega (arith, r);
      no_prefix = f.no_prefix;
    }

  next_word : placed_word text given (without_letter h) ≡ drop 1 (placed_word text given h)
  unfolding without_letter
  next_word = by_cases (dec_lt h.at h.to) (λ g. rw (lt-ltb _ _ g) (head_next g)) (λ g. let g' : h.to ≤ h.at = omega (arith, g) in rw (le-ltb _ _ g') (bare_next g'))

  next_fits : WordFits text B given (without_letter h)
  unfolding without_letter
  next_fits = by_cases (dec_lt h.at h.to) (λ g. rw (lt-ltb _ _ g) (head_fits g)) (λ g. let g' : h.to ≤ h.at = omega (arith, g) in rw (le-ltb _ _ g') (bare_fits g'))

  next_low : LettersLow (part text h.at h.to) → LettersLow (part text (without_letter h).at (without_letter h).to)
  unfolding without_letter
  next_low w = by_cases (dec_lt h.at h.to)
      (λ g.
      let d = head_long g in
      let e = part_length text (h.at + 1) h.to f.inside in
      rw (lt-ltb _ _ g) (record {
        at = λ k b. subst (λ (y : ℕ). y < 64) (part_at text h.at h.to (k + 1) (omega (arith, b, e)) ∙ ap (λ m. get_or text m 0) {x = h.at + (k + 1)} {y = h.at + 1 + k} (omega arith)
            ∙ sym (part_at text (h.at + 1) h.to k (omega (arith, b, e)))) (w.at (k + 1) (omega (arith, b, d, e)));
      }))
      (λ g. let g' : h.to ≤ h.at = omega (arith, g) in rw (le-ltb _ _ g') w)

  next_lighter : weight given (without_letter h) < weight given h
  unfolding without_letter
  next_lighter = by_cases (dec_lt h.at h.to) (λ g. rw (lt-ltb _ _ g) (omega (arith, g)))
      (λ g. let g' : h.to ≤ h.at = omega (arith, g) in let r = rest_place text given h l g' in rw (le-ltb _ _ g') (omega (arith, r)))

  first_written : source_word text given (first_source h) ≡ take 1 (placed_word text given h)
  unfolding first_source source_word
  first_written = by_cases (dec_lt h.at h.to) (λ g. rw (lt-ltb _ _ g) (sym (head_first g))) (λ g. let g' : h.to ≤ h.at = omega (arith, g) in rw (le-ltb _ _ g') (sym (bare_first g')))

  first_fits : LettersLow (part text h.at h.to) → SourceFits text given (first_source h)
  unfolding first_source source_word
  first_fits w = by_cases (dec_lt h.at h.to)
      (λ g.
      let i = f.inside in
      rw (lt-ltb _ _ g) (record {
        up = omega arith;
        short = omega arith;
        inside = omega (arith, g, i);
        low = λ _. subst LettersLow (part_take text h.at h.to 1 (omega (arith, g))) (low_take 1 (part text h.at h.to) w);
      }))
      (λ g.
      let g' : h.to ≤ h.at = omega (arith, g) in
      let r = rest_place text given h l g' in
      rw (le-ltb _ _ g') (record {
        up = omega arith;
        short = omega arith;
        inside = omega (arith, r);
        low = λ y. low_part given h.from (h.from + 1) (omega (arith, r)) y;
      }))
    where
      low_take : (n : ℕ) (u : Word) → LettersLow u → LettersLow (take n u)
      low_take n u y = record { at = λ k b. let m = length-take n u in rw (get_or-take n u k 0 (omega (arith, b, m))) (y.at k (omega (arith, b, m))) }

-- what is known stays known
module _ (text : List ℕ) (B : List Word) (fam : ℕ → ℕ) (given : Word) (h : PlacedWord) (f : WordFits text B given h) (l : HasLetter text given h)
    (none : length B ≤ clean_relation_prefix B (placed_word text given h)) (x : ℕ) (e : x ≡ get_or (placed_word text given h) 0 0) where
  module _ (q : Mark) (b : Bool) (t : HintTold text B fam given h q b) (g : q.at < q.to) (d : get_or text q.at 0 ≡ x) where
    word_is : placed_word text given h ≡ drop h.from given
    word_is = bare_word text B given h f l t.bare

    mark_long : length (placed_mark text q) ≡ q.to - q.at
    mark_long = part_length text q.at q.to t.mark.inside

    agree : get_or (placed_mark text q) 0 0 ≡ get_or (drop h.from given) 0 0
    agree =
        part_at text q.at q.to 0 (omega (arith, g)) ∙ ap (λ m. get_or text m 0) {x = q.at + 0} {y = q.at} (omega arith) ∙ d ∙ e ∙ ap (λ (w : Word). get_or w 0 0) word_is

    share : 1 ≤ common_prefix (placed_mark text q) (drop h.from given)
    share =
        let a = mark_long in
        let r = rest_place text given h l t.bare in
        let c = length-drop h.from given in
        common_most (placed_mark text q) (drop h.from given) 1 (omega (arith, a, g)) (omega (arith, c, r))
        (λ k o. subst (λ (m : ℕ). get_or (placed_mark text q) m 0 ≡ get_or (drop h.from given) m 0) {x = 0} {y = k} (omega (arith, o)) agree)

    same_mark : drop 1 (placed_mark text q) ≡ part text (q.at + 1) q.to
    same_mark = part_drop text q.at q.to 1

    same_rest : drop 1 (drop h.from given) ≡ drop (h.from + 1) given
    same_rest = drop-drop 1 h.from given

    still : possible B fam (part text (q.at + 1) q.to) (drop (h.from + 1) given) ≡ b
    still = rw (← same_mark, ← same_rest) (⊎_elim
        (λ p. possible_front B fam (drop 1 (placed_mark text q)) (drop 1 (drop h.from given)) (prefix_rest (placed_mark text q) (drop h.from given) 1 share ∙ p)
        ∙ sym (possible_front B fam (placed_mark text q) (drop h.from given) p) ∙ t.told)
        (λ p. sym (passed B fam (placed_mark text q) (drop h.from given) 1 p share (λ k o.
        subst (λ (m : ℕ). length B ≤ clean_relation_prefix B (drop m (drop h.from given))) {x = 0} {y = k} (omega (arith, o)) (rw word_is at none))) ∙ t.told)
        (true_or_false (is_prefix (placed_mark text q) (drop h.from given))))

    known_next : HintTold text B fam given (without_letter h) (record { at = q.at + 1; to = q.to }) b
    unfolding without_letter
    known_next =
        let c = t.bare in
        rw (le-ltb _ _ c) (record {
          bare = c;
          mark = record { up = omega (arith, g); inside = t.mark.inside; short = let s = t.mark.short in omega (arith, s) };
          told = still;
        })

  next_hint : (o : Option Hint) → HintRight text B fam given h o → HintRight text B fam given (without_letter h) (hint_behind text o x)
  unfolding hint_behind
  next_hint None r = tt
  next_hint (Some k) r = by_cases (dec_lt k.mark.at k.mark.to)
      (λ g. go g (eqb (get_or text k.mark.at 0) x) refl)
      (λ g. let g' : k.mark.to ≤ k.mark.at = omega (arith, g) in rw (le-ltb _ _ g') tt)
    where
      go : k.mark.at < k.mark.to → (y : Bool) → eqb (get_or text k.mark.at 0) x ≡ y → HintRight text B fam given (without_letter h) (hint_behind text (Some k) x)
      go g true d = rw (lt-ltb _ _ g, d) (known_next k.mark k.possible r g (eqb-true _ _ d))
      go g false d = rw (lt-ltb _ _ g, d) tt

lies_of : (text : List ℕ) (B : List Word) (fam : ℕ → ℕ) (given : Word) (h : PlacedWord) (o : Option Hint) → HintRight text B fam given h o → HintLies text o
lies_of text B fam given h None r = tt
lies_of text B fam given h (Some k) r = r.mark

-- the round
module _ (text table : List ℕ) (n : ℕ) (given : Word) (s : LeastState) (a : LetterAsked text table n given s) where
  pub letter_has : HasLetter text given s.word
  letter_has = record { inside = a.ready.standing.word.inside; some = a.some }

  pub letter_small : WordSmall s.word
  letter_small =
      let w = a.ready.standing.word in
      let t = a.ready.ready.text_short in
      let g = a.ready.short in
      record { to = omega (arith, w.inside, t); from = omega (arith, w.within, g) }

  pub letter_hint : HintLies text s.hint
  letter_hint = lies_of text (words_in text table n) (family_by table n) given s.word s.hint a.ready.standing.hint

  pub letter_place : s.mark.at < s.mark.to → s.mark.at < length text
  letter_place h = let i = a.ready.standing.mark.inside in omega (arith, h, i)

  pub letter_fits : s.mark.at < s.mark.to → Fits w64 (s.mark.at + 1)
  letter_fits h = let i = a.ready.standing.mark.inside in let t = a.ready.ready.text_short in omega (arith, h, i, t)

  module _ (x : ℕ) (e : x ≡ get_or (placed_word text given s.word) 0 0) (next : PlacedWord) (en : next ≡ without_letter s.word) (o : Option Hint) (eo : o ≡ hint_behind text s.hint x) where
    standing : WordFits text (words_in text table n) given s.word
    standing = a.ready.standing.word

    pub letter_writes : s.mark.to ≤ s.mark.at → (c : Source) → c ≡ first_source s.word
        → Makes text (words_in text table n) (family_by table n) given s (letter_part (placed_mark text s.mark) (placed_word text given s.word)) (Some (Stages.Go c (record { word = next; mark = s.mark; hint = o })))
    unfolding letter_part
    letter_writes h c ec =
        let m = part_none text s.mark.at s.mark.to h in
        rw (m, en, eo, ec)
        (go_makes text (words_in text table n) (family_by table n) given s (first_source s.word) (record { word = without_letter s.word; mark = s.mark; hint = hint_behind text s.hint x }) _ _ _
        (first_written text (words_in text table n) given s.word standing letter_has)
        m
        (next_word text (words_in text table n) given s.word standing letter_has)
        (record {
          source = first_fits text (words_in text table n) given s.word standing letter_has a.ready.standing.low;
          stands = record {
            word = next_fits text (words_in text table n) given s.word standing letter_has;
            low = next_low text (words_in text table n) given s.word standing letter_has a.ready.standing.low;
            mark = a.ready.standing.mark;
            hint = next_hint text (words_in text table n) (family_by table n) given s.word standing letter_has a.none x e s.hint a.ready.standing.hint;
          };
          lighter = next_lighter text (words_in text table n) given s.word standing letter_has;
        }))

    module _ (h : s.mark.at < s.mark.to) where
      some_mark : is_empty (placed_mark text s.mark) ≡ false
      some_mark = let p = part_length text s.mark.at s.mark.to a.ready.standing.mark.inside in some_of (placed_mark text s.mark) (omega (arith, p, h))

      mark_first : get_or (placed_mark text s.mark) 0 0 ≡ get_or text s.mark.at 0
      mark_first = part_at text s.mark.at s.mark.to 0 (omega (arith, h)) ∙ ap (λ m. get_or text m 0) {x = s.mark.at + 0} {y = s.mark.at} (omega arith)

      pub letter_same : get_or text s.mark.at 0 ≡ x
          → Makes text (words_in text table n) (family_by table n) given s (letter_part (placed_mark text s.mark) (placed_word text given s.word))
          (Some (Stages.Go (Sources.Given 0 0) (record { word = next; mark = record { at = s.mark.at + 1; to = s.mark.to }; hint = o })))
      unfolding letter_part source_word
      letter_same d =
          let k = a.ready.standing.mark in
          rw (some_mark, eq-eqb (get_or (placed_mark text s.mark) 0 0) (get_or (placed_word text given s.word) 0 0) (mark_first ∙ d ∙ e), en, eo)
          (go_makes text (words_in text table n) (family_by table n) given s (Sources.Given 0 0)
          (record { word = without_letter s.word; mark = record { at = s.mark.at + 1; to = s.mark.to }; hint = hint_behind text s.hint x }) _ _ _
          refl
          (sym (part_drop text s.mark.at s.mark.to 1))
          (next_word text (words_in text table n) given s.word standing letter_has)
          (record {
            source = record { up = omega arith; short = omega arith; inside = omega arith; low = λ _. empty_letters };
            stands = record {
              word = next_fits text (words_in text table n) given s.word standing letter_has;
              low = next_low text (words_in text table n) given s.word standing letter_has a.ready.standing.low;
              mark = record { up = omega (arith, h); inside = k.inside; short = omega (arith, k.short) };
              hint = next_hint text (words_in text table n) (family_by table n) given s.word standing letter_has a.none x e s.hint a.ready.standing.hint;
            };
            lighter = next_lighter text (words_in text table n) given s.word standing letter_has;
          }))

      pub letter_none : (get_or text s.mark.at 0 ≡ x → ⊥)
          → Makes text (words_in text table n) (family_by table n) given s (letter_part (placed_mark text s.mark) (placed_word text given s.word)) None
      unfolding letter_part
      letter_none d =
          rw (some_mark, ne_eqb (get_or (placed_mark text s.mark) 0 0) (get_or (placed_word text given s.word) 0 0) (λ q. d (sym mark_first ∙ q ∙ sym e)))
          (record { same = refl; stands = tt })

pub ruleset letters = (letter_has, letter_small, letter_hint, letter_place, letter_fits, letter_writes, letter_same, letter_none, rules)
