-- The loop that writes the least word: what it knows at its head, and a law for each way on.
use Prim.Native.Nat.{ℕ, zero, suc, ◌+◌, ◌*◌, ◌<◌, ◌≤◌}
use mathlib.Core.List.{List, [], ◌++◌, append_assoc, append-nil}
use mathlib.Core.Path.{◌≡◌, refl, sym, ap, ◌∙◌, subst}
use Rattle.std.proofs.Common.{Option, Some, None}
use native.Mathlib.Omega.{arith}
use borrow.Author.Rules.{rules}
use lib.ListN.{length, length-append}
use Rattle.words.specs.Words.{Word}
use Rattle.overlap.specs.Pieces.{C4}
use Rattle.overlap.specs.Cuts.{len}
use Rattle.overlap.proofs.Facts.{rigid_of_c4}
use Rattle.congruence.proofs.Chains.{Chain}
use Rattle.congruence.proofs.Chains.Chain.{stop}
use Rattle.congruence.proofs.ShapeNoPrefix.{no_prefix_nil}
use Rattle.words.specs.Writing.{written}
use Rattle.writing.proofs.Writing.{written_zero, written_behind}
use Rattle.limits.specs.Limits.{side_most}
use Rattle.layout.specs.Layout.{words_in}
use Rattle.layout.specs.Families.{family_by}
use Rattle.least.specs.Order.{house_rank}
use Rattle.least.specs.Writing.{write_part, Found, found, absent, behind, Parts, word_of}
use Rattle.least.specs.Writing.Part.{end, none, part as writes}
use Rattle.least.specs.Writing.Parts.{ended, failed, goes}
use Rattle.least.specs.Theorem.{longest_of, Written}
use Rattle.least.proofs.Order.{house_injective}
use Rattle.least.proofs.Marks.{marking_nothing, marking_piece}
use Rattle.least.proofs.Theorem.{families_write_least}
use Rattle.moves.specs.declared.Mark.{Mark}
use Rattle.moves.specs.State.{placed_word, placed_mark}
use Rattle.parts.specs.declared.LeastState.{LeastState}
use Rattle.parts.specs.declared.Source.{Source}
use Rattle.parts.specs.declared.Stage.{Stage}
use Rattle.parts.specs.declared.Stage.TheVariants as Stages
use Rattle.parts.specs.State.{start_state, source_word, LeastFits, LeastReady, weight, StageStands, Goes, PartMade}
use Rattle.leastword.specs.Writing.{Asked, written_most, Puttable, Put, PutFound}
use Rattle.asked.specs.Least.{least_for, least_from}
use Rattle.leastword.proofs.Letters.{source_short}

-- what is left of the rounds after one of them
module _ (B : List Word) (fam : ℕ → ℕ) where
  abbrev pub Left : Word → Word → ℕ → Found → Type 0
  Left = Parts B fam house_rank

  made_end : {p u : Word} {n : ℕ} {r : Found} → Left p u n r → write_part B fam house_rank p u ≡ end → r ≡ found []
  made_end (ended e) f = refl
  made_end (failed e) f = let g : none ≡ end = sym e ∙ f in let z : ◌≡◌ {A = ℕ} 0 1 = cc in absurd (omega arith)
  made_end (goes {c = c} {p' = p} {u' = u} e m) f = let g : writes c p u ≡ end = sym e ∙ f in let z : ◌≡◌ {A = ℕ} 0 1 = cc in absurd (omega arith)

  made_none : {p u : Word} {n : ℕ} {r : Found} → Left p u n r → write_part B fam house_rank p u ≡ none → r ≡ absent
  made_none (ended e) f = let g : end ≡ none = sym e ∙ f in let z : ◌≡◌ {A = ℕ} 0 1 = cc in absurd (omega arith)
  made_none (failed e) f = refl
  made_none (goes {c = c} {p' = p} {u' = u} e m) f = let g : writes c p u ≡ none = sym e ∙ f in let z : ◌≡◌ {A = ℕ} 0 1 = cc in absurd (omega arith)

  made_part : {p u : Word} {n : ℕ} {r : Found} → Left p u n r → (c p' u' : Word) → write_part B fam house_rank p u ≡ writes c p' u'
      → (m : ℕ) × (s : Found) × Left p' u' m s × (r ≡ behind c s)
  made_part (ended e) c p' u' f = let g : end ≡ writes c p' u' = sym e ∙ f in let z : ◌≡◌ {A = ℕ} 0 1 = cc in absurd (omega arith)
  made_part (failed e) c p' u' f = let g : none ≡ writes c p' u' = sym e ∙ f in let z : ◌≡◌ {A = ℕ} 0 1 = cc in absurd (omega arith)
  made_part (goes {c = c₀} {p' = p₀} {u' = u₀} {n = m} {r = s} e l) c p' u' f =
      let g : writes c₀ p₀ u₀ ≡ writes c p' u' = sym e ∙ f in
      let ec : c₀ ≡ c = cc in
      let ep : p₀ ≡ p' = cc in
      let eu : u₀ ≡ u' = cc in
      (m, s, rw (← ep, ← eu) l, rw ec)

-- what stands behind nothing
behind_nothing : (r : Found) → behind [] r ≡ r
behind_nothing (found w) = refl
behind_nothing absent = refl

-- two parts behind each other are one
behind_both : (a c : Word) (r : Found) → behind a (behind c r) ≡ behind (a ++ c) r
behind_both a c (found w) = ap found (sym (append_assoc a c w))
behind_both a c absent = refl

-- where relation words are short, so is the longest
pub longest_bound : (B : List Word) (most n : ℕ) → ((i : ℕ) → i < n → len B i ≤ most) → longest_of B n ≤ most
unfolding longest_of
longest_bound B most zero h = omega arith
longest_bound B most (suc n) h = omega (arith, longest_bound B most n (λ i l. h i (omega arith)), h n (omega arith))

-- the rounds from the empty mark end with the least word: there is one, since a word is congruent to itself
pub least_found : (B : List Word) (fam : ℕ → ℕ) → C4 B → (u : Word) → least_from B fam [] u ≡ found (least_for B fam u)
unfolding least_for
least_found B fam c u = go (least_from B fam [] u) refl
  where
    go : (r : Found) → least_from B fam [] u ≡ r → least_from B fam [] u ≡ found (word_of (least_from B fam [] u))
    go (found x) e = rw e
    go absent e =
        let R = rigid_of_c4 B c in
        let w = families_write_least R fam house_rank house_injective [] u (marking_nothing R) in
        absurd (w.missing.0 (sym w.computed ∙ e) u stop)

-- so many letters are written of the least word behind a piece, which the rounds from s go on with; each of them leaves less to do, and writes no more letters
-- than a relation word has
pub record Going (text table : List ℕ) (n : ℕ) (given : Word) (piece : Mark) (d : List ℕ) (s : LeastState) (b : List ℕ) (at : ℕ) : Type 0 where
  pub asked : Asked text table n given piece
  pub standing : LeastFits text (words_in text table n) (family_by table n) given s
  pub word : Word
  pub left : ℕ
  pub rest : Found
  pub parts : Left (words_in text table n) (family_by table n) (placed_mark text s.mark) (placed_word text given s.word) left rest
  pub whole : behind word rest ≡ least_from (words_in text table n) (family_by table n) (placed_mark text piece) given
  pub few : at + side_most * weight given s.word ≤ written_most
  pub counted : at ≡ length word
  pub long : length b ≡ length d
  pub same : length word ≤ length d → b ≡ written 0 word d

module _ (text table : List ℕ) (n : ℕ) (given : Word) (piece : Mark) (a : Asked text table n given piece) where
  told : Written (words_in text table n) (family_by table n) house_rank (Chain (words_in text table n) (family_by table n)) (placed_mark text piece) given
  told =
      let R = rigid_of_c4 (words_in text table n) a.ready.grouped.checked.accepted in
      families_write_least R (family_by table n) house_rank house_injective (placed_mark text piece) given (marking_piece R a.piece)

  start : (d : List ℕ) → Going text table n given piece d (start_state piece) d 0
  start d =
      let B = words_in text table n in
      let q = no_prefix_nil B (rigid_of_c4 B a.ready.grouped.checked.accepted) in
      record {
        asked = a;
        standing = record {
          word = record { up = omega arith; inside = omega arith; short = omega arith; within = omega arith; no_prefix = q };
          low = record { at = λ k h. absurd (omega arith) };
          mark = a.fits;
          hint = tt;
        };
        word = [];
        left = told.rounds;
        rest = told.result;
        parts = told.made;
        whole = behind_nothing told.result ∙ sym told.computed;
        few = omega (arith, a.short);
        counted = refl;
        long = refl;
        same = λ h. sym (written_zero [] d);
      }

  pub going_start : (s : LeastState) → s ≡ start_state piece → (d : List ℕ) → Going text table n given piece d s d 0
  going_start s e d = rw e (start d)

module _ (text table : List ℕ) (n : ℕ) (given : Word) (piece : Mark) (d : List ℕ) (s : LeastState) (b : List ℕ) (at : ℕ) (g : Going text table n given piece d s b at) where
  abbrev target : Found
  target = least_from (words_in text table n) (family_by table n) (placed_mark text piece) given

  pub going_ready : LeastReady text table n given s
  going_ready = record { ready = g.asked.ready; short = omega (arith, g.asked.short); standing = g.standing }

  module _ (r : Option Stage) (f : PartMade text table n given s r) where
    pub going_end : (x : Stage) → r ≡ Some x → x ≡ Stages.End → PutFound target d b (Some at)
    going_end x y i =
        let e : r ≡ Some Stages.End = y ∙ ap Some i in
        let q = made_end (words_in text table n) (family_by table n) g.parts (sym (rw e at f.same)) in
        let w : found (g.word ++ []) ≡ target = rw q at g.whole in
        let v : target ≡ found g.word = sym w ∙ ap found (append-nil g.word) in
        record {
          counted = rw (v, g.counted);
          long = g.long;
          same = λ x k h.
              let e : found g.word ≡ found x = sym v ∙ k in
              let y : g.word ≡ x = cc in
              rw (← y) (g.same (omega (arith, ap length y)) ∙ written_zero g.word d);
        }

    pub going_none : r ≡ None → PutFound target d b None
    going_none e =
        let q = made_none (words_in text table n) (family_by table n) g.parts (sym (rw e at f.same)) in
        let w : absent ≡ target = rw q at g.whole in
        record { counted = rw (← w); long = g.long; same = λ x k h. let a : absent ≡ found x = w ∙ k in let z : ◌≡◌ {A = ℕ} 0 1 = cc in absurd (omega arith) }

    module _ (x : Stage) (y : r ≡ Some x) (c : Source) (t : LeastState) (i : x ≡ Stages.Go c t) where
      e : r ≡ Some (Stages.Go c t)
      e = y ∙ ap Some i

      goes_on : Goes text (words_in text table n) (family_by table n) given s c t
      goes_on = subst (StageStands text (words_in text table n) (family_by table n) given s) e f.stands

      next : (m : ℕ) × (x : Found) × Left (words_in text table n) (family_by table n) (placed_mark text t.mark) (placed_word text given t.word) m x × (g.rest ≡ behind (source_word text given c) x)
      next = made_part (words_in text table n) (family_by table n) g.parts (source_word text given c) (placed_mark text t.mark) (placed_word text given t.word) (sym (rw e at f.same))

      next_whole : behind (g.word ++ source_word text given c) next.1 ≡ target
      next_whole = sym (behind_both g.word (source_word text given c) next.1) ∙ ap (behind g.word) (sym next.3) ∙ g.whole

      pub going_puttable : Puttable text given c at
      going_puttable = record { fits = goes_on.source; low = g.asked.low; few = omega (arith, g.few) }

      pub going_lighter : weight given t.word < weight given s.word
      going_lighter = goes_on.lighter

      pub going_more : (b' : List ℕ) (at' : ℕ) → Put (source_word text given c) b at b' at' → Going text table n given piece d t b' at'
      going_more b' at' p =
          let l = length-append g.word (source_word text given c) in
          record {
            asked = g.asked;
            standing = goes_on.stands;
            word = g.word ++ source_word text given c;
            left = next.0;
            rest = next.1;
            parts = next.2;
            whole = next_whole;
            few = omega (arith, g.few, p.behind, goes_on.lighter, source_short text given c goes_on.source);
            counted = omega (arith, p.behind, g.counted);
            long = p.long ∙ g.long;
            same = λ h.
                p.same (omega (arith, g.counted, g.long))
                ∙ ap (written at (source_word text given c)) (g.same (omega arith))
                ∙ written_behind 0 g.word (source_word text given c) d at (omega (arith, g.counted)) (omega arith);
          }

pub ruleset goings = (going_start, going_ready, going_end, going_none, going_puttable, going_lighter, going_more, rules)
