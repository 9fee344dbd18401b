-- The demands on the cut sheet: the bytes of the definition are the lengths of the cuts and the number of pieces, each at its place, and what is behind them is kept.
use Prim.Native.Nat.{ℕ, zero, suc, ◌+◌, ◌*◌, ◌≤◌, ◌<◌}
use mathlib.Core.List.{List, ◌++◌}
use mathlib.Core.Logic.{by_cases}
use mathlib.Core.Path.{◌≡◌, refl, sym, ap, ◌∙◌, subst}
use native.Mathlib.Omega.{arith}
use native.Mathlib.Decide.{dec_lt}
use borrow.Author.Tests.{lt-ltb, le-ltb}
use lib.ListN.{length, get_or, length-append, get_or-append}
use lib.Seq.{get_or-append-add}
use Rattle.words.specs.Words.{Word}
use Rattle.words.specs.Relations.{relation_words}
use Rattle.words.specs.Families.{distinct_words, side_words, word_of_side}
use Rattle.words.proofs.Distinct.{distinct_right}
use Rattle.overlap.specs.Pieces.{C4}
use Rattle.overlap.specs.Cuts.{len, ylen, x_of, z_of}
use Rattle.overlap.specs.Counts.{FewestPieces, piece_count}
use Rattle.overlap.specs.Maximal.{y_of}
use Rattle.overlap.proofs.Facts.{length_x, length_z}
use Rattle.overlap.proofs.Maximal.{x_maximal, z_maximal, cut_whole, length_y, y_has_letters, y_is_no_piece}
use Rattle.overlap.proofs.Theorems.{counts_fewest, numbers_decide, numbers_small}
use Rattle.limits.specs.Limits.{side_most, sheet_x, sheet_y, sheet_z, sheet_pieces, sheet_columns}
use Rattle.loading.specs.Sheet.{cut_row, cut_bytes, cut_sheet}
use Rattle.words.proofs.Relations.{length_words}
use Rattle.words.specs.Writing.{over}
use Rattle.writing.proofs.Writing.{over_prefix, over_behind, over_kept}
use Rattle.answers.specs.Entries.{sheet_of}
use Rattle.answers.specs.Demands.{Reports, CutsReported}
use Rattle.answers.proofs.Loaded.{loaded_c4, loaded_short}

-- the rows have the same length
length_cuts : (B : List Word) (S : List ℕ) (m : ℕ) → length (cut_bytes B S m) ≡ sheet_columns * m
unfolding cut_bytes
length_cuts B S zero = refl
length_cuts B S (suc m) = simp length-append (omega (arith, length_cuts B S m))

-- byte k of the row of side s
cut_byte : (B : List Word) (S : List ℕ) (m s k : ℕ) → s < m → k < sheet_columns → get_or (cut_bytes B S m) (sheet_columns * s + k) 0 ≡ get_or (cut_row B (get_or S s 0)) k 0
unfolding cut_bytes
cut_byte B S zero s k h b = absurd (omega arith)
cut_byte B S (suc m) s k h b =
    let l = length_cuts B S m in
    let row = cut_row B (get_or S m 0) in
    by_cases (dec_lt s m) (λ a. get_or-append (cut_bytes B S m) row 0 (sheet_columns * s + k) (omega arith) ∙ cut_byte B S m s k a b) (λ a.
    let e : s ≡ m = omega arith in
    let p : sheet_columns * s + k ≡ length (cut_bytes B S m) + k = omega arith in
    ap (λ (n : ℕ). get_or (cut_bytes B S m ++ row) n 0) p ∙ get_or-append-add (cut_bytes B S m) row k 0 ∙ ap (λ (j : ℕ). get_or (cut_row B (get_or S j 0)) k 0) (sym e))

-- what stands over the buffer reports the cuts and the numbers of pieces of the sides' words
over_reports : (sides : List Word) → C4 (distinct_words sides) → ((i : ℕ) → len (distinct_words sides) i ≤ side_most) → (old : List ℕ) (s : ℕ) → s < length sides
    → Reports sides (over (cut_sheet sides) old) s
over_reports sides c short old s h =
    let B = distinct_words sides in
    let i = word_of_side sides s in
    let l = length_cuts B (side_words sides) (length sides) in
    let at : (k : ℕ) → k < sheet_columns → get_or (over (cut_sheet sides) old) (sheet_columns * s + k) 0 ≡ get_or (cut_row B i) k 0 = λ k b.
    over_prefix (cut_sheet sides) old (sheet_columns * s + k) (omega arith) ∙ cut_byte B (side_words sides) (length sides) s k h b in
    let d = (distinct_right sides).all s h in
    let y : ylen B i ≡ length (y_of B i) = omega (arith, length_y B i) in
    record {
      x = x_of B i;
      y = y_of B i;
      z = z_of B i;
      whole = cut_whole B c i d.0 ∙ d.1;
      first = x_maximal B i d.0;
      last = z_maximal B i d.0;
      some = y_has_letters B c i d.0;
      middle = y_is_no_piece B c i d.0;
      count = piece_count B i;
      fewest = subst (λ (w : Word). FewestPieces B w (piece_count B i)) d.1 ((counts_fewest B i (piece_count B i) d.0).0 refl);
      small = λ n e. omega (arith, numbers_small.short B i n d.0 e, short i);
      enough = (numbers_decide.overlap B 4 (omega arith)).0 c i d.0;
      x_byte = at sheet_x (omega arith) ∙ sym (length_x B i);
      y_byte = at sheet_y (omega arith) ∙ y;
      z_byte = at sheet_z (omega arith) ∙ sym (length_z B i);
      pieces_byte = at sheet_pieces (omega arith);
    }

pub cuts_reported : CutsReported
unfolding sheet_of
cuts_reported =
    record {
      roomy = λ book old p e h.
          let sides = relation_words p.relations in
          let n = length_words p.relations in
          let l = length_cuts (distinct_words sides) (side_words sides) (length sides) in
          record {
            sheet = over (cut_sheet sides) old;
            is = rw (e, le-ltb (length old) (sheet_columns * (2 * length p.relations)) (omega arith));
            reports = over_reports sides (loaded_c4 book p e) (loaded_short book p e) old;
            kept = over_kept (cut_sheet sides) old (omega arith);
            behind = λ j b. over_behind (cut_sheet sides) old j (omega arith);
          };
      narrow = λ book old p e h.
          let n = length_words p.relations in
          rw (e, lt-ltb (length old) (sheet_columns * (2 * length p.relations)) (omega arith));
    }
