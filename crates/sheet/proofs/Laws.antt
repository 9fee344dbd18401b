-- The table's numbers give the cuts and the numbers of pieces of the relation words, and a law for each way that writing the sheet can go.
use Prim.Native.Nat.{ℕ, zero, suc, ◌+◌, ◌*◌, ◌≤◌, ◌<◌}
use mathlib.Core.List.{List, [], ◌∷◌, ◌++◌}
use mathlib.Core.Path.{◌≡◌, refl, sym, ap, ◌∙◌}
use native.Mathlib.Omega.{arith}
use native.Mathlib.Numerals.{add-one}
use borrow.Author.Rules.{rules}
use lib.ListN.{length, length-append}
use Rattle.limits.specs.Limits.{sheet_columns}
use Rattle.words.specs.Words.{Word}
use Rattle.words.specs.Families.{distinct_words, side_words}
use Rattle.overlap.specs.Cuts.{len, xlen, ylen, zlen}
use Rattle.overlap.specs.Counts.{PieceCount, pieces, none, number, piece_count}
use Rattle.overlap.proofs.Counts.{count_short}
use Rattle.overlap.proofs.Facts.{rigid_of_c4}
use Rattle.layout.specs.Places.{words_most, side_cell}
use Rattle.layout.specs.Layout.{pieces_of, words_in, Checked}
use Rattle.layout.specs.Families.{side_word_of, sides_in}
use Rattle.layout.proofs.Placed.{words_length, word_length}
use Rattle.layout.proofs.CutPlaces.{cuts_inside, xy_long}
use Rattle.layout.proofs.Cells.{side_at}
use Rattle.words.specs.Writing.{written, over}
use Rattle.writing.proofs.Writing.{written_zero, written_length, written_behind}
use Rattle.sheet.specs.Sheet.{x_at, y_at, z_at, row_at, sheet_bytes, CutsIn, SideIn, RowRoom, SheetRoom}
use Rattle.loading.specs.Sheet.{cut_bytes, cut_sheet, cut_row}

-- the number of pieces of a short word is a byte
number_byte : (B : List Word) (i : ℕ) → len B i < 256 → number (piece_count B i) < 256
unfolding number
number_byte B i h = go (piece_count B i) refl
  where
    go : (c : PieceCount) → piece_count B i ≡ c → number c < 256
    go (pieces n) e = omega (arith, count_short B i n e)
    go none e = omega arith

module _ (text table : List ℕ) (n : ℕ) (c : Checked text table n) where
  -- the positions are in order, since Y is not empty, and the number of pieces is a byte
  pub cuts_in : (i : ℕ) → i < n → CutsIn table i
  cuts_in i h =
      let l = c.laid in
      let k = cuts_inside text table n l c.cut i h in
      let r = (rigid_of_c4 (words_in text table n) c.accepted).some i (omega (arith, words_length text table n)) in
      let x = c.cut.x_end i h in
      record {
        room = omega (arith, l.room);
        counted = omega (arith, h, l.few, l.wide);
        x = k.0;
        y = omega (arith, xy_long text table n l c.cut i h, k.2);
        z = k.3;
        short = omega (arith, l.short i h, l.some i h);
        pieces = rw (c.cut.pieces i h) (number_byte (words_in text table n) i (omega (arith, word_length text table n l i h, l.short i h)));
      }

  row_cut : (i : ℕ) → i < n → row_at table i ≡ cut_row (words_in text table n) i
  row_cut i h =
      let k = cuts_in i h in
      let w = word_length text table n c.laid i h in
      let ex = c.cut.x_end i h in
      let ez = c.cut.z_start i h in
      let x : x_at table i ≡ xlen (words_in text table n) i = omega arith in
      let z : z_at table i ≡ zlen (words_in text table n) i = omega arith in
      let y : y_at table i ≡ ylen (words_in text table n) i = omega (arith, k.x, k.y, k.z) in
      rw (x, y, z, c.cut.pieces i h)

  -- sides whose words are known are told, with their cuts
  pub side_in : (s : ℕ) → s < words_most → side_word_of table s < n → SideIn table s
  side_in s h w = record { told = omega (arith, h, c.laid.wide); cuts = cuts_in (side_word_of table s) w }

  module _ (m : ℕ) (known : (s : ℕ) → s < m → side_word_of table s < n) where
    bytes_cut : (k : ℕ) → k ≤ m → sheet_bytes table k ≡ cut_bytes (words_in text table n) (sides_in table m) k
    unfolding sheet_bytes cut_bytes
    bytes_cut zero h = refl
    bytes_cut (suc k) h =
        rw (bytes_cut k (omega arith), row_cut (side_word_of table k) (known k (omega arith)))
        (ap (λ (i : ℕ). cut_bytes (words_in text table n) (sides_in table m) k ++ cut_row (words_in text table n) i) (sym (side_at table m k (omega arith))))

    -- the sheet by the table is the cut sheet of the sides
    pub sheet_cut : (sides : List Word) → m ≡ length sides → words_in text table n ≡ distinct_words sides → sides_in table m ≡ side_words sides
        → sheet_bytes table m ≡ cut_sheet sides
    sheet_cut sides e w t = bytes_cut m (omega arith) ∙ rw (w, t, e)

pub length_sheet : (table : List ℕ) (m : ℕ) → length (sheet_bytes table m) ≡ sheet_columns * m
unfolding sheet_bytes
length_sheet table zero = refl
length_sheet table (suc m) = simp length-append (omega (arith, length_sheet table m))

-- the row is written
module _ (table : List ℕ) (s : ℕ) (sheet : List ℕ) (i : ℕ) (w : i ≡ side_word_of table s) where
  pub row_told : RowRoom table s sheet → side_cell s < length table
  row_told r = r.side.told

  pub row_cuts : RowRoom table s sheet → CutsIn table i
  row_cuts r = rw w r.side.cuts

  pub row_written : (x y z p : ℕ) (after : List ℕ) → x ≡ x_at table i → y ≡ y_at table i → z ≡ z_at table i → p ≡ pieces_of table i
      → after ≡ written (sheet_columns * s) (x ∷ y ∷ z ∷ p ∷ []) sheet → after ≡ written (sheet_columns * s) (row_at table (side_word_of table s)) sheet
  row_written x y z p after ex ey ez ep e = rw (← w, ← ex, ← ey, ← ez, ← ep) e

pub ruleset rows = (row_told, row_cuts, row_written, rules)

-- i sides are on the sheet
pub record Sheeted (table : List ℕ) (n : ℕ) (sheet : List ℕ) (i : ℕ) (b : List ℕ) : Type 0 where
  pub room : SheetRoom table n sheet
  pub within : i ≤ n
  pub same : b ≡ written 0 (sheet_bytes table i) sheet
  pub kept : length b ≡ length sheet

pub sheeted_start : (table : List ℕ) (n : ℕ) (sheet : List ℕ) → SheetRoom table n sheet → Sheeted table n sheet 0 sheet
unfolding sheet_bytes
sheeted_start table n sheet r = record { room = r; within = omega arith; same = sym (written_zero [] sheet); kept = refl }

module _ (table : List ℕ) (n : ℕ) (sheet : List ℕ) (i : ℕ) (b : List ℕ) (s : Sheeted table n sheet i b) where
  pub sheeted_room : i < n → RowRoom table i b
  sheeted_room h =
      let p = s.room.place in
      record { side = s.room.sides i h; place = omega (arith, s.kept); early = omega (arith, s.room.few) }

  pub sheeted_more : (a : List ℕ) → i < n → a ≡ written (sheet_columns * i) (row_at table (side_word_of table i)) b → Sheeted table n sheet (i + 1) a
  unfolding sheet_bytes
  sheeted_more a h e =
      let l = length_sheet table i in
      let room = s.room.place in
      let next : sheet_bytes table (i + 1) ≡ sheet_bytes table i ++ row_at table (side_word_of table i) = ap (sheet_bytes table) (add-one i) in
      record {
        room = s.room;
        within = omega arith;
        same = e ∙ ap (written (sheet_columns * i) (row_at table (side_word_of table i))) s.same ∙ written_behind 0 (sheet_bytes table i) (row_at table (side_word_of table i)) sheet (sheet_columns * i) (omega arith) (omega arith) ∙ rw next;
        kept = ap length e ∙ written_length (sheet_columns * i) (row_at table (side_word_of table i)) b (omega (arith, s.kept)) ∙ s.kept;
      }

  pub sheeted_end : n ≤ i → b ≡ over (sheet_bytes table n) sheet
  sheeted_end h = let w = s.within in let e : i ≡ n = omega arith in rw (← e) (s.same ∙ written_zero (sheet_bytes table i) sheet)

pub ruleset sheets = (sheeted_start, sheeted_room, sheeted_more, sheeted_end, rules)
