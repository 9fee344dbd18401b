-- A law for each way that an entry can go.
use Prim.Native.Nat.{ℕ, ◌*◌, ◌<◌, ◌≤◌}
use mathlib.Core.Bool.{Bool, true, false}
use mathlib.Core.List.{List}
use mathlib.Core.Path.{◌≡◌, refl, sym, ap, ◌∙◌}
use native.Mathlib.Omega.{arith}
use borrow.Author.Rules.{rules}
use borrow.Author.Tests.{lt-ltb, le-ltb, ltb-false}
use lib.Dec.{ltb}
use lib.ListN.{length, get_or}
use mir.Val.{Fits}
use mir.Syntax.{w64}
use Rattle.std.specs.Prelude.{Result, Ok, Err}
use Rattle.words.specs.Words.{Word}
use Rattle.words.specs.Writing.{over}
use Rattle.writing.proofs.Writing.{written_zero}
use Rattle.words.specs.Relations.{relation_words}
use Rattle.words.specs.Families.{word_of_side, words_of, family_of}
use Rattle.words.proofs.Relations.{length_words}
use Rattle.words.proofs.Distinct.{distinct_right}
use Rattle.layout.specs.Places.{count_cell, text_room, table_room}
use Rattle.layout.specs.Layout.{words_in}
use Rattle.layout.specs.Families.{side_word_of, count_of, family_by, Ready}
use Rattle.layout.proofs.Placed.{words_length}
use Rattle.layout.proofs.Cells.{side_at}
use Rattle.refusals.specs.declared.Refusal.{Refusal}
use Rattle.refusals.specs.declared.Refusal.TheVariants.{Narrow}
use Rattle.format.specs.declared.BookSize.{BookSize}
use Rattle.congruence.specs.Rows.{Next, round}
use Rattle.congruence.specs.Rows.Next.{end, go}
use Rattle.limits.specs.Limits.{round_most, mark_most, next_room, sheet_columns}
use Rattle.rounds.specs.Writing as Writing
use Rattle.rounds.specs.Writing.{written_by, Lent}
use Rattle.presentation.specs.Loading.{Holding, Memory, BookLoaded}
use Rattle.presentation.proofs.Laws.{load_refused}
use Rattle.asked.specs.Given.{given_of, on_given, triple_of}
use Rattle.given.proofs.Laws.{fine_short, fine_both}
use Rattle.asked.specs.declared.Round as Made
use Rattle.asked.specs.declared.Round.TheVariants as Mades
use Rattle.asked.specs.declared.Lengths.{Lengths}
use Rattle.asked.specs.declared.Comparison.{Comparison}
use Rattle.asked.specs.Comparing.{comparison_of}
use Rattle.sheet.specs.Sheet.{sheet_bytes, SheetRoom}
use Rattle.loading.specs.Sheet.{cut_sheet}
use Rattle.sheet.proofs.Laws.{side_in, sheet_cut}
use Rattle.lines.specs.Lines.{WrittenTo}
use Rattle.output.specs.Program.{program_of}
use Rattle.output.specs.Size.{output_most}
use Rattle.answers.specs.Answers.{accepted, refusal, of_verdict, of_round, of_comparison, of_printed, of_written_word}
use Rattle.answers.specs.Entries.{check_of, SheetOutcome, sheet_of, RoundOutcome, OutputOutcome, output_of, room_of, asked_of, writing, loaded_round, round_of, compare_of, WordOutcome, loaded_least, least_of}
use Rattle.answers.specs.Parts.{SheetReady, accepted_sheet, LeastLoaded}
use Rattle.answers.specs.Demands.{Compared, LeastAnswered}
use Rattle.answers.proofs.Theorems.{compared}
use Rattle.answers.proofs.LeastWords.{least_answered}

module _ (book : List ℕ) (reading : Result BookSize Refusal) (text table : List ℕ) (d : BookLoaded book reading text table) where
  -- the check
  pub check_refused : (r : Refusal) → reading ≡ Err r → of_verdict (Err r) ≡ check_of book
  unfolding check_of
  check_refused r e = sym (rw (load_refused book reading text table d r e))

  pub check_accepted : (size : BookSize) → reading ≡ Ok size → of_verdict (Ok size.relations) ≡ check_of book
  unfolding check_of
  check_accepted size e =
      let h = d.held size e in
      let q : check_of book ≡ accepted (length h.presentation.relations) = rw h.is in
      ap accepted h.many ∙ sym q

  -- the cut sheet
  pub sheet_refused : (sheet : List ℕ) (r : Refusal) → reading ≡ Err r → SheetOutcome.after (of_verdict (Err r)) sheet ≡ sheet_of book sheet
  unfolding sheet_of
  sheet_refused sheet r e = sym (rw (load_refused book reading text table d r e))

  -- the comparison
  pub compare_refused : (u v : Word) (allowance : ℕ) (r : Refusal) → reading ≡ Err r → Compared book u v allowance (of_comparison (Err r))
  unfolding compare_of
  compare_refused u v allowance r e = compared book u v allowance (refusal r) (sym (rw (load_refused book reading text table d r e)))

  -- the round
  pub round_refused : (u v p next_u next_v next_p : List ℕ) (r : Refusal) → reading ≡ Err r
      → RoundOutcome.after (of_round (Err r)) next_u next_v next_p ≡ round_of book u v p next_u next_v next_p
  unfolding round_of
  round_refused u v p next_u next_v next_p r f = sym (rw (load_refused book reading text table d r f))

  -- the least word
  pub least_unread : (u buffer : List ℕ) (offset : ℕ) (r : Refusal) → reading ≡ Err r
      → LeastAnswered book u buffer offset (WordOutcome.after (of_written_word (Err r)) buffer)
  unfolding least_of
  least_unread u buffer offset r f =
      least_answered book u buffer offset (WordOutcome.after (of_written_word (Err r)) buffer) (sym (rw (load_refused book reading text table d r f)))

  module _ (size : BookSize) (e : reading ≡ Ok size) where
    held : Holding book size.letters size.relations text table
    held = d.held size e

    -- the words of the sides are known
    sides_known : (s : ℕ) → s < 2 * size.relations → side_word_of table s < count_of table
    sides_known s h =
        let k = held in
        let sides = relation_words k.presentation.relations in
        let n = length_words k.presentation.relations in
        let l : s < length sides = omega (arith, n, k.many, h) in
        let d = ((distinct_right sides).all s l).0 in
        let e : side_word_of table s ≡ word_of_side sides s = sym (side_at table (2 * size.relations) s h) ∙ ap (λ (S : List ℕ). get_or S s 0) k.sides in
        let c = ap length k.words in
        omega (arith, d, e, c, words_length text table (count_of table))

    pub loaded_room : count_cell < length table
    loaded_room = omega (arith, held.grouped.checked.indexed.room)

    pub loaded_ready : (n : ℕ) → n ≡ count_of table → Ready text table n
    loaded_ready n c = rw c (record { grouped = held.grouped; text_short = omega (arith, d.memory.text_roomy) })

    pub loaded_sheet : SheetReady table size.relations
    loaded_sheet =
        let h = held in
        let few : size.relations ≤ 32 = omega (arith, h.within.few_relations, h.many) in
        record { sides = λ s l. side_in text table (count_of table) h.grouped.checked s (omega (arith, few, l)) (sides_known s l); few = few }

    pub sheet_loaded : (sheet : List ℕ) (x : SheetOutcome) → x ≡ accepted_sheet table size.relations sheet → x ≡ sheet_of book sheet
    unfolding sheet_of accepted_sheet
    sheet_loaded sheet x f =
        let h = held in
        let sides = relation_words h.presentation.relations in
        let n = length_words h.presentation.relations in
        let s : sheet_bytes table (2 * size.relations) ≡ cut_sheet sides =
        sheet_cut text table (count_of table) h.grouped.checked (2 * size.relations) sides_known sides (omega (arith, n, h.many)) h.words h.sides in
        let q : sheet_of book sheet ≡ accepted_sheet table size.relations sheet = rw (h.is, ← h.many, s) in
        f ∙ sym q

    pub compare_loaded : (n : ℕ) → n ≡ count_of table → (u v : Word) (allowance : ℕ) (x : Result Comparison Refusal)
        → x ≡ comparison_of size.letters (words_in text table n) (family_by table n) u v allowance → Compared book u v allowance (of_comparison x)
    unfolding compare_of
    compare_loaded n c u v allowance x f =
        let h = held in
        let B = words_of h.presentation.relations in
        let F = family_of h.presentation.relations in
        let q : compare_of book u v allowance ≡ of_comparison (comparison_of h.presentation.letters B F u v allowance) = rw h.is in
        let g : x ≡ comparison_of h.presentation.letters B F u v allowance = f ∙ rw (c, h.words, h.families, ← h.lettered) in
        compared book u v allowance (of_comparison x) (ap of_comparison g ∙ sym q)

    pub round_loaded : (n : ℕ) → n ≡ count_of table → (u v p next_u next_v next_p : List ℕ) (x : RoundOutcome)
        → x ≡ loaded_round size.letters (words_in text table n) (family_by table n) u v p next_u next_v next_p → x ≡ round_of book u v p next_u next_v next_p
    unfolding round_of
    round_loaded n c u v p next_u next_v next_p x f =
        let h = held in
        let B = words_of h.presentation.relations in
        let F = family_of h.presentation.relations in
        let g = rw (c, h.words, h.families) at f in
        let q : round_of book u v p next_u next_v next_p ≡ loaded_round size.letters B F u v p next_u next_v next_p = rw (h.is, ← h.lettered) in
        g ∙ sym q

    pub loaded_letters : (n : ℕ) → n ≡ count_of table → LeastLoaded text table n size.letters
    loaded_letters n c = let h = held in record { ready = loaded_ready n c; few = omega (arith, h.within.few, h.lettered) }

    pub least_loaded : (n : ℕ) → n ≡ count_of table → (u buffer : List ℕ) (offset : ℕ) (x : WordOutcome)
        → x ≡ loaded_least size.letters (words_in text table n) (family_by table n) u buffer offset → LeastAnswered book u buffer offset x
    unfolding least_of
    least_loaded n c u buffer offset x f =
        let h = held in
        let B = words_of h.presentation.relations in
        let F = family_of h.presentation.relations in
        let g = rw (c, h.words, h.families) at f in
        let q : least_of book u buffer offset ≡ loaded_least size.letters B F u buffer offset = rw (h.is, ← h.lettered) in
        least_answered book u buffer offset x (g ∙ sym q)

pub memory_made : (text table : List ℕ) → length text ≡ text_room → length table ≡ table_room → Memory text table
memory_made text table h k = record { text_roomy = h; table_roomy = k }

pub ruleset checks = (memory_made, check_refused, check_accepted, rules)

pub ruleset cut_sheets = (memory_made, sheet_refused, loaded_sheet, sheet_loaded, rules)

pub ruleset compares = (memory_made, compare_refused, loaded_room, loaded_ready, compare_loaded, rules)

pub ruleset singles = (memory_made, round_refused, loaded_room, loaded_ready, round_loaded, rules)

pub ruleset leasts = (memory_made, least_unread, loaded_room, loaded_letters, least_loaded, rules)

-- the sheet by the table
module _ (table : List ℕ) (count : ℕ) (s : SheetReady table count) (sheet : List ℕ) where
  pub sheet_fits : Fits w64 (sheet_columns * (2 * count))
  sheet_fits = omega (arith, s.few)

  pub words_fit : Fits w64 (2 * count)
  words_fit = omega (arith, s.few)

  pub sheet_narrow : length sheet < sheet_columns * (2 * count) → SheetOutcome.after (of_verdict (Err (Narrow 0))) sheet ≡ accepted_sheet table count sheet
  unfolding accepted_sheet
  sheet_narrow h = rw (lt-ltb _ _ h)

  pub sheet_roomy : sheet_columns * (2 * count) ≤ length sheet → SheetRoom table (2 * count) sheet
  sheet_roomy h = record { sides = s.sides; place = omega arith; few = omega (arith, s.few) }

  pub sheet_written : (out : List ℕ) → sheet_columns * (2 * count) ≤ length sheet → out ≡ over (sheet_bytes table (2 * count)) sheet
      → SheetOutcome.after (of_verdict (Ok count)) out ≡ accepted_sheet table count sheet
  unfolding accepted_sheet
  sheet_written out h e = rw (le-ltb _ _ h, e)

pub ruleset table_sheets = (sheet_fits, words_fit, sheet_narrow, sheet_roomy, sheet_written, rules)

-- what is given to a round
module _ (letters : ℕ) (u v p : Word) (room_u room_v room_p : ℕ) (g : Result (Unit {0}) Refusal) (e : g ≡ triple_of letters u v p) where
  pub asked_words : (r : Refusal) → g ≡ Err r → g ≡ asked_of letters u v p room_u room_v room_p
  unfolding asked_of
  asked_words r f = rw (← e, f)

  pub asked_room : (x : Result (Unit {0}) Refusal) → g ≡ Ok tt → x ≡ room_of room_u room_v room_p → x ≡ asked_of letters u v p room_u room_v room_p
  unfolding asked_of
  asked_room x f h = rw (← e, f) h

pub ruleset askeds = (asked_words, asked_room, rules)

-- what is fine is within its limits
fine_room : (room_u room_v room_p : ℕ) → room_of room_u room_v room_p ≡ Ok tt → (next_room ≤ room_u) × (next_room ≤ room_v) × (mark_most ≤ room_p)
unfolding room_of
fine_room room_u room_v room_p e = go (ltb room_u next_room) refl (ltb room_v next_room) refl (ltb room_p mark_most) refl
  where
    go : (x : Bool) → ltb room_u next_room ≡ x → (y : Bool) → ltb room_v next_room ≡ y → (z : Bool) → ltb room_p mark_most ≡ z
        → (next_room ≤ room_u) × (next_room ≤ room_v) × (mark_most ≤ room_p)
    go true p y q z r = let f : Err (Narrow 0) ≡ Ok tt = rw p at e in let o : ◌≡◌ {A = ℕ} 0 1 = cc in absurd (omega arith)
    go false p true q z r = let f : Err (Narrow 1) ≡ Ok tt = rw (p, q) at e in let o : ◌≡◌ {A = ℕ} 0 1 = cc in absurd (omega arith)
    go false p false q true r = let f : Err (Narrow 2) ≡ Ok tt = rw (p, q, r) at e in let o : ◌≡◌ {A = ℕ} 0 1 = cc in absurd (omega arith)
    go false p false q false r = (ltb-false room_u next_room p, ltb-false room_v next_room q, ltb-false room_p mark_most r)

fine_asked : (letters : ℕ) (u v p : Word) (room_u room_v room_p : ℕ) → asked_of letters u v p room_u room_v room_p ≡ Ok tt
    → (length u ≤ 4160) × (length v ≤ 4160) × (length p ≤ 64) × (4224 ≤ room_u) × (4224 ≤ room_v) × (64 ≤ room_p)
unfolding asked_of triple_of
fine_asked letters u v p room_u room_v room_p e =
    let t = fine_both (triple_of letters u v p) (room_of room_u room_v room_p) e in
    let x = fine_both (given_of 0 round_most letters u) (on_given (given_of 1 round_most letters v) Err (given_of 2 mark_most letters p)) t.0 in
    let y = fine_both (given_of 1 round_most letters v) (given_of 2 mark_most letters p) x.1 in
    let r = fine_room room_u room_v room_p t.1 in
    (fine_short 0 round_most letters u x.0, fine_short 1 round_most letters v y.0, fine_short 2 mark_most letters p y.1, r.0, r.1, r.2)

-- a round under a loaded book
pub loaded_lent : (text table : List ℕ) (n letters : ℕ) (u v p next_u next_v next_p : List ℕ) → Ready text table n
    → Ok tt ≡ asked_of letters u v p (length next_u) (length next_v) (length next_p) → Lent text table n u v p next_u next_v next_p
loaded_lent text table n letters u v p next_u next_v next_p r e =
    let k = fine_asked letters u v p (length next_u) (length next_v) (length next_p) (sym e) in
    record { given = record { grouped = r.grouped; short_u = k.0; short_v = k.1; short_p = k.2 }; room_u = k.3; room_v = k.4; room_p = k.5 }

module _ (text table : List ℕ) (n letters : ℕ) (u v p next_u next_v next_p : List ℕ) (g : Result (Unit {0}) Refusal) (e : g ≡ asked_of letters u v p (length next_u) (length next_v) (length next_p)) where
  pub loaded_refused : (r : Refusal) → g ≡ Err r
      → RoundOutcome.after (of_round (Err r)) next_u next_v next_p ≡ loaded_round letters (words_in text table n) (family_by table n) u v p next_u next_v next_p
  unfolding loaded_round
  loaded_refused r f = rw (← e, f)

  -- the round's outcome in document 01's words
  written : (x : Next) (s : Made.Round Lengths) (next_u' next_v' next_p' : List ℕ) → Writing.after s next_u' next_v' next_p' ≡ written_by x next_u next_v next_p
      → RoundOutcome.after (of_round (Ok s)) next_u' next_v' next_p' ≡ writing x next_u next_v next_p
  unfolding written_by
  written (end b) s next_u' next_v' next_p' q =
      let es : s ≡ Mades.End b = cc in
      let ea : next_u' ≡ next_u = cc in
      let ec : next_v' ≡ next_v = cc in
      let ed : next_p' ≡ next_p = cc in
      rw (es, ea, ec, ed)
  written (go x y z) s next_u' next_v' next_p' q =
      let es : s ≡ Mades.Next (record { u = length x; v = length y; p = length z }) = cc in
      let ea : next_u' ≡ over x next_u = cc in
      let ec : next_v' ≡ over y next_v = cc in
      let ed : next_p' ≡ over z next_p = cc in
      rw (es, ea, ec, ed)

  pub loaded_made : g ≡ Ok tt → (s : Made.Round Lengths) (next_u' next_v' next_p' : List ℕ)
      → Writing.after s next_u' next_v' next_p' ≡ written_by (round (words_in text table n) (family_by table n) u v p) next_u next_v next_p
      → RoundOutcome.after (of_round (Ok s)) next_u' next_v' next_p' ≡ loaded_round letters (words_in text table n) (family_by table n) u v p next_u next_v next_p
  unfolding loaded_round
  loaded_made f s next_u' next_v' next_p' q = rw (← e, f) (written (round (words_in text table n) (family_by table n) u v p) s next_u' next_v' next_p' q)

pub ruleset loadeds = (loaded_refused, loaded_lent, loaded_made, rules)

-- the program
pub output_narrow : (input out : List ℕ) → length out < output_most → OutputOutcome.after (of_printed (Err (Narrow 0))) out ≡ output_of input out
unfolding output_of
output_narrow input out h = rw (lt-ltb _ _ h)

pub output_written : (input out b : List ℕ) (r : ℕ) → output_most ≤ length out → WrittenTo out 0 (program_of input) b r
    → OutputOutcome.after (of_printed (Ok r)) b ≡ output_of input out
unfolding output_of
output_written input out b r h p =
    let n : r ≡ length (program_of input) = omega (arith, p.behind) in
    let q : b ≡ over (program_of input) out = p.same ∙ written_zero (program_of input) out in
    rw (le-ltb _ _ h, n, q)

pub ruleset prints = (output_narrow, output_written, rules)
