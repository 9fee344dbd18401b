-- The lines of the program are those of the check and of comparisons: record by record, as its definition goes.
use Prim.Native.Nat.{ℕ, zero, suc, ◌+◌, ◌-◌, ◌≤◌}
use mathlib.Core.Bool.{Bool, true, false, not, cond, true≢false}
use mathlib.Core.List.{List, [], ◌++◌}
use mathlib.Core.Logic.{◌⊎◌, inl, inr, ⊎_elim}
use mathlib.Core.Path.{◌≡◌, refl, sym, ap, ◌∙◌, subst}
use native.Mathlib.Omega.{arith}
use borrow.Author.Tests.{eq-eqb, le-ltb, leb-true, leb-false}
use lib.Dec.{leb}
use lib.ListN.{length, take, drop, take-append-drop}
use Rattle.std.specs.Prelude.{Option, Some, None, Result, Ok, Err}
use Rattle.words.specs.Words.{Word, part}
use Rattle.words.proofs.Parts.{part_length, part_take, part_drop}
use Rattle.words.specs.Families.{words_of, family_of}
use Rattle.limits.specs.Limits.{comparison_kind, comparison_fixed_payload, input_most}
use Rattle.limits.specs.declared.Record.{Record}
use Rattle.refusals.specs.declared.Refusal.{Refusal}
use Rattle.refusals.specs.declared.Refusal.TheVariants.{Short, Kind, Length}
use Rattle.refusals.specs.Refusals.{number_and_place}
use Rattle.format.specs.Book.{Presentation, BookReading, field, record_at, differs}
use Rattle.format.proofs.Readings.{passed, equal_of, whole_at, passed_whole}
use Rattle.loading.specs.Loading.{load_book}
use Rattle.asked.specs.declared.Comparison.{Comparison}
use Rattle.asked.specs.declared.Comparison.TheVariants as Comparisons
use Rattle.asked.specs.Comparing.{comparison_of}
use Rattle.spelling.specs.Lines.{line_of}
use Rattle.output.specs.declared.Request.{Request}
use Rattle.output.specs.Requests.{long_field, fields_of, request_at}
use Rattle.output.specs.Program.{book_text, refused_line, comparison_line, by_request, lines_from, by_loading, book_end, program_of}
use Rattle.answers.specs.Answers.{Answer, accepted, refused, refusal, of_comparison}
use Rattle.answers.specs.Entries.{check_of, compare_of}
use Rattle.answers.specs.Program.{Line, ComparedLine, Asks, Stops, Lines, book_before, ProgramCompares}
use Rattle.answers.proofs.Theorems.{compared}

-- the line of a refusal, and of what a comparison gives
refusal_line : (r : Refusal) → Line (refusal r) (refused_line r)
unfolding refused_line
refusal_line r = Line.refused_line (number_and_place r).number (number_and_place r).place

comparison_line_lem : (c : Result Comparison Refusal) → Line (of_comparison c) (comparison_line c)
comparison_line_lem (Ok (Comparisons.Same n)) = Line.same_line n
comparison_line_lem (Ok (Comparisons.Different n)) = Line.different_line n
comparison_line_lem (Err r) = refusal_line r

-- a part, from one place to another and from there on
part_join : (text : List ℕ) (a b c : ℕ) → a ≤ b → b ≤ c → part text a c ≡ part text a b ++ part text b c
part_join text a b c h k =
    let e : a + (b - a) ≡ b = omega arith in
    let t : take (b - a) (part text a c) ≡ part text a b = part_take text a c (b - a) (omega arith) ∙ ap (part text a) e in
    let d : drop (b - a) (part text a c) ≡ part text b c = part_drop text a c (b - a) ∙ ap (λ (n : ℕ). part text n c) e in
    sym (take-append-drop (b - a) (part text a c)) ∙ cc (t, d)

refused_or_compare : (request : Request) (r : Refusal) → ◌≡◌ {A = Result Request Refusal} (Err r) (Ok request) → ⊥
refused_or_compare request r e = let z : ◌≡◌ {A = ℕ} 0 1 = cc in omega arith

request_same : (a b : Request) → ◌≡◌ {A = Result Request Refusal} (Ok a) (Ok b) → a ≡ b
request_same a b e = cc

-- what the bytes of a record are that asks for a comparison
asks_of : (input : List ℕ) (at : ℕ) (request : Request) → request_at input at ≡ Ok request
    → Asks input at (part input request.first request.second) (part input request.second request.end) request.allowance request.end
unfolding request_at fields_of
asks_of input at request e =
    let first = request.first in
    let second = request.second in
    let end = request.end in
    let other = refused_or_compare request in
    let o = passed_whole (record_at input at) _ _ _ (other _) e in
    let w = whole_at input at o.0 o.1 o.2 o.3 in
    let b = passed (differs o.0 comparison_kind) _ _ _ (other _) o.4 in
    let c = passed (differs (o.2 - o.1) (comparison_fixed_payload + field input (o.1 + 4) + field input (o.1 + 6))) _ _ _ (other _) b.1 in
    let k = equal_of o.0 comparison_kind b.0 in
    let l = equal_of (o.2 - o.1) (comparison_fixed_payload + field input (o.1 + 4) + field input (o.1 + 6)) c.0 in
    let q = request_same _ _ c.1 in
    let t : long_field input o.1 ≡ request.allowance = ap (λ (r : Request). r.allowance) q in
    let x : o.1 + comparison_fixed_payload ≡ request.first = ap (λ (r : Request). r.first) q in
    let y : o.1 + comparison_fixed_payload + field input (o.1 + 4) ≡ request.second = ap (λ (r : Request). r.second) q in
    let z : o.2 ≡ request.end = ap (λ (r : Request). r.end) q in
    let m : field input (o.1 + 4) ≡ field input (at + 4 + 4) = ap (λ (i : ℕ). field input (i + 4)) w.start in
    let n : field input (o.1 + 6) ≡ field input (at + 4 + 6) = ap (λ (i : ℕ). field input (i + 6)) w.start in
    let f = w.fits in
    let s = w.start in
    let r = w.end in
    let lu = part_length input first second (omega arith) in
    let lv = part_length input second end (omega arith) in
    let j : at + 4 + 8 ≡ first = omega arith in
    record {
      size = omega arith;
      kind = sym w.kinds ∙ k;
      allowed = ap (long_field input) (sym s) ∙ t;
      first = omega arith;
      second = omega arith;
      letters = ap (λ (i : ℕ). part input i end) j ∙ part_join input first second end (omega arith) (omega arith);
      ends = omega arith;
      inside = omega arith;
    }

-- numbers that differ
apart_of : (m n : ℕ) → differs m n ≡ true → ¬ (m ≡ n)
apart_of m n e f = true≢false (sym e ∙ ap not (eq-eqb m n f))

-- the cases of a choice
chosen : {A : Type 0} (b : Bool) (x y r : A) → cond b x y ≡ r → ((b ≡ true) × (x ≡ r)) ⊎ ((b ≡ false) × (y ≡ r))
chosen true x y r e = inl (refl, e)
chosen false x y r e = inr (refl, e)

-- a record of a kind
abbrev with_kind : ℕ → ℕ → ℕ → Option Record
with_kind kind from to = Some (record { kind = kind; from = from; to = to })

-- why a record is refused
stops_of : (input : List ℕ) (at : ℕ) (r : Refusal) → request_at input at ≡ Err r → (n : ℕ) × (refusal r ≡ refused n at) × Stops input at n
unfolding request_at fields_of
stops_of input at r e = go (record_at input at) refl
  where
    told : (x : Refusal) (n : ℕ) → ◌≡◌ {A = Result Request Refusal} (Err x) (Err r) → refusal x ≡ refused n at → refusal r ≡ refused n at
    told x n f g = let d : x ≡ r = cc in ap refusal (sym d) ∙ g

    go : (o : Option Record) → record_at input at ≡ o → (n : ℕ) × (refusal r ≡ refused n at) × Stops input at n
    go None f = (1, told (Short at) 1 (rw f at e) refl, Stops.short f)
    go (Some there) f =
        ⊎_elim (λ (c : (differs there.kind comparison_kind ≡ true) × (◌≡◌ {A = Result Request Refusal} (Err (Kind at)) (Err r))).
        (2, told (Kind at) 2 c.1 refl, Stops.kind there.kind there.from there.to f (apart_of there.kind comparison_kind c.0))) (λ (c : (differs there.kind comparison_kind ≡ false) × (fields_of input at there.from there.to ≡ Err r)).
        let k = equal_of there.kind comparison_kind c.0 in
        ⊎_elim (λ (d : (differs (there.to - there.from) (comparison_fixed_payload + field input (there.from + 4) + field input (there.from + 6)) ≡ true) × (◌≡◌ {A = Result Request Refusal} (Err (Length at)) (Err r))).
        (3, told (Length at) 3 d.1 refl, Stops.misfit there.from there.to (f ∙ ap (λ (i : ℕ). with_kind i there.from there.to) k) (apart_of (there.to - there.from) (comparison_fixed_payload + field input (there.from + 4) + field input (there.from + 6)) d.0))) (λ d.
        absurd (refused_or_compare _ r (sym d.1)))
        (chosen (differs (there.to - there.from) (comparison_fixed_payload + field input (there.from + 4) + field input (there.from + 6))) _ _ (Err r) c.1))
        (chosen (differs there.kind comparison_kind) _ _ (Err r) (rw f at e))

module _ (book input : List ℕ) (p : Presentation) (l : load_book book ≡ BookReading.read p) where
  -- a comparison under the words of the book's presentation is one under the book
  compared_line : (u v : Word) (allowance : ℕ)
      → ComparedLine book u v allowance (comparison_line (comparison_of p.letters (words_of p.relations) (family_of p.relations) u v allowance))
  unfolding compare_of
  compared_line u v allowance =
      let c = comparison_of p.letters (words_of p.relations) (family_of p.relations) u v allowance in
      record { answer = of_comparison c; compared = compared book u v allowance (of_comparison c) (rw l); says = comparison_line_lem c }

  lines_say : (fuel at : ℕ) → length input ≤ at + fuel → Lines book input at (lines_from fuel p.letters (words_of p.relations) (family_of p.relations) input at)
  unfolding lines_from
  lines_say zero at h = Lines.none {at = at} (omega arith)
  lines_say (suc fuel) at h = step (leb (length input) at) refl (request_at input at) refl (λ end k. lines_say fuel end k)
    where
      step : (b : Bool) → leb (length input) at ≡ b → (r : Result Request Refusal) → request_at input at ≡ r
          → ((end : ℕ) → length input ≤ end + fuel → Lines book input end (lines_from fuel p.letters (words_of p.relations) (family_of p.relations) input end))
          → Lines book input at (cond b []
          (by_request (lines_from fuel p.letters (words_of p.relations) (family_of p.relations) input) p.letters (words_of p.relations) (family_of p.relations) input r))
      step true e r f ih = Lines.none (leb-true (length input) at e)
      step false e (Err x) f ih =
          let (n, d, s) = stops_of input at x f in
          Lines.stops n (leb-false (length input) at e) s (subst (λ (a : Answer). Line a (refused_line x)) d (refusal_line x))
      step false e (Ok request) f ih =
          let w = asks_of input at request f in
          let u = part input request.first request.second in
          let v = part input request.second request.end in
          Lines.compares u v request.allowance request.end _ _ w (compared_line u v request.allowance) (ih request.end (omega (arith, w.ends))) refl

-- what is written for an input that is not too long
light_output : (input : List ℕ) → length input ≤ input_most → program_of input ≡ by_loading input (load_book (book_before input))
unfolding program_of
light_output input h = rw (le-ltb 60000 (length input) h)

accepted_or_refused : (n m place : ℕ) → accepted n ≡ refused m place → ⊥
accepted_or_refused n m place e = let z : ◌≡◌ {A = ℕ} 0 1 = cc in omega arith

module _ (input : List ℕ) (h : length input ≤ input_most) where
  program_refuses : (n place : ℕ) → check_of (book_before input) ≡ refused n place → Line (refused n place) (program_of input)
  unfolding check_of
  program_refuses n place e = step (load_book (book_before input)) refl
    where
      step : (o : BookReading) → load_book (book_before input) ≡ o → Line (refused n place) (program_of input)
      step (BookReading.refused r) f =
          let d : refusal r ≡ refused n place = rw f at e in
          let g : program_of input ≡ refused_line r = light_output input h ∙ ap (by_loading input) f in
          subst (λ (s : List ℕ). Line (refused n place) s) (sym g) (subst (λ (a : Answer). Line a (refused_line r)) d (refusal_line r))
      step (BookReading.read p) f = absurd (accepted_or_refused (length p.relations) n place (rw f at e))

  program_accepts : (n : ℕ) → check_of (book_before input) ≡ accepted n
      → (line : List ℕ) × (rest : List ℕ) × Line (accepted n) line × Lines (book_before input) input (book_end input) rest × (program_of input ≡ line ++ rest)
  unfolding check_of
  program_accepts n e = step (load_book (book_before input)) refl
    where
      step : (o : BookReading) → load_book (book_before input) ≡ o
          → (line : List ℕ) × (rest : List ℕ) × Line (accepted n) line × Lines (book_before input) input (book_end input) rest × (program_of input ≡ line ++ rest)
      step (BookReading.refused r) f = let d : refusal r ≡ accepted n = rw f at e in absurd (accepted_or_refused n _ _ (sym d))
      step (BookReading.read p) f =
          let d : accepted (length p.relations) ≡ accepted n = rw f at e in (
            line_of book_text (length p.relations),
            lines_from (length input) p.letters (words_of p.relations) (family_of p.relations) input (book_end input),
            subst (λ (a : Answer). Line a (line_of book_text (length p.relations))) d (Line.book_line (length p.relations)),
            lines_say (book_before input) input p f (length input) (book_end input) (omega arith),
            light_output input h ∙ ap (by_loading input) f,
          )

pub program_compares : ProgramCompares
program_compares input h = record { refuses = program_refuses input h; accepts = program_accepts input h }
