-- Laws of the code that reads the input: where the book ends, and what a record of the kind 3 part asks for.
use Prim.Native.Nat.{ℕ, zero, suc, ◌+◌, ◌-◌, ◌≤◌, ◌<◌}
use mathlib.Core.Bool.{Bool, true, false}
use mathlib.Core.List.{List}
use mathlib.Core.Path.{◌≡◌, refl, sym, ap, ◌∙◌}
use native.Mathlib.Omega.{arith}
use borrow.Author.Rules.{rules}
use borrow.Author.Tests.{eq-eqb, ne_eqb, lt-ltb, le-ltb}
use lib.Dec.{eqb, ltb}
use lib.ListN.{length}
use mir.Val.{Fits}
use mir.Syntax.{w64}
use Rattle.std.specs.Prelude.{Option, Some, None, Result, Ok, Err}
use Rattle.refusals.specs.declared.Refusal.{Refusal}
use Rattle.refusals.specs.declared.Refusal.TheVariants.{Short, Kind, Length}
use Rattle.limits.specs.declared.Record.{Record}
use Rattle.limits.specs.Limits.{comparison_kind, comparison_fixed_payload}
use Rattle.format.specs.Book.{field, record_at, differs}
use Rattle.format.proofs.Readings.{passed, passed_whole, equal_of, WholeAt, whole_at}
use Rattle.records.specs.Reads.{Field, Payload}
use Rattle.output.specs.declared.Request.{Request}
use Rattle.output.specs.Requests.{long_field, fields_of, request_at}
use Rattle.output.specs.Program.{book_end_from, book_end}

-- the book goes on at a position
pub record Ending (input : List ℕ) (at : ℕ) : Type 0 where
  pub within : at ≤ length input
  pub most : ℕ
  pub enough : length input ≤ at + most
  pub same : book_end input ≡ book_end_from most input at

pub ending_start : (input : List ℕ) → Ending input 0
ending_start input = record { within = omega arith; most = length input; enough = omega arith; same = refl }

-- the tests that the definition makes, where at least four bytes are left
module _ (input : List ℕ) (at : ℕ) (e : Ending input at) where
  pub ending_stray : length input - at < 4 → length input ≡ book_end input
  unfolding book_end_from
  ending_stray h = step e.most e.same
    where
      step : (most : ℕ) → book_end input ≡ book_end_from most input at → length input ≡ book_end input
      step zero s = sym s
      step (suc most) s = let w = e.within in sym (s ∙ rw (lt-ltb (length input) (at + 4) (omega arith)))

  module _ (h : 4 ≤ length input - at) where
    pub ending_room : at + 2 + 1 < length input
    ending_room = omega arith

    module _ (k : ℕ) (f : Field input (at + 2) k) where
      pub ending_found : k ≡ 3 → at ≡ book_end input
      unfolding book_end_from
      ending_found g = step e.most e.enough e.same
        where
          q : eqb (field input (at + 2)) comparison_kind ≡ true
          q = rw (← f.same) (eq-eqb k 3 g)

          step : (most : ℕ) → length input ≤ at + most → book_end input ≡ book_end_from most input at → at ≡ book_end input
          step zero l s = absurd (omega arith)
          step (suc most) l s = sym (s ∙ rw (le-ltb (length input) (at + 4) (omega arith), q))

      module _ (g : k ≡ 3 → ⊥) (o : Option Record) (r : o ≡ record_at input at) where
        pub ending_cut : o ≡ None → length input ≡ book_end input
        unfolding book_end_from record_at
        ending_cut c = step e.most e.enough e.same
          where
            q : eqb (field input (at + 2)) comparison_kind ≡ false
            q = rw (← f.same) (ne_eqb k 3 g)

            cut : ltb (length input) (at + 4 + field input at) ≡ true
            cut = go (ltb (length input) (at + 4 + field input at)) refl
              where
                go : (b : Bool) → ltb (length input) (at + 4 + field input at) ≡ b → ltb (length input) (at + 4 + field input at) ≡ true
                go true x = x
                go false x =
                    let z : ◌≡◌ {A = Option Record} None (Some (record { kind = field input (at + 2); from = at + 4; to = at + 4 + field input at })) = sym c ∙ r ∙ rw (le-ltb (length input) (at + 4) (omega arith), x) in
                    absurd (let y : ◌≡◌ {A = ℕ} 0 1 = cc in omega arith)

            step : (most : ℕ) → length input ≤ at + most → book_end input ≡ book_end_from most input at → length input ≡ book_end input
            step zero l s = absurd (omega arith)
            step (suc most) l s = sym (s ∙ rw (le-ltb (length input) (at + 4) (omega arith), q, cut))

        module _ (there : Record) (c : o ≡ Some there) where
          whole : WholeAt input at there.kind there.from there.to
          whole = whole_at input at there.kind there.from there.to (sym r ∙ c)

          pub ending_more : Ending input there.to
          unfolding book_end_from
          ending_more = step e.most e.enough e.same
            where
              q : eqb (field input (at + 2)) comparison_kind ≡ false
              q = rw (← f.same) (ne_eqb k 3 g)

              x : there.to ≡ at + 4 + field input at
              x = whole.end

              y : there.to ≤ length input
              y = whole.fits

              step : (most : ℕ) → length input ≤ at + most → book_end input ≡ book_end_from most input at → Ending input there.to
              step zero l s = absurd (omega arith)
              step (suc most) l s =
                  record {
                    within = y;
                    most = most;
                    enough = omega (arith, x);
                    same = s ∙ rw (le-ltb (length input) (at + 4) (omega arith), q, le-ltb (length input) (at + 4 + field input at) (omega (arith, x, y)), x);
                  }

          pub ending_less : length input - there.to < length input - at
          ending_less = omega (arith, whole.end, whole.fits)

pub ruleset endings = (ending_start, ending_stray, ending_room, ending_found, ending_cut, ending_more, ending_less, rules)

-- the fields of a comparison
module _ (input : List ℕ) (place from to : ℕ) (p : Payload input from to) where
  pub fields_none : to - from < 8 → Err (Length place) ≡ fields_of input place from to
  unfolding fields_of
  fields_none h = rw (ne_eqb (to - from) (8 + field input (from + 4) + field input (from + 6)) (λ q. omega arith))

  module _ (h : 8 ≤ to - from) where
    pub fields_first : from + 4 + 1 < length input
    fields_first = omega (arith, p.inside)

    pub fields_second : from + 6 + 1 < length input
    fields_second = omega (arith, p.inside)

    pub fields_allowance : from + 3 < length input
    fields_allowance = omega (arith, p.inside)

  module _ (m : ℕ) (v : Field input (from + 4) m) (n : ℕ) (w : Field input (from + 6) n) where
    pub fields_sum : Fits w64 (8 + m + n)
    fields_sum = omega (arith, v.small, w.small)

    pub fields_length : (to - from ≡ 8 + m + n → ⊥) → Err (Length place) ≡ fields_of input place from to
    unfolding fields_of
    fields_length h = rw (← v.same, ← w.same, ne_eqb (to - from) (8 + m + n) h)

    pub fields_good : to - from ≡ 8 + m + n → (a : ℕ) → a ≡ long_field input from → Ok (record { allowance = a; first = from + 8; second = from + 8 + m; end = to }) ≡ fields_of input place from to
    unfolding fields_of
    fields_good h a e = rw (← v.same, ← w.same, eq-eqb (to - from) (8 + m + n) h, e)

pub ruleset fieldsets = (fields_none, fields_first, fields_second, fields_allowance, fields_sum, fields_length, fields_good, rules)

-- a record
module _ (input : List ℕ) (at : ℕ) (o : Option Record) (e : o ≡ record_at input at) where
  pub request_short : o ≡ None → Err (Short at) ≡ request_at input at
  unfolding request_at
  request_short f = rw (← e, f)

  module _ (there : Record) (f : o ≡ Some there) where
    pub request_payload : Payload input there.from there.to
    request_payload = let w = whole_at input at there.kind there.from there.to (sym e ∙ f) in record { order = omega (arith, w.start, w.end); inside = w.fits }

    pub request_kind : (there.kind ≡ 3 → ⊥) → Err (Kind at) ≡ request_at input at
    unfolding request_at
    request_kind k = rw (← e, f, ne_eqb there.kind 3 k)

    pub request_fields : there.kind ≡ 3 → (r : Result Request Refusal) → r ≡ fields_of input at there.from there.to → r ≡ request_at input at
    unfolding request_at
    request_fields k r g = rw (← e, f, eq-eqb there.kind 3 k) g

pub ruleset requests = (request_short, request_payload, request_kind, request_fields, rules)

-- where the words of a comparison lie in the input, and what its allowance is
pub record Lies (input : List ℕ) (at allowance first second end : ℕ) : Type 0 where
  pub order : first ≤ second
  pub next : second ≤ end
  pub inside : end ≤ length input
  pub behind : at + 12 ≤ end
  pub allowed : allowance ≡ long_field input (at + 4)

refused_or_compare : (request : Request) (r : Refusal) → ◌≡◌ {A = Result Request Refusal} (Err r) (Ok request) → ⊥
refused_or_compare request r e = let z : ◌≡◌ {A = ℕ} 0 1 = cc in omega arith

request_same : (a b : Request) → ◌≡◌ {A = Result Request Refusal} (Ok a) (Ok b) → a ≡ b
request_same a b e = cc

pub lies_of : (input : List ℕ) (at : ℕ) (r : Result Request Refusal) → r ≡ request_at input at → (request : Request) → r ≡ Ok request
    → Lies input at request.allowance request.first request.second request.end
unfolding request_at fields_of
lies_of input at r e request f =
    let other = refused_or_compare request in
    let o = passed_whole (record_at input at) _ _ _ (other _) (sym e ∙ f) in
    let w = whole_at input at o.0 o.1 o.2 o.3 in
    let b = passed (differs o.0 comparison_kind) _ _ _ (other _) o.4 in
    let c = passed (differs (o.2 - o.1) (comparison_fixed_payload + field input (o.1 + 4) + field input (o.1 + 6))) _ _ _ (other _) b.1 in
    let l = equal_of (o.2 - o.1) (comparison_fixed_payload + field input (o.1 + 4) + field input (o.1 + 6)) c.0 in
    let q = request_same _ _ c.1 in
    let t : long_field input o.1 ≡ request.allowance = ap (λ (r : Request). r.allowance) q in
    let x : o.1 + comparison_fixed_payload ≡ request.first = ap (λ (r : Request). r.first) q in
    let y : o.1 + comparison_fixed_payload + field input (o.1 + 4) ≡ request.second = ap (λ (r : Request). r.second) q in
    let z : o.2 ≡ request.end = ap (λ (r : Request). r.end) q in
    record {
      order = omega arith;
      next = omega arith;
      inside = omega (arith, w.fits);
      behind = omega (arith, w.start);
      allowed = sym t ∙ ap (long_field input) w.start;
    }
