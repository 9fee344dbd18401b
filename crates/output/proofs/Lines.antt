-- Laws of the code that answers the records of the kind 3 part and writes their lines behind each other.
use Prim.Native.Nat.{ℕ, zero, suc, ◌+◌, ◌-◌, ◌≤◌, ◌<◌}
use mathlib.Core.List.{List, [], ◌++◌, append_assoc, append-nil}
use mathlib.Core.Path.{◌≡◌, refl, sym, ap, ◌∙◌, subst}
use native.Mathlib.Omega.{arith}
use native.Mathlib.Nat.{add-zero}
use borrow.Author.Rules.{rules}
use borrow.Author.Tests.{lt-leb, le-leb}
use lib.ListN.{length, length-append, take-append-drop}
use Rattle.std.specs.Prelude.{Result, Ok, Err}
use Rattle.words.specs.Words.{part}
use Rattle.layout.specs.Layout.{words_in}
use Rattle.layout.specs.Places.{count_cell}
use Rattle.layout.specs.Families.{count_of, family_by, Ready}
use Rattle.refusals.specs.declared.Refusal.{Refusal}
use Rattle.asked.specs.declared.Comparison.{Comparison}
use Rattle.asked.specs.Comparing.{comparison_of}
use Rattle.words.specs.Writing.{written}
use Rattle.spelling.specs.Lines.{line_of}
use Rattle.lines.specs.Lines.{WrittenTo}
use Rattle.lines.proofs.Laws.{put_both, room_first, room_second}
use Rattle.output.specs.declared.Request.{Request}
use Rattle.output.specs.Requests.{request_at}
use Rattle.output.specs.Program.{book_text, refused_line, comparison_line, by_request, lines_from}
use Rattle.output.specs.Writing.{lines_under, Lined, lines_of_accepted, Accepted}
use Rattle.output.proofs.Reading.{Lies, lies_of}

-- a record that asks for a comparison
module _ (input : List ℕ) (at : ℕ) (r : Result Request Refusal) (e : r ≡ request_at input at) (request : Request) (f : r ≡ Ok request) where
  pub asked_order : request.first ≤ request.second
  asked_order = (lies_of input at r e request f).order

  pub asked_next : request.second ≤ request.end
  asked_next = (lies_of input at r e request f).next

  pub asked_inside : request.end ≤ length input
  asked_inside = (lies_of input at r e request f).inside

  pub asked_middle : request.second ≤ length input
  asked_middle = let l = lies_of input at r e request f in omega (arith, l.next, l.inside)

-- nothing is written yet
put_none : (out : List ℕ) (place : ℕ) → WrittenTo out place [] out place
unfolding written
put_none out place = record { behind = sym (add-zero place); same = rw add-zero (sym (take-append-drop place out)); kept = refl }

-- the lines before a position are written
pub record Lining (text table : List ℕ) (n letters : ℕ) (input : List ℕ) (start : ℕ) (out : List ℕ) (place at end : ℕ) (b : List ℕ) : Type 0 where
  pub ready : Ready text table n
  pub within : at ≤ length input
  pub most : ℕ
  pub enough : length input ≤ at + most
  pub written : List ℕ
  pub whole : lines_under text table n letters input start ≡ written ++ lines_from most letters (words_in text table n) (family_by table n) input at
  pub put : WrittenTo out place written b end
  pub room : place + length (lines_under text table n letters input start) ≤ length out

module _ (text table : List ℕ) (n letters : ℕ) (input : List ℕ) (start : ℕ) (out : List ℕ) (place : ℕ) where
  pub lining_start : Lined text table n letters input start out place → Lining text table n letters input start out place start place out
  lining_start l =
      record {
        ready = l.ready;
        within = l.within;
        most = length input;
        enough = omega arith;
        written = [];
        whole = refl;
        put = put_none out place;
        room = l.room;
      }

  module _ (at end : ℕ) (b : List ℕ) (l : Lining text table n letters input start out place at end b) where
    pub lining_ready : Ready text table n
    lining_ready = l.ready

    pub lining_end : length input ≤ at → WrittenTo out place (lines_under text table n letters input start) b end
    unfolding lines_from
    lining_end h = subst (λ (s : List ℕ). WrittenTo out place s b end) (sym (l.whole ∙ nothing l.most)) l.put
      where
        nothing : (most : ℕ) → l.written ++ lines_from most letters (words_in text table n) (family_by table n) input at ≡ l.written
        nothing zero = append-nil l.written
        nothing (suc most) = rw (le-leb (length input) at h) (append-nil l.written)

    module _ (h : at < length input) (r : Result Request Refusal) (e : r ≡ request_at input at) where
      -- the lines from here on, by what the record asks for
      on : (m : ℕ) × (length input ≤ at + suc m)
          × (lines_under text table n letters input start ≡ l.written ++ by_request (lines_from m letters (words_in text table n) (family_by table n) input) letters (words_in text table n) (family_by table n) input r)
      unfolding lines_from
      on = step l.most l.enough l.whole
        where
          step : (m : ℕ) → length input ≤ at + m → lines_under text table n letters input start ≡ l.written ++ lines_from m letters (words_in text table n) (family_by table n) input at
              → (m : ℕ) × (length input ≤ at + suc m)
              × (lines_under text table n letters input start ≡ l.written ++ by_request (lines_from m letters (words_in text table n) (family_by table n) input) letters (words_in text table n) (family_by table n) input r)
          step zero k q = absurd (omega arith)
          step (suc m) k q = (m, k, q ∙ rw (lt-leb (length input) at h, e))

      -- room for a text that comes next, and behind it
      room_next : (s t : List ℕ) → lines_under text table n letters input start ≡ l.written ++ (s ++ t) → end + length s ≤ length b
      room_next s t q =
          let a = l.room in
          let k = ap length q in
          omega (arith, length-append l.written (s ++ t), length-append s t, l.put.behind, l.put.kept)

      module _ (x : Refusal) (f : r ≡ Err x) where
        last_whole : lines_under text table n letters input start ≡ l.written ++ refused_line x
        last_whole = on.2 ∙ ap (λ (t : Result Request Refusal). l.written ++ by_request (lines_from on.0 letters (words_in text table n) (family_by table n) input) letters (words_in text table n) (family_by table n) input t) f

        pub lining_last_room : end + length (refused_line x) ≤ length b
        lining_last_room = room_next (refused_line x) [] (last_whole ∙ rw append-nil)

        pub lining_last : (b' : List ℕ) (end' : ℕ) → WrittenTo b end (refused_line x) b' end' → WrittenTo out place (lines_under text table n letters input start) b' end'
        lining_last b' end' p =
            subst (λ (s : List ℕ). WrittenTo out place s b' end') (sym last_whole)
            (put_both out place l.written b end (refused_line x) b' end' (subst (λ (s : List ℕ). place + length s ≤ length out) last_whole l.room) l.put p)

      module _ (request : Request) (f : r ≡ Ok request) where
        lies : Lies input at request.allowance request.first request.second request.end
        lies = lies_of input at r e request f

        pub lining_less : length input - request.end < length input - at
        lining_less = let w0 = lies.behind in let w1 = lies.inside in omega arith

        module _ (c : Result Comparison Refusal) (g : c ≡ comparison_of letters (words_in text table n) (family_by table n) (part input request.first request.second) (part input request.second request.end) request.allowance) where
          next_whole : lines_under text table n letters input start ≡ l.written ++ (comparison_line c ++ lines_from on.0 letters (words_in text table n) (family_by table n) input request.end)
          next_whole =
              on.2 ∙ ap (λ (t : Result Request Refusal). l.written ++ by_request (lines_from on.0 letters (words_in text table n) (family_by table n) input) letters (words_in text table n) (family_by table n) input t) f
              ∙ rw g

          pub lining_room : end + length (comparison_line c) ≤ length b
          lining_room = room_next (comparison_line c) (lines_from on.0 letters (words_in text table n) (family_by table n) input request.end) next_whole

          pub lining_more : (b' : List ℕ) (end' : ℕ) → WrittenTo b end (comparison_line c) b' end' → Lining text table n letters input start out place request.end end' b'
          lining_more b' end' p =
              let s = l.written in
              let t = comparison_line c in
              let rest = lines_from on.0 letters (words_in text table n) (family_by table n) input request.end in
              let q : lines_under text table n letters input start ≡ (s ++ t) ++ rest = next_whole ∙ sym (append_assoc s t rest) in
              let k : place + length ((s ++ t) ++ rest) ≤ length out = subst (λ (x : List ℕ). place + length x ≤ length out) q l.room in
              let w0 = lies.behind in
              let w1 = lies.inside in
              let u = on.1 in
              record {
                ready = l.ready;
                within = w1;
                most = on.0;
                enough = omega arith;
                written = s ++ t;
                whole = q;
                put = put_both out place s b end t b' end' (room_first out place (s ++ t) rest k) l.put p;
                room = l.room;
              }

-- the same, with two arrays for the words of a comparison
pub record LiningWith (text table : List ℕ) (n letters : ℕ) (input : List ℕ) (start : ℕ) (out : List ℕ) (place at end : ℕ) (b u v : List ℕ) : Type 0 where
  pub lining : Lining text table n letters input start out place at end b
  pub first_long : length u ≡ 256
  pub second_long : length v ≡ 256

pub lining_with : (text table : List ℕ) (n letters : ℕ) (input : List ℕ) (start : ℕ) (out : List ℕ) (place at end : ℕ) (b u v : List ℕ)
    → Lining text table n letters input start out place at end b → length u ≡ 256 → length v ≡ 256 → LiningWith text table n letters input start out place at end b u v
lining_with text table n letters input start out place at end b u v l e f = record { lining = l; first_long = e; second_long = f }

pub ruleset linings = (lining_with, lining_start, lining_ready, lining_end, lining_last_room, lining_last, lining_room, lining_less, lining_more, asked_order, asked_next, asked_inside, asked_middle, rules)

-- an accepted book: its line, then those of the comparisons
module _ (text table : List ℕ) (relations letters : ℕ) (input : List ℕ) (end : ℕ) (out : List ℕ) (h : Accepted text table relations letters input end out) where
  room : 0 + length (lines_of_accepted text table relations letters input end) ≤ length out
  room = omega (arith, h.room)

  pub accepted_counted : count_cell < length table
  accepted_counted = omega (arith, h.ready.grouped.checked.indexed.room)

  pub accepted_line : 0 + length (line_of book_text relations) ≤ length out
  accepted_line = room_first out 0 (line_of book_text relations) (lines_under text table (count_of table) letters input end) room

  module _ (a : List ℕ) (r : ℕ) (p : WrittenTo out 0 (line_of book_text relations) a r) where
    -- the words are as many as the table tells
    module _ (n : ℕ) (e : n ≡ count_of table) where
      pub accepted_lined : Lined text table n letters input end a r
      accepted_lined =
          record {
            ready = rw e h.ready;
            within = h.within;
            room = rw e (room_second out 0 (line_of book_text relations) a r (lines_under text table (count_of table) letters input end) room p);
          }

      pub accepted_put : (b : List ℕ) (q : ℕ) → WrittenTo a r (lines_under text table n letters input end) b q
          → WrittenTo out 0 (lines_of_accepted text table relations letters input end) b q
      accepted_put b q g = put_both out 0 (line_of book_text relations) a r (lines_under text table (count_of table) letters input end) b q room p (rw e at g)

pub ruleset accepts = (accepted_counted, accepted_line, accepted_lined, accepted_put, rules)
