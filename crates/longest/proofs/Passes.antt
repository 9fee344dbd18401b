-- The loops that fill the table of longest pieces: one pass over the row, one place of the text, the whole table.
use Prim.Native.Nat.{ℕ, zero, suc, ◌+◌, ◌-◌, ◌<◌, ◌≤◌, max}
use mathlib.Core.List.{List}
use mathlib.Core.Logic.{by_cases}
use mathlib.Core.Path.{◌≡◌, refl, sym, ap, ◌∙◌, subst}
use native.Mathlib.Omega.{arith}
use mir.Syntax.{w8}
use mir.Val.{Fits}
use native.Mathlib.Decide.{dec_lt, ℕ_discrete}
use borrow.Author.Rules.{rules}
use borrow.Author.Tests.{eq-eqb, ne_eqb}
use lib.ListN.{length, get_or, set, replicate, length-set, length-replicate, get_or-replicate}
use lib.Seq.{get_or-set_same, get_or-set_other}
use Rattle.layout.specs.Places.{text_room}
use Rattle.longest.specs.Longest.{most, shared, longest_at, next, entry, PassRoom, Passed, RowOf, Ready, Advanced, Space, Tabled}
use Rattle.longest.proofs.Shared.{shared_next, shared_past, shared_from_past}

-- one letter more, or none

pub next_same : (x t r : ℕ) → x ≡ t → r + 1 ≡ next x t r
unfolding next
next_same x t r e = rw (eq-eqb x t e)

pub next_differ : (x t r : ℕ) → (x ≡ t → ⊥) → 0 ≡ next x t r
unfolding next
next_differ x t r e = rw (ne_eqb x t e)

pub next_fits : (x t r : ℕ) → next x t r ≤ 255 → x ≡ t → Fits w8 (r + 1)
next_fits x t r h e = let n = next_same x t r e in omega arith

pub ruleset nexts = (next_same, next_differ, next_fits, rules)

-- the greatest of equal values is the same
pub most_same : (f g : ℕ → ℕ) (a n : ℕ) → ((q : ℕ) → a ≤ q → q < a + n → f q ≡ g q) → most f a n ≡ most g a n
unfolding most
most_same f g a zero h = refl
most_same f g a (suc n) h = rw (most_same f g a n (λ q l m. h q l (omega arith)), h (a + n) (omega arith) (omega arith))

pub most_more : (f : ℕ → ℕ) (a n : ℕ) → a ≤ n → most f a (n + 1 - a) ≡ max (most f a (n - a)) (f n)
unfolding most
most_more f a n h =
    let e : n + 1 - a ≡ suc (n - a) = omega arith in
    let d : a + (n - a) ≡ n = omega arith in
    rw (e, most, d)

-- one pass has come to place q
pub record Passing (text row : List ℕ) (x from to q : ℕ) (b : List ℕ) (best : ℕ) : Type 0 where
  pub room : PassRoom text row x from to
  pub low : from ≤ q
  pub high : q ≤ to
  pub long : length b ≡ length row
  pub done : Passed text row x from q b best

pub pass_start : (text row : List ℕ) (x from to : ℕ) → PassRoom text row x from to → Passing text row x from to from row 0
unfolding most
pass_start text row x from to r =
    let e : from - from ≡ 0 = omega arith in
    record {
      room = r;
      low = omega arith;
      high = r.upwards;
      long = refl;
      done = record {
        long = refl;
        made = λ q l m. absurd (omega arith);
        below = λ q l. refl;
        above = λ q l. refl;
        greatest = rw (e, most);
      };
    }

module _ (text row : List ℕ) (x from to q : ℕ) (b : List ℕ) (best : ℕ) (s : Passing text row x from to q b best) where
  entry_here : next x (get_or text q 0) (get_or b (q + 1) 0) ≡ entry text row x q
  entry_here = rw (s.done.above (q + 1) (omega arith))

  pub pass_small : q < to → next x (get_or text q 0) (get_or b (q + 1) 0) ≤ 255
  pass_small h = rw entry_here (s.room.small q s.low h)

  pub pass_more : (v m : ℕ) → q < to → v ≡ next x (get_or text q 0) (get_or b (q + 1) 0) → m ≡ max best v → Passing text row x from to (q + 1) (set b q v) m
  pass_more v m h e d =
      let w : v ≡ entry text row x q = e ∙ entry_here in
      let f = s.room in
      let k : q < length b = omega (arith, s.long, f.inside, f.further) in
      let l = length-set b q v ∙ s.long in
      record {
        room = f;
        low = omega (arith, s.low);
        high = omega (arith, h);
        long = l;
        done = record {
          long = l;
          made = λ j i t. by_cases (ℕ_discrete j q)
              (λ g. ap (λ n. get_or (set b q v) n 0) g ∙ get_or-set_same b q v 0 k ∙ w ∙ ap (entry text row x) (sym g))
              (λ g. get_or-set_other b q j v 0 g ∙ s.done.made j i (omega (arith, t, g)));
          below = λ j i. get_or-set_other b q j v 0 (λ g. absurd (omega (arith, g, i, s.low))) ∙ s.done.below j i;
          above = λ j i. get_or-set_other b q j v 0 (λ g. absurd (omega (arith, g, i))) ∙ s.done.above j (omega (arith, i));
          greatest = d ∙ rw (s.done.greatest, w) (sym (most_more (entry text row x) from q s.low));
        };
      }

  pub pass_end : to ≤ q → Passed text row x from to b best
  pass_end h = subst (λ (k : ℕ). Passed text row x from k b best) (omega (arith, h, s.high)) s.done

pub ruleset passes = (pass_start, pass_small, pass_more, pass_end, rules)

-- one place of the text
module _ (text row : List ℕ) (x p : ℕ) (r : Ready text p row) (e : x ≡ get_or text p 0) where
  entry_shared : (q : ℕ) → q < length text → (q ≡ p → ⊥) → entry text row x q ≡ shared text p q
  entry_shared q h ne = rw (e, shared_next text p q r.inside h) (ap (next (get_or text p 0) (get_or text q 0)) (by_cases (ℕ_discrete (q + 1) (length text))
      (λ g. ap (λ n. get_or row n 0) g ∙ r.behind.end ∙ sym (shared_past text (p + 1) (q + 1) (omega (arith, g))))
      (λ g. r.behind.at (q + 1) (omega (arith, g, h)) (λ i. ne (omega (arith, i))))))

  entry_small : (q : ℕ) → q < length text → (q ≡ p → ⊥) → entry text row x q ≤ 255
  entry_small q h ne = let l = r.bounded.short p q (λ i. ne (sym i)) in rw (entry_shared q h ne) (omega (arith, l))

  pub room_before : PassRoom text row x 0 p
  room_before =
      record {
        upwards = omega arith;
        inside = omega (arith, r.inside);
        further = r.behind.further;
        small = λ q l h. entry_small q (omega (arith, h, r.inside)) (λ i. absurd (omega (arith, i, h)));
      }

  module _ (row₁ : List ℕ) (best₁ : ℕ) (s : Passed text row x 0 p row₁ best₁) where
    entry_after : (q : ℕ) → p < q → q < length text → entry text row₁ x q ≡ shared text p q
    entry_after q l h = rw (s.above (q + 1) (omega (arith, l))) (entry_shared q h (λ i. absurd (omega (arith, i, l))))

    pub room_behind : PassRoom text row₁ x (p + 1) (length text)
    room_behind =
        record {
          upwards = omega (arith, r.inside);
          inside = omega arith;
          further = rw s.long r.behind.further;
          small = λ q l h. let m = r.bounded.short p q (λ i. absurd (omega (arith, i, l))) in rw (entry_after q (omega (arith, l)) h) (omega (arith, m));
        }

    pub place_done : (row₂ : List ℕ) (best₂ best : ℕ) → Passed text row₁ x (p + 1) (length text) row₂ best₂ → best ≡ max best₁ best₂ → Advanced text p row row₂ best
    unfolding longest_at
    place_done row₂ best₂ best t m =
        let i = r.inside in
        let d : p - 0 ≡ p = omega arith in
        let one : best₁ ≡ most (shared text p) 0 p =
        s.greatest ∙ ap (most (entry text row x) 0) d ∙ most_same (entry text row x) (shared text p) 0 p (λ q l h. entry_shared q (omega (arith, h, i)) (λ g. absurd (omega (arith, g, h)))) in
        let two : best₂ ≡ most (shared text p) (p + 1) (length text - (p + 1)) =
        t.greatest ∙ most_same (entry text row₁ x) (shared text p) (p + 1) (length text - (p + 1)) (λ q l h. entry_after q (omega (arith, l)) (omega (arith, h, i))) in
        let k : length row₂ ≡ length row = t.long ∙ s.long in
        record {
          long = k;
          here = record {
            further = rw k r.behind.further;
            end = t.above (length text) (omega arith) ∙ s.above (length text) (omega (arith, i)) ∙ r.behind.end;
            at = λ q h ne. by_cases (dec_lt q p)
                (λ l. t.below q (omega (arith, l)) ∙ s.made q (omega arith) l ∙ entry_shared q h ne)
                (λ l. t.made q (omega (arith, l, ne)) h ∙ entry_after q (omega (arith, l, ne)) h);
          };
          longest = m ∙ rw (one, two);
        }

pub ruleset places = (room_before, room_behind, rules)

pub ruleset placing = (place_done)

-- the table has the longest pieces from place p on, and the row stands at p
pub record Tabling (text old : List ℕ) (row : List ℕ) (p : ℕ) (longest : List ℕ) : Type 0 where
  pub long : length longest ≡ length old
  pub space : Space text longest
  pub wide : length row ≡ text_room + 1
  pub within : p ≤ length text
  pub here : RowOf text p row
  pub done : (q : ℕ) → p ≤ q → q < length text → get_or longest q 0 ≡ longest_at text q

pub tabling_start : (text longest : List ℕ) → Space text longest → Tabling text longest (replicate (text_room + 1) 0) (length text) longest
tabling_start text longest s =
    let l = length-replicate {A = ℕ} (text_room + 1) 0 in
    record {
      long = refl;
      space = s;
      wide = l;
      within = omega arith;
      here = record {
        further = omega (arith, l, s.short);
        end = get_or-replicate (text_room + 1) (length text) 0 0 (omega (arith, s.short));
        at = λ q h ne. get_or-replicate (text_room + 1) q 0 0 (omega (arith, s.short, h)) ∙ sym (shared_from_past text (length text) q (omega arith));
      };
      done = λ q h k. absurd (omega (arith, h, k));
    }

module _ (text old row : List ℕ) (p : ℕ) (longest : List ℕ) (s : Tabling text old row p longest) (h : 0 < p) where
  pub tabling_ready : Ready text (p - 1) row
  tabling_ready =
      record {
        inside = omega (arith, h, s.within);
        bounded = s.space.bounded;
        behind = subst (λ (k : ℕ). RowOf text k row) (omega (arith, h)) s.here;
      }

  pub tabling_more : (row' : List ℕ) (v : ℕ) → Advanced text (p - 1) row row' v → Tabling text old row' (p - 1) (set longest (p - 1) v)
  tabling_more row' v t =
      let l = length-set longest (p - 1) v in
      let f = s.space in
      record {
        long = l ∙ s.long;
        space = record { bounded = f.bounded; short = f.short; room = omega (arith, l, f.room) };
        wide = t.long ∙ s.wide;
        within = omega (arith, s.within);
        here = t.here;
        done = λ q i k. by_cases (ℕ_discrete q (p - 1))
            (λ g. ap (λ n. get_or (set longest (p - 1) v) n 0) g ∙ get_or-set_same longest (p - 1) v 0 (omega (arith, h, s.within, f.room)) ∙ t.longest ∙ ap (longest_at text) (sym g))
            (λ g. get_or-set_other longest (p - 1) q v 0 g ∙ s.done q (omega (arith, i, g)) k);
      }

pub tabling_end : (text old row : List ℕ) (p : ℕ) (longest : List ℕ) → Tabling text old row p longest → p ≤ 0 → Tabled text longest
tabling_end text old row p longest s h = record { room = s.space.room; at = λ q k. s.done q (omega (arith, h)) k }

pub ruleset tablings = (tabling_start, tabling_ready, tabling_more, tabling_end, rules)
