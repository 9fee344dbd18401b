-- The text as far as its last fence: it has the same words, and its letters and fences fit in bytes.
use Prim.Native.Nat.{ℕ, zero, suc, ◌-◌, ◌<◌, ◌≤◌}
use mathlib.Core.List.{List}
use mathlib.Core.Logic.{by_cases}
use mathlib.Core.Path.{◌≡◌, refl, sym, ap, ◌∙◌, subst}
use native.Mathlib.Omega.{arith}
use native.Mathlib.Decide.{dec_lt}
use lib.ListN.{length, get_or, take}
use lib.Seq.{get_or-take, length-take-le}
use Rattle.writing.specs.Writing.{Bytes}
use Rattle.overlap.specs.Pieces.{C4}
use Rattle.layout.specs.Families.{Grouped}
use Rattle.layout.specs.Layout.{Laid, Checked, word_at, words_in, start_of, end_of, order_of}
use Rattle.words.proofs.Parts.{part_of_take}
use Rattle.layout.proofs.Placed.{end_before, owner}

pub words_take : (text table : List ℕ) (t m : ℕ) → ((i : ℕ) → i < m → end_of table i ≤ t) → words_in (take t text) table m ≡ words_in text table m
unfolding words_in
words_take text table t zero h = refl
words_take text table t (suc m) h =
    rw (words_take text table t m (λ i l. h i (omega (arith, l))), part_of_take text t (start_of table m) (end_of table m) (h m (omega arith)))

module _ (text table : List ℕ) (n : ℕ) (f : Laid text table n) (t : ℕ) (e : t ≡ start_of table n) where
  pub whole_inside : t ≤ length text
  whole_inside = let k = f.inside in omega (arith, e, k)

  pub whole_long : t ≡ length (take t text)
  whole_long = sym (length-take-le t text whole_inside)

  pub whole_laid : Laid (take t text) table n
  whole_laid = record {
    few = f.few;
    room = f.room;
    wide = f.wide;
    inside = let l = whole_long in omega (arith, e, l);
    first = f.first;
    next = f.next;
    some = f.some;
    short = f.short;
    letters = λ i q h l u. let k = end_before text table n f i h in rw (get_or-take t text q 0 (omega (arith, u, k, e))) (f.letters i q h l u);
    fence = λ i h. let k = end_before text table n f i h in get_or-take t text (end_of table i) 0 (omega (arith, k, e)) ∙ f.fence i h;
  }

  pub whole_ends : (i : ℕ) → i < n → end_of table i ≤ t
  whole_ends i h = let k = end_before text table n f i h in omega (arith, k, e)

  pub whole_words : words_in (take t text) table n ≡ words_in text table n
  whole_words = words_take text table t n whole_ends

  -- a place holds a letter or a fence
  small : (q : ℕ) → q < t → get_or text q 0 < 256
  small q h =
      let o = owner text table n f q n (omega arith) (omega (arith, e)) in
      by_cases (dec_lt q (end_of table o.0))
      (λ l. let c = f.letters o.0 q o.1 o.2 l in omega arith)
      (λ l.
      let d : q ≡ end_of table o.0 = omega (arith, l, o.3) in
      let c = ap (λ k. get_or text k 0) d ∙ f.fence o.0 o.1 in
      omega (arith, c, f.few, o.1))

  pub whole_bytes : Bytes (take t text)
  whole_bytes = let l = whole_long in record { at = λ k h. rw (get_or-take t text k 0 (omega (arith, l))) (small k (omega (arith, l))) }

-- a checked presentation stays one
pub whole_checked : (text table : List ℕ) (n : ℕ) → Checked text table n → (t : ℕ) → t ≡ start_of table n → Checked (take t text) table n
whole_checked text table n c t e =
    let f = c.laid in
    let w = sym (whole_words text table n f t e) in
    let i = c.indexed in
    record {
      laid = whole_laid text table n f t e;
      accepted = subst C4 w c.accepted;
      cut = record {
        x_end = λ k h. rw (← w) (c.cut.x_end k h);
        z_start = λ k h. rw (← w) (c.cut.z_start k h);
        pieces = λ k h. rw (← w) (c.cut.pieces k h);
      };
      indexed = record {
        room = i.room;
        listed = i.listed;
        known = i.known;
        found = λ k h.
            let a = end_before text table n f k h in
            let s = f.some k h in
            rw (get_or-take t text (start_of table k) 0 (omega (arith, a, s, e))) (i.found k h);
        alike = λ j h l. rw (kept (order_of table (j - 1)) (i.known (j - 1) (omega arith)), kept (order_of table j) (i.known j l)) (i.alike j h l);
      };
    }
  where
    kept : (k : ℕ) → k < n → word_at (take t text) table k ≡ word_at text table k
    kept k h = part_of_take text t (start_of table k) (end_of table k) (whole_ends text table n c.laid t e k h)

-- its families are linked as they were
pub whole_grouped : (text table : List ℕ) (n : ℕ) → Grouped text table n → (t : ℕ) → t ≡ start_of table n → Grouped (take t text) table n
whole_grouped text table n g t e = record { checked = whole_checked text table n g.checked t e; linked = g.linked }
