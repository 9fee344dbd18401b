-- What the loops that write leave: what each loop knows at its head, and a law for each way on. The laws serve every width.
use Prim.Native.Nat.{ℕ, ◌+◌, ◌≤◌, ◌<◌}
use mathlib.Core.List.{List}
use mathlib.Core.Path.{◌≡◌, refl, ap, ◌∙◌}
use native.Mathlib.Omega.{arith}
use native.Mathlib.Numerals.{add-one}
use borrow.Author.Rules.{rules}
use lib.ListN.{length, get_or, set, length-set}
use lib.Seq.{paste, paste-zero, paste-suc}
use Rattle.writing.specs.Writing.{Narrowing}
use Rattle.words.specs.Writing.{written}
use Rattle.writing.proofs.Writing.{pasted}

-- i elements of s are written from place `at` of d on, which is now b
pub record Writing (s d : List ℕ) (at i : ℕ) (b : List ℕ) : Type 0 where
  pub within : i ≤ length s
  pub room : at + length s ≤ length d
  pub same : b ≡ paste d at s i
  pub long : length b ≡ length d

pub writing_start : (s d : List ℕ) (at : ℕ) → at + length s ≤ length d → Writing s d at 0 d
writing_start s d at h = record { within = omega arith; room = h; same = paste-zero d at s; long = refl }

module _ (s d b : List ℕ) (at i : ℕ) (w : Writing s d at i b) where
  pub writing_more : i < length s → (x : ℕ) → x ≡ get_or s i 0 → Writing s d at (i + 1) (set b (at + i) x)
  writing_more h x e =
      record {
        within = omega arith;
        room = w.room;
        same = rw (w.same, e, add-one) (paste-suc d at s i 0 (omega (arith, w.room)) h);
        long = rw length-set w.long;
      }

  pub writing_at : i < length s → at + i < length b
  writing_at h = omega (arith, w.room, w.long)

  pub writing_end : length s ≤ i → b ≡ written at s d
  writing_end h =
      let e : i ≡ length s = omega (arith, w.within) in
      w.same ∙ ap (paste d at s) e ∙ pasted at s d

pub ruleset writings = (writing_start, writing_more, writing_at, writing_end, rules)

-- a letter that is narrowed fits in a byte
pub narrowing_room : (s d : List ℕ) (at : ℕ) → Narrowing s d at → Writing s d at 0 d
narrowing_room s d at n = writing_start s d at n.room

pub narrowing_fits : (s d : List ℕ) (at i : ℕ) → Narrowing s d at → i < length s → get_or s i 0 < 256
narrowing_fits s d at i n h = n.bytes.at i h

pub ruleset narrowings = (narrowing_room, narrowing_fits, writing_more, writing_at, writing_end, rules)
