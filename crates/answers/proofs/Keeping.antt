-- A refusal keeps every lent byte: the cases of each entry's definition, of which those that write have another answer.
use Prim.Native.Nat.{ℕ, ◌*◌}
use mathlib.Core.Bool.{Bool, true, false, cond}
use mathlib.Core.List.{List}
use mathlib.Core.Path.{◌≡◌, refl}
use native.Mathlib.Omega.{arith}
use lib.Dec.{ltb}
use lib.ListN.{length}
use Rattle.std.specs.Prelude.{Result, Ok, Err}
use Rattle.refusals.specs.declared.Refusal.{Refusal}
use Rattle.words.specs.Words.{Word}
use Rattle.words.specs.Relations.{relation_words}
use Rattle.words.specs.Families.{words_of, family_of}
use Rattle.words.specs.Writing.{over}
use Rattle.congruence.specs.Rows.{Next, round}
use Rattle.congruence.specs.Rows.Next.{end, go}
use Rattle.least.specs.Writing.{Found, found, absent}
use Rattle.asked.specs.Least.{least_for}
use Rattle.refusals.specs.declared.Refusal.TheVariants.{Narrow}
use Rattle.format.specs.Book.{BookReading}
use Rattle.loading.specs.Loading.{load_book}
use Rattle.asked.specs.Given.{on_given, one_of}
use Rattle.loading.specs.Sheet.{cut_sheet}
use Rattle.output.specs.Size.{output_most}
use Rattle.answers.specs.Answers.{Answer, accepted, ended, refused, refusal}
use Rattle.answers.specs.Entries.{SheetOutcome, sheet_of, RoundOutcome, asked_of, writing, loaded_round, round_of, WordOutcome, lacks_space, placed_at, found_at, loaded_least, least_of, OutputOutcome, output_of}
use Rattle.answers.specs.Keeping.{RefusalsKeep}

-- a sheet that is written has another answer
sheet_kept : (b : Bool) (a : Answer) (k : ℕ) (new old : List ℕ) (n place : ℕ) (sheet : List ℕ)
    → cond b (SheetOutcome.after a old) (SheetOutcome.after (accepted k) new) ≡ SheetOutcome.after (refused n place) sheet → sheet ≡ old
sheet_kept true a k new old n place sheet e = cc
sheet_kept false a k new old n place sheet e = let z : ◌≡◌ {A = ℕ} 0 1 = cc in absurd (omega arith)

sheet_keeps : (book old : List ℕ) (n place : ℕ) (sheet : List ℕ) → sheet_of book old ≡ SheetOutcome.after (refused n place) sheet → sheet ≡ old
unfolding sheet_of
sheet_keeps book old n place sheet e = go (load_book book) refl
  where
    go : (o : BookReading) → load_book book ≡ o → sheet ≡ old
    go (BookReading.refused r) f = let d : SheetOutcome.after (refusal r) old ≡ SheetOutcome.after (refused n place) sheet = rw f at e in cc
    go (BookReading.read p) f = sheet_kept (ltb (length old) (4 * (2 * length p.relations))) (refusal (Narrow 0)) (length p.relations) (over (cut_sheet (relation_words p.relations)) old) old n place sheet (rw f at e)

-- the answers that keep the three buffers of a round: refusals and ends
pub data Keeps : Answer → Type 0 where
  refusing : (n place : ℕ) → Keeps (refused n place)
  ending : (b : Bool) → Keeps (ended b)

module _ (next_u next_v next_p next_u' next_v' next_p' : List ℕ) where
  -- the three buffers are the old ones
  abbrev Kept : Type 0
  Kept = (next_u' ≡ next_u) × (next_v' ≡ next_v) × (next_p' ≡ next_p)

  same_buffers : (a c : Answer) → RoundOutcome.after a next_u next_v next_p ≡ RoundOutcome.after c next_u' next_v' next_p' → Kept
  same_buffers a c e =
      let x : next_u' ≡ next_u = cc in
      let y : next_v' ≡ next_v = cc in
      let z : next_p' ≡ next_p = cc in
      (x, y, z)

  -- a round that goes on has another answer
  made_kept : (o : Next) (c : Answer) → Keeps c → writing o next_u next_v next_p ≡ RoundOutcome.after c next_u' next_v' next_p' → Kept
  made_kept (end b) c k e = same_buffers (ended b) c e
  made_kept (go u v p) c (Keeps.refusing n place) e = let z : ◌≡◌ {A = ℕ} 0 1 = cc in absurd (omega arith)
  made_kept (go u v p) c (Keeps.ending b) e = let z : ◌≡◌ {A = ℕ} 0 1 = cc in absurd (omega arith)

  given_kept : (g : Result (Unit {0}) Refusal) (o : Next) (c : Answer) → Keeps c
      → on_given g (λ r. RoundOutcome.after (refusal r) next_u next_v next_p) (writing o next_u next_v next_p) ≡ RoundOutcome.after c next_u' next_v' next_p' → Kept
  given_kept (Ok _) o c k e = made_kept o c k e
  given_kept (Err r) o c k e = same_buffers (refusal r) c e

  round_keeps : (book : List ℕ) (u v p : Word) (c : Answer) → Keeps c → round_of book u v p next_u next_v next_p ≡ RoundOutcome.after c next_u' next_v' next_p' → Kept
  unfolding round_of loaded_round
  round_keeps book u v p c k e = step (load_book book) refl
    where
      step : (o : BookReading) → load_book book ≡ o → Kept
      step (BookReading.refused r) f = same_buffers (refusal r) c (rw f at e)
      step (BookReading.read q) f = given_kept (asked_of q.letters u v p (length next_u) (length next_v) (length next_p)) (round (words_of q.relations) (family_of q.relations) u v p) c k (rw f at e)

-- a word that is written has another answer
module _ (offset : ℕ) (old : List ℕ) (n place : ℕ) (buffer : List ℕ) where
  pub placed_keeps : (w : Word) → placed_at offset w old ≡ WordOutcome.after (refused n place) buffer → buffer ≡ old
  unfolding placed_at
  placed_keeps w e = step (lacks_space (length old) offset (length w)) refl
    where
      step : (b : Bool) → lacks_space (length old) offset (length w) ≡ b → buffer ≡ old
      step true f = let d = rw f at e in cc
      step false f = let d = rw f at e in let z : ◌≡◌ {A = ℕ} 0 1 = cc in absurd (omega arith)

  pub found_keeps : (f : Found) → found_at offset f old ≡ WordOutcome.after (refused n place) buffer → buffer ≡ old
  found_keeps (found w) e = placed_keeps w e
  found_keeps absent e = cc

least_keeps : (book : List ℕ) (u : Word) (old : List ℕ) (offset n place : ℕ) (buffer : List ℕ)
    → least_of book u old offset ≡ WordOutcome.after (refused n place) buffer → buffer ≡ old
unfolding least_of loaded_least
least_keeps book u old offset n place buffer e = step (load_book book) refl
  where
    asked : (w : Word) (g : Result (Unit {0}) Refusal) → on_given g (λ r. WordOutcome.after (refusal r) old) (placed_at offset w old) ≡ WordOutcome.after (refused n place) buffer → buffer ≡ old
    asked w (Ok _) d = placed_keeps offset old n place buffer w d
    asked w (Err r) d = cc

    step : (o : BookReading) → load_book book ≡ o → buffer ≡ old
    step (BookReading.refused r) f = let d : WordOutcome.after (refusal r) old ≡ WordOutcome.after (refused n place) buffer = rw f at e in cc
    step (BookReading.read q) f = asked (least_for (words_of q.relations) (family_of q.relations) u) (one_of q.letters u) (rw f at e)

-- an output that is written has another answer
output_keeps : (input old : List ℕ) (n place : ℕ) (out : List ℕ) → output_of input old ≡ OutputOutcome.after (refused n place) out → out ≡ old
unfolding output_of
output_keeps input old n place out e = step (ltb (length old) output_most) refl
  where
    step : (b : Bool) → ltb (length old) output_most ≡ b → out ≡ old
    step true f = let d = rw f at e in cc
    step false f = let d = rw f at e in let z : ◌≡◌ {A = ℕ} 0 1 = cc in absurd (omega arith)

pub refusals_keep : RefusalsKeep
refusals_keep =
    record {
      sheet = sheet_keeps;
      round = λ book u v p next_u next_v next_p n place next_u' next_v' next_p'.
          round_keeps next_u next_v next_p next_u' next_v' next_p' book u v p (refused n place) (Keeps.refusing n place);
      end = λ book u v p next_u next_v next_p b next_u' next_v' next_p'. round_keeps next_u next_v next_p next_u' next_v' next_p' book u v p (ended b) (Keeps.ending b);
      least = least_keeps;
      output = output_keeps;
    }
