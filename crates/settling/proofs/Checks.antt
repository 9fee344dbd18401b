-- What the check of a book tells of its loading.
use Prim.Native.Nat.{ℕ}
use mathlib.Core.List.{List}
use mathlib.Core.Path.{◌≡◌, refl, sym, ap, ◌∙◌}
use native.Mathlib.Omega.{arith}
use lib.ListN.{length}
use Rattle.std.specs.Prelude.{Result, Ok, Err}
use Rattle.refusals.specs.declared.Refusal.{Refusal}
use Rattle.format.specs.Book.{Presentation, BookReading, read, refused}
use Rattle.loading.specs.Loading.{load_book}
use Rattle.answers.specs.Answers.{accepted, refusal, of_verdict}
use Rattle.answers.specs.Entries.{check_of}

-- no answer is an acceptance and a refusal
pub accepted_or_refused : (n : ℕ) (r : Refusal) → accepted n ≡ refusal r → ⊥
accepted_or_refused n r e = let z : ◌≡◌ {A = ℕ} 0 1 = cc in omega arith

module _ (book : List ℕ) where
  -- an accepted book is loaded, and the answer is the number of its relations
  pub accepted_loaded : (n : ℕ) → of_verdict (Ok n) ≡ check_of book → (p : Presentation) × (load_book book ≡ read p) × (n ≡ length p.relations)
  unfolding check_of
  accepted_loaded n e = go (load_book book) refl
    where
      go : (x : BookReading) → load_book book ≡ x → (p : Presentation) × (load_book book ≡ read p) × (n ≡ length p.relations)
      go (BookReading.read p) f =
          let d : accepted n ≡ accepted (length p.relations) = rw f at e in
          let m : n ≡ length p.relations = cc in
          (p, f, m)
      go (BookReading.refused r) f = absurd (accepted_or_refused n r (rw f at e))

  -- a refused book is not loaded, and has a refusal of the same answer
  pub refused_loaded : (r : Refusal) → of_verdict (Err r) ≡ check_of book → (x : Refusal) × (load_book book ≡ refused x) × (of_verdict (Err r) ≡ refusal x)
  unfolding check_of
  refused_loaded r e = go (load_book book) refl
    where
      go : (y : BookReading) → load_book book ≡ y → (x : Refusal) × (load_book book ≡ refused x) × (of_verdict (Err r) ≡ refusal x)
      go (BookReading.read p) f = absurd (accepted_or_refused (length p.relations) r (sym (rw f at e)))
      go (BookReading.refused x) f = (x, f, rw f at e)
