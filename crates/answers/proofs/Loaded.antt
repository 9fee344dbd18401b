-- What is known of a presentation that was loaded: its distinct words meet C(4), and they are short.
use Prim.Native.Nat.{ℕ, zero, suc, ◌≤◌}
use mathlib.Core.Logic.{by_cases}
use mathlib.Core.List.{List, [], ◌∷◌}
use mathlib.Core.Path.{◌≡◌, refl, sym, ap, ◌∙◌, subst}
use native.Mathlib.Omega.{arith}
use native.Mathlib.Decide.{dec_lt}
use lib.ListN.{length, get_or-eq_default}
use Rattle.words.specs.Relations.{Relation, relation_words}
use Rattle.words.specs.Families.{words_of}
use Rattle.words.proofs.Distinct.{distinct_right}
use Rattle.overlap.specs.Pieces.{word, C4}
use Rattle.overlap.specs.Cuts.{len}
use Rattle.overlap.specs.Verdict.{Verdict, judge}
use Rattle.overlap.proofs.Verdicts.{judge_accepts_iff_c4}
use Rattle.limits.specs.Limits.{side_most}
use Rattle.format.specs.Book.{Presentation, BookReading, read_book}
use Rattle.format.specs.Bytes.{Within, AllWithin, none, more}
use Rattle.format.proofs.Readings.{read_within}
use Rattle.loading.specs.Loading.{load_book, by_verdict}

-- a loaded book meets C(4)
by_verdict_c4 : (p q : Presentation) (v : Verdict) → judge (relation_words q.relations) ≡ v → by_verdict q v ≡ BookReading.read p → C4 (words_of p.relations)
by_verdict_c4 p q Verdict.accepted f e =
    let g : q ≡ p = cc in
    subst (λ (r : Presentation). C4 (words_of r.relations)) g ((judge_accepts_iff_c4 (relation_words q.relations)).0 f)
by_verdict_c4 p q (Verdict.loose i) f e = let z : ◌≡◌ {A = ℕ} 0 1 = cc in absurd (omega arith)

pub loaded_c4 : (book : List ℕ) (p : Presentation) → load_book book ≡ BookReading.read p → C4 (words_of p.relations)
unfolding load_book
loaded_c4 book p e = go (read_book book) refl
  where
    go : (x : BookReading) → read_book book ≡ x → C4 (words_of p.relations)
    go (BookReading.read q) f = by_verdict_c4 p q (judge (relation_words q.relations)) refl (rw f at e)
    go (BookReading.refused r) f =
        let d : BookReading.refused r ≡ BookReading.read p = rw f at e in
        let z : ◌≡◌ {A = ℕ} 0 1 = cc in
        absurd (omega arith)

-- relation words within the limits are short
words_short : (letters : ℕ) (rs : List Relation) → AllWithin letters rs → (i : ℕ) → len (relation_words rs) i ≤ side_most
unfolding relation_words
words_short letters [] none i = omega arith
words_short letters (r ∷ rs) (more w ws) zero = w.left.short
words_short letters (r ∷ rs) (more w ws) (suc zero) = w.right.short
words_short letters (r ∷ rs) (more w ws) (suc (suc i)) = words_short letters rs ws i

-- what is loaded was read
by_verdict_read : (p q : Presentation) (v : Verdict) → by_verdict q v ≡ BookReading.read p → q ≡ p
by_verdict_read p q Verdict.accepted e = cc
by_verdict_read p q (Verdict.loose i) e = let z : ◌≡◌ {A = ℕ} 0 1 = cc in absurd (omega arith)

loaded_within : (book : List ℕ) (p : Presentation) → load_book book ≡ BookReading.read p → Within p
unfolding load_book
loaded_within book p e = go (read_book book) refl
  where
    go : (x : BookReading) → read_book book ≡ x → Within p
    go (BookReading.read q) f = subst Within (by_verdict_read p q (judge (relation_words q.relations)) (rw f at e)) (read_within book q f)
    go (BookReading.refused r) f =
        let d : BookReading.refused r ≡ BookReading.read p = rw f at e in
        let z : ◌≡◌ {A = ℕ} 0 1 = cc in
        absurd (omega arith)

-- and so is every distinct word, which is one of them
pub loaded_short : (book : List ℕ) (p : Presentation) → load_book book ≡ BookReading.read p → (i : ℕ) → len (words_of p.relations) i ≤ side_most
loaded_short book p e i =
    let sides = relation_words p.relations in
    let d = distinct_right sides in
    by_cases (dec_lt i (length (words_of p.relations))) (λ h.
    let (s, l, w) = d.only i h in
    let q : word (words_of p.relations) i ≡ word sides s = ap (word (words_of p.relations)) (sym w) ∙ (d.all s l).1 in
    rw q (words_short p.letters p.relations (loaded_within book p e).all s)) (λ h.
    let q : word (words_of p.relations) i ≡ [] = get_or-eq_default (words_of p.relations) [] (omega arith) in
    rw q (omega arith))
