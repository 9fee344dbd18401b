-- The demands, from the theorems on verdicts and on the rows.
use Prim.Native.Nat.{ℕ, ◌<◌, ◌≤◌}
use mathlib.Core.Bool.{Bool, true, false}
use mathlib.Core.List.{List}
use mathlib.Core.Logic.{◌↔◌, ◌⊎◌, inl, inr, by_cases}
use mathlib.Core.Path.{◌≡◌, refl, sym, ap, ◌∙◌}
use native.Mathlib.Omega.{arith}
use native.Mathlib.Decide.{dec_lt}
use lib.ListN.{length}
use Rattle.std.specs.Prelude.{Ok}
use Rattle.words.specs.Words.{Word}
use Rattle.words.specs.Relations.{Relation, relation_words}
use Rattle.words.specs.Families.{words_of, family_of}
use Rattle.overlap.specs.Verdict.{Verdict, judge}
use Rattle.overlap.proofs.Verdicts.{judge_iff_right, judge_accepts_iff_c4}
use Rattle.congruence.specs.Congruence.{Congruent}
use Rattle.congruence.specs.Rounds as Rows
use Rattle.congruence.specs.Rounds.{compare_under}
use Rattle.congruence.specs.Theorem.{Decision}
use Rattle.congruence.proofs.Theorem.{rows_decide}
use Rattle.format.specs.Book.{Presentation, BookReading, read_book}
use Rattle.loading.specs.Loading.{load_book}
use Rattle.asked.specs.Given.{pair_of}
use Rattle.asked.specs.Comparing.{answer_of, comparison_of}
use Rattle.answers.specs.Answers.{Answer, accepted, same, different, refused}
use Rattle.answers.specs.Entries.{check_of, compare_of}
use Rattle.answers.specs.Demands.{Acceptance, Decides, Compared}
use Rattle.answers.proofs.Loaded.{loaded_c4}

-- the verdict as an answer
verdict_answer : ℕ → Verdict → Answer
verdict_answer n Verdict.accepted = accepted n
verdict_answer n (Verdict.loose i) = refused 8 i

-- answers of different verdicts differ
accepted_back : (n : ℕ) (v : Verdict) → verdict_answer n v ≡ accepted n → v ≡ Verdict.accepted
unfolding verdict_answer
accepted_back n Verdict.accepted e = refl
accepted_back n (Verdict.loose i) e = let z : ◌≡◌ {A = ℕ} 0 1 = cc in absurd (omega arith)

loose_back : (n i : ℕ) (v : Verdict) → verdict_answer n v ≡ refused 8 i → v ≡ Verdict.loose i
unfolding verdict_answer
loose_back n i Verdict.accepted e = let z : ◌≡◌ {A = ℕ} 0 1 = cc in absurd (omega arith)
loose_back n i (Verdict.loose j) e = let f : j ≡ i = cc in rw f

check_verdict : (book : List ℕ) (p : Presentation) → read_book book ≡ BookReading.read p
    → check_of book ≡ verdict_answer (length p.relations) (judge (relation_words p.relations))
unfolding check_of load_book verdict_answer
check_verdict book p e = go (judge (relation_words p.relations)) refl
  where
    go : (v : Verdict) → judge (relation_words p.relations) ≡ v → check_of book ≡ verdict_answer (length p.relations) (judge (relation_words p.relations))
    go Verdict.accepted f = rw (e, f)
    go (Verdict.loose i) f = rw (e, f)

-- an answer by a verdict is one of two
verdict_only : (n : ℕ) (v : Verdict) → (verdict_answer n v ≡ accepted n) ⊎ ((i : ℕ) × (verdict_answer n v ≡ refused 8 i))
unfolding verdict_answer
verdict_only n Verdict.accepted = inl refl
verdict_only n (Verdict.loose i) = inr (i, refl)

pub acceptance : Acceptance
unfolding verdict_answer
acceptance book p e =
    let c = check_verdict book p e in
    let n = length p.relations in
    let sides = relation_words p.relations in
    record {
      accepts = (
        (λ a. (judge_accepts_iff_c4 sides).0 (accepted_back n (judge sides) (sym c ∙ a))),
        (λ a. c ∙ ap (verdict_answer n) ((judge_accepts_iff_c4 sides).1 a)),
      );
      loose = λ i. (
        (λ a. (judge_iff_right sides (Verdict.loose i)).0 (loose_back n i (judge sides) (sym c ∙ a))),
        (λ a. c ∙ ap (verdict_answer n) ((judge_iff_right sides (Verdict.loose i)).1 a)),
      );
      only = rw c (verdict_only n (judge sides));
    }

-- the rows' answer in document 01's words
in_words : Rows.CompareAnswer → Answer
in_words (Rows.CompareAnswer.same n) = same n
in_words (Rows.CompareAnswer.different n) = different n
in_words (Rows.CompareAnswer.spent n) = refused 11 n

same_back : (n : ℕ) (a : Rows.CompareAnswer) → in_words a ≡ same n → a ≡ Rows.CompareAnswer.same n
unfolding in_words
same_back n (Rows.CompareAnswer.same m) e = let f : m ≡ n = cc in rw f
same_back n (Rows.CompareAnswer.different m) e = let z : ◌≡◌ {A = ℕ} 0 1 = cc in absurd (omega arith)
same_back n (Rows.CompareAnswer.spent m) e = let z : ◌≡◌ {A = ℕ} 0 1 = cc in absurd (omega arith)

different_back : (n : ℕ) (a : Rows.CompareAnswer) → in_words a ≡ different n → a ≡ Rows.CompareAnswer.different n
unfolding in_words
different_back n (Rows.CompareAnswer.same m) e = let z : ◌≡◌ {A = ℕ} 0 1 = cc in absurd (omega arith)
different_back n (Rows.CompareAnswer.different m) e = let f : m ≡ n = cc in rw f
different_back n (Rows.CompareAnswer.spent m) e = let z : ◌≡◌ {A = ℕ} 0 1 = cc in absurd (omega arith)

spent_back : (n : ℕ) (a : Rows.CompareAnswer) → in_words a ≡ refused 11 n → a ≡ Rows.CompareAnswer.spent n
unfolding in_words
spent_back n (Rows.CompareAnswer.same m) e = let z : ◌≡◌ {A = ℕ} 0 1 = cc in absurd (omega arith)
spent_back n (Rows.CompareAnswer.different m) e = let z : ◌≡◌ {A = ℕ} 0 1 = cc in absurd (omega arith)
spent_back n (Rows.CompareAnswer.spent m) e = let f : m ≡ n = cc in rw f

-- an accepted book and two words that are fine
compare_words : (book : List ℕ) (u v : Word) (allowance : ℕ) (p : Presentation) → load_book book ≡ BookReading.read p
    → pair_of p.letters u v ≡ Ok tt → compare_of book u v allowance ≡ in_words (compare_under (words_of p.relations) (family_of p.relations) allowance u v)
unfolding compare_of comparison_of answer_of in_words
compare_words book u v allowance p e f = go (compare_under (words_of p.relations) (family_of p.relations) allowance u v) refl
  where
    go : (a : Rows.CompareAnswer) → compare_under (words_of p.relations) (family_of p.relations) allowance u v ≡ a
        → compare_of book u v allowance ≡ in_words (compare_under (words_of p.relations) (family_of p.relations) allowance u v)
    go (Rows.CompareAnswer.same n) g = rw (e, f, g)
    go (Rows.CompareAnswer.different n) g = rw (e, f, g)
    go (Rows.CompareAnswer.spent n) g = rw (e, f, g)

decides : (relations : List Relation) (u v : Word) → Decision relations u v → (allowance : ℕ) (answer : Answer) → answer ≡ in_words (compare_under (words_of relations) (family_of relations) allowance u v) → Decides relations u v allowance answer
unfolding in_words
decides relations u v d allowance answer e =
    let s : (answer ≡ refused 11 allowance) ↔ (allowance < d.rounds) =
    ((λ a. (d.spends allowance).0 (spent_back allowance (compare_under (words_of relations) (family_of relations) allowance u v) (sym e ∙ a))), (λ l. e ∙ ap in_words ((d.spends allowance).1 l))) in
    let j : (answer ≡ same d.rounds) ↔ ((d.rounds ≤ allowance) × Congruent (relation_words relations) u v) =
    ((λ a. (d.joins allowance).0 (same_back d.rounds (compare_under (words_of relations) (family_of relations) allowance u v) (sym e ∙ a))), (λ l. e ∙ ap in_words ((d.joins allowance).1 l))) in
    let p : (answer ≡ different d.rounds) ↔ ((d.rounds ≤ allowance) × (¬ Congruent (relation_words relations) u v)) =
    ((λ a. (d.parts allowance).0 (different_back d.rounds (compare_under (words_of relations) (family_of relations) allowance u v) (sym e ∙ a))), (λ l. e ∙ ap in_words ((d.parts allowance).1 l))) in
    record {
      rounds = d.rounds;
      result = d.result;
      made = d.made;
      spends = s;
      joins = j;
      parts = p;
      only = by_cases (dec_lt allowance d.rounds) (λ l. inl (s.1 l)) (λ l. inr (ended d.result refl (omega arith) j p));
      bound = d.bound;
      closer = d.closer;
    }
  where
    ended : (b : Bool) → d.result ≡ b → d.rounds ≤ allowance
        → (answer ≡ same d.rounds) ↔ ((d.rounds ≤ allowance) × Congruent (relation_words relations) u v)
        → (answer ≡ different d.rounds) ↔ ((d.rounds ≤ allowance) × (¬ Congruent (relation_words relations) u v))
        → (answer ≡ same d.rounds) ⊎ (answer ≡ different d.rounds)
    ended true f l j p = inl (j.1 (l, d.congruent.0 f))
    ended false f l j p = inr (p.1 (l, d.apart.0 f))

-- the definition's answer is what is promised of a comparison. Its book is accepted only where C(4) holds
pub compared : (book : List ℕ) (u v : Word) (allowance : ℕ) (answer : Answer) → answer ≡ compare_of book u v allowance → Compared book u v allowance answer
compared book u v allowance answer e =
    record {
      is = e;
      decides = λ p f g.
          decides p.relations u v (rows_decide p.relations (loaded_c4 book p f) u v) allowance answer (e ∙ compare_words book u v allowance p f g);
    }
