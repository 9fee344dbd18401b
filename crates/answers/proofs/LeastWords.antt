-- The demands on least words, from the theorems of crate `least`: what the rounds write is the least word, and least words decide congruence.
use Prim.Native.Nat.{ℕ, ◌+◌, ◌*◌, ◌-◌, ◌≤◌, ◌<◌}
use mathlib.Core.Bool.{Bool, true, false}
use mathlib.Core.List.{List, [], ◌++◌}
use mathlib.Core.Logic.{◌↔◌, ◌⊎◌, inl, inr}
use mathlib.Core.Path.{◌≡◌, refl, sym, ap, ◌∙◌, subst}
use native.Mathlib.Omega.{arith}
use native.Mathlib.Nat.{mul-le-mul}
use borrow.Author.Tests.{lt-ltb, le-ltb, ltb-false}
use lib.Dec.{ltb}
use lib.ListN.{length, get_or, take, drop, length-append, length-drop, get_or-append}
use lib.Seq.{length-take-le, get_or-take, get_or-append-add, get_or-drop, drop_at, take_at}
use Rattle.std.specs.Prelude.{Ok}
use Rattle.words.specs.Words.{Word}
use Rattle.words.specs.Relations.{Relation, relation_words}
use Rattle.words.specs.Families.{words_of, family_of}
use Rattle.overlap.specs.Cuts.{longest_suffix_piece}
use Rattle.congruence.specs.Congruence.{Congruent}
use Rattle.least.specs.Order.{house_rank}
use Rattle.least.specs.Least.{LeastWord}
use Rattle.least.specs.Writing.{found, word_of, least_behind}
use Rattle.least.specs.Theorem.{longest_word, LeastWords}
use Rattle.least.proofs.Order.{house_injective}
use Rattle.least.proofs.Theorem.{least_words_decide}
use Rattle.limits.specs.Limits.{compared_most, side_most}
use Rattle.refusals.specs.declared.Refusal.TheVariants.{NoSpace}
use Rattle.format.specs.Book.{Presentation, BookReading}
use Rattle.loading.specs.Loading.{load_book}
use Rattle.asked.specs.Given.{given_of, one_of, pair_of}
use Rattle.given.proofs.Laws.{fine_short, fine_both, fine_again}
use Rattle.words.specs.Writing.{over}
use Rattle.writing.proofs.Writing.{over_prefix, over_behind, over_kept}
use Rattle.asked.specs.Least.{least_for}
use Rattle.leastword.proofs.Rounds.{longest_bound}
use Rattle.answers.specs.Answers.{Answer, same, different, wrote, refused, refusal}
use Rattle.answers.specs.Entries.{WordOutcome, compare_of, lacks_space, placed_at, loaded_least, least_of}
use Rattle.answers.specs.Demands.{Decides, Placed, WritesLeast, LeastAnswered, LeastWritten, written_bytes, LeastDecides}
use Rattle.answers.proofs.Loaded.{loaded_c4, loaded_short}
use Rattle.answers.proofs.Theorems.{compared}

-- a word in a buffer that has room for it
module _ (w old : List ℕ) (offset : ℕ) (h : offset + length w ≤ length old) where
  before_long : length (take offset old) ≡ offset
  before_long = length-take-le offset old (omega arith)

  behind_long : length (drop offset old) ≡ length old - offset
  behind_long = length-drop offset old

  placed_at_lem : placed_at offset w old ≡ WordOutcome.after (wrote (length w)) (take offset old ++ over w (drop offset old))
  unfolding placed_at lacks_space
  placed_at_lem = rw (le-ltb (length old) offset (omega arith), le-ltb (length old - offset) (length w) (omega arith))

  -- a byte from the offset on
  from_offset : (j : ℕ) → get_or (take offset old ++ over w (drop offset old)) (offset + j) 0 ≡ get_or (over w (drop offset old)) j 0
  from_offset j =
      ap (λ (n : ℕ). get_or (take offset old ++ over w (drop offset old)) (n + j) 0) (sym before_long)
      ∙ get_or-append-add (take offset old) (over w (drop offset old)) j 0

  pub placed_word : Placed w old offset (placed_at offset w old)
  placed_word =
      let b = before_long in
      let d = behind_long in
      let k = over_kept w (drop offset old) (omega arith) in
      record {
        buffer = take offset old ++ over w (drop offset old);
        is = placed_at_lem;
        there = λ j l. from_offset j ∙ over_prefix w (drop offset old) j l;
        kept = omega (arith, length-append (take offset old) (over w (drop offset old)));
        before = λ j l. get_or-append (take offset old) (over w (drop offset old)) 0 j (omega arith) ∙ get_or-take offset old j 0 l;
        behind = λ j l.
            let n : j ≡ offset + (j - offset) = omega arith in
            ap (λ (n : ℕ). get_or (take offset old ++ over w (drop offset old)) n 0) n ∙ from_offset (j - offset) ∙ over_behind w (drop offset old) (j - offset) (omega arith)
            ∙ get_or-drop offset old (j - offset) 0 ∙ ap (λ (n : ℕ). get_or old n 0) (sym n);
      }

-- where there is none, the outcome is 14
pub placed_nowhere : (w old : List ℕ) (offset : ℕ) → length old < offset + length w → placed_at offset w old ≡ WordOutcome.after (refused 14 0) old
unfolding placed_at lacks_space
placed_nowhere w old offset h = go (ltb (length old) offset) refl
  where
    go : (t : Bool) → ltb (length old) offset ≡ t → placed_at offset w old ≡ WordOutcome.after (refused 14 0) old
    go true q = rw q
    go false q = rw (q, lt-ltb (length old - offset) (length w) (omega (arith, ltb-false (length old) offset q)))

-- what is told to be written can be read again
written_back : (w old : List ℕ) (offset m : ℕ) (buffer : List ℕ) → placed_at offset w old ≡ WordOutcome.after (wrote m) buffer → written_bytes m offset buffer ≡ w
unfolding placed_at lacks_space
written_back w old offset m buffer e = go (ltb (length old) offset) refl (ltb (length old - offset) (length w)) refl
  where
    go : (t : Bool) → ltb (length old) offset ≡ t → (r : Bool) → ltb (length old - offset) (length w) ≡ r → written_bytes m offset buffer ≡ w
    go true q r f =
        let d : WordOutcome.after (refusal NoSpace) old ≡ WordOutcome.after (wrote m) buffer = rw q at e in
        let z : ◌≡◌ {A = ℕ} 0 1 = cc in
        absurd (omega arith)
    go false q true f =
        let d : WordOutcome.after (refusal NoSpace) old ≡ WordOutcome.after (wrote m) buffer = rw (q, f) at e in
        let z : ◌≡◌ {A = ℕ} 0 1 = cc in
        absurd (omega arith)
    go false q false f =
        let d : WordOutcome.after (wrote (length w)) (take offset old ++ over w (drop offset old)) ≡ WordOutcome.after (wrote m) buffer = rw (q, f) at e in
        let n : length w ≡ m = cc in
        let b : take offset old ++ over w (drop offset old) ≡ buffer = cc in
        let a = before_long w old offset (omega (arith, ltb-false (length old) offset q, ltb-false (length old - offset) (length w) f)) in
        rw (← n, ← b, drop_at (take offset old) (over w (drop offset old)) offset a) (take_at w (drop (length w) (drop offset old)) (length w) refl)

-- under relations of which least words exist
module _ (relations : List Relation) (l : LeastWords relations house_rank) where
  -- the least word that the rounds write
  abbrev pub least_under : Word → Word
  least_under u = least_for (words_of relations) (family_of relations) u

  pub least_for_lem : (u : Word) → LeastWord (relation_words relations) house_rank u (least_under u)
  unfolding least_for
  least_for_lem u =
      let w = l.exists u in
      let e : least_behind (words_of relations) (family_of relations) house_rank [] u ≡ found w.0 = (l.computed u w.0).1 w.1 in
      let f : word_of (least_behind (words_of relations) (family_of relations) house_rank [] u) ≡ w.0 = rw e in
      subst (λ (x : Word). LeastWord (relation_words relations) house_rank u x) (sym f) w.1

  writes_least : (u : Word) → longest_word (words_of relations) ≤ side_most → length u ≤ compared_most → (old : List ℕ) (offset : ℕ) (outcome : WordOutcome)
      → outcome ≡ placed_at offset (least_under u) old → WritesLeast (relation_words relations) u old offset outcome
  writes_least u short few old offset outcome e =
      record {
        word = least_under u;
        least = least_for_lem u;
        only = λ w m. l.unique u w (least_under u) m (least_for_lem u);
        roomy = λ h. subst (λ (o : WordOutcome). Placed (least_under u) old offset o) (sym e) (placed_word (least_under u) old offset h);
        narrow = λ h. e ∙ placed_nowhere (least_under u) old offset h;
        short = omega (arith, l.short u (least_under u) (least_for_lem u), mul-le-mul short few);
      }

  -- a comparison that is allowed enough rounds
  same_when_equal : (u v : Word) (allowance : ℕ) (answer : Answer) → Decides relations u v allowance answer → (longest_suffix_piece (words_of relations) + 1) * length u ≤ allowance
      → ((rounds : ℕ) × (answer ≡ same rounds)) ↔ (least_under u ≡ least_under v)
  same_when_equal u v allowance answer d h =
      let k = l.decides u v (least_under u) (least_under v) (least_for_lem u) (least_for_lem v) in
      ((λ a. k.0 (congruent a.0 a.1 d.only)), (λ a. (d.rounds, d.joins.1 (omega (arith, d.closer.0), k.1 a))))
    where
      congruent : (n : ℕ) → answer ≡ same n → (answer ≡ refused 11 allowance) ⊎ ((answer ≡ same d.rounds) ⊎ (answer ≡ different d.rounds))
          → Congruent (relation_words relations) u v
      congruent n e (inl f) = let z : ◌≡◌ {A = ℕ} 0 1 = cc in absurd (omega arith)
      congruent n e (inr (inl f)) = (d.joins.0 f).1
      congruent n e (inr (inr f)) = let z : ◌≡◌ {A = ℕ} 0 1 = cc in absurd (omega arith)

-- an accepted book and a word that is fine
placed_least : (book : List ℕ) (u : Word) (old : List ℕ) (offset : ℕ) (p : Presentation) → load_book book ≡ BookReading.read p → one_of p.letters u ≡ Ok tt
    → least_of book u old offset ≡ placed_at offset (least_for (words_of p.relations) (family_of p.relations) u) old
unfolding least_of loaded_least
placed_least book u old offset p e f = rw (e, f)

loaded_least_lem : (book : List ℕ) (p : Presentation) → load_book book ≡ BookReading.read p → LeastWords p.relations house_rank
loaded_least_lem book p e = least_words_decide p.relations (loaded_c4 book p e) house_rank house_injective

pub least_written : LeastWritten
least_written book u old offset p e f =
    let B = words_of p.relations in
    let s = longest_bound B side_most (length B) (λ i h. loaded_short book p e i) in
    writes_least p.relations (loaded_least_lem book p e) u (omega arith) (fine_short 0 compared_most p.letters u f) old offset (least_of book u old offset) (placed_least book u old offset p e f)

-- what is the definition's outcome is all that the least word promises
pub least_answered : (book : List ℕ) (u : Word) (old : List ℕ) (offset : ℕ) (outcome : WordOutcome) → outcome ≡ least_of book u old offset → LeastAnswered book u old offset outcome
least_answered book u old offset outcome e =
    record { is = e; writes = λ p l f. subst (WritesLeast (relation_words p.relations) u old offset) (sym e) (least_written book u old offset p l f) }

pub least_decides : LeastDecides
unfolding pair_of
least_decides book u v p e f old offset m buffer g old' offset' m' buffer' g' allowance h =
    let B = words_of p.relations in
    let F = family_of p.relations in
    let both = fine_both (given_of 0 compared_most p.letters u) (given_of 1 compared_most p.letters v) f in
    let first = written_back (least_for B F u) old offset m buffer (sym (placed_least book u old offset p e both.0) ∙ g) in
    let second = written_back (least_for B F v) old' offset' m' buffer' (sym (placed_least book v old' offset' p e (fine_again 1 0 compared_most p.letters v both.1)) ∙ g') in
    let d = (compared book u v allowance (compare_of book u v allowance) refl).decides p e f in
    let k = same_when_equal p.relations (loaded_least_lem book p e) u v allowance (compare_of book u v allowance) d h in
    ((λ a. first ∙ k.0 a ∙ sym second), (λ a. k.1 (sym first ∙ a ∙ second)))
