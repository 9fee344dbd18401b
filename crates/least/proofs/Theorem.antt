-- The rounds write the least word, put together: that they end and how soon (Ends), what each of them says (RoundRight), and that chains of families join the
-- same words as rewrite steps of single relations (Members of crate congruence).
use Prim.Native.Nat.{ℕ}
use mathlib.Core.List.{List, []}
use mathlib.Core.Logic.{◌↔◌}
use mathlib.Core.Path.{◌≡◌, refl, sym, ap, ◌∙◌, subst}
use Rattle.words.specs.Words.{Word}
use Rattle.words.specs.Relations.{Relation, relation_words}
use Rattle.words.specs.Families.{words_of, family_of}
use Rattle.overlap.specs.Pieces.{IsPiece}
use Rattle.overlap.specs.Pieces.IsPiece.{empty}
use Rattle.overlap.proofs.Facts.{rigid_of_c4}
use Rattle.congruence.specs.Congruence.{Congruent}
use Rattle.congruence.specs.Congruence.Congruent.{done}
use Rattle.congruence.proofs.Heads.{Facts}
use Rattle.congruence.proofs.Chains.{Chain, chain_sym, chain_join}
use Rattle.congruence.proofs.Members.{congruent_of_chain, chain_of_congruent}
use Rattle.least.specs.Order.{Injective}
use Rattle.least.specs.Least.{LeastBehind, LeastWord}
use Rattle.least.specs.Writing.{Found, found, absent, word_of, behind, Parts, least_behind}
use Rattle.least.specs.Writing.Part.{part}
use Rattle.least.specs.Writing.Parts.{ended, failed, goes}
use Rattle.least.specs.Theorem.{Written, LeastWords, RoundsWriteLeast, LeastWordsDecide, WalkTellsPossible}
use Rattle.least.proofs.Order.{at_most_unique}
use Rattle.least.proofs.Marks.{Marking, marking_piece}
use Rattle.least.proofs.Possible.{possible_right}
use Rattle.least.proofs.NextQuestion.{LeastChain, Missing, Says}
use Rattle.least.proofs.RoundRight.{round_says}
use Rattle.least.proofs.Ends.{parts_unique, computed_of_parts, parts_end}

-- what a result says of p and u, for families of any size
abbrev pub Answers : List Word → (ℕ → ℕ) → (ℕ → ℕ) → Word → Word → Found → Type 0
Answers B fam rank p u (found w) = LeastChain B fam rank p u w
Answers B fam rank p u absent = Missing B fam p u

module _ {B : List Word} (R : Facts B) (fam rank : ℕ → ℕ) (injective : Injective rank) where
  -- an answer behind a part
  answer_behind : (p u c p' u' : Word) (r : Found) → Says B fam rank p u (part c p' u') → Answers B fam rank p' u' r → Answers B fam rank p u (behind c r)
  answer_behind p u c p' u' (found w) s a = s.0 w a
  answer_behind p u c p' u' absent s a = s.1 a

  -- the result of the rounds is the answer
  pub parts_answer : {p u : Word} {n : ℕ} {r : Found} → Marking B p → Parts B fam rank p u n r → Answers B fam rank p u r
  parts_answer {p} {u} m (ended e) = subst (Says B fam rank p u) e (round_says R fam rank injective p u m)
  parts_answer {p} {u} m (failed e) = subst (Says B fam rank p u) e (round_says R fam rank injective p u m)
  parts_answer {p} {u} m (goes {c = c} {p' = p'} {u' = u'} {r = r} e d) =
      let s = subst (Says B fam rank p u) e (round_says R fam rank injective p u m) in
      answer_behind p u c p' u' r s (parts_answer s.2 d)

-- different results
found_injective : {v w : Word} → found v ≡ found w → v ≡ w
found_injective {v} {w} e = ap word_of e

found≢absent : {w : Word} → found w ≡ absent → ⊥
found≢absent {w} e = subst (λ r. IsFound r) e tt
  where
    IsFound : Found → Type 0
    IsFound (found w) = Unit {0}
    IsFound absent = ⊥

-- one word is the least at most, whatever the congruence
pub least_unique : {Joined : Word → Word → Type 0} {rank : ℕ → ℕ} {p u w x : Word} → LeastBehind Joined rank p u w → LeastBehind Joined rank p u x → w ≡ x
least_unique {w = w} {x = x} a b = at_most_unique (a.first x b.joined) (b.first w a.joined)

module _ {B : List Word} (fam rank : ℕ → ℕ) (p u : Word) where
  found_least : (r : Found) → Answers B fam rank p u r → (w : Word) → (r ≡ found w) ↔ LeastChain B fam rank p u w
  found_least (found x) a w = ((λ e. subst (LeastChain B fam rank p u) (found_injective e) a), (λ l. ap found (least_unique a l)))
  found_least absent a w = ((λ e. absurd (found≢absent (sym e))), (λ l. absurd (a w l.joined)))

  absent_missing : (r : Found) → Answers B fam rank p u r → (r ≡ absent) ↔ Missing B fam p u
  absent_missing (found x) a = ((λ e. absurd (found≢absent e)), (λ f. absurd (f x a.joined)))
  absent_missing absent a = ((λ e. a), (λ f. refl))

-- the rounds write the least word, for families of any size: of every presentation that meets C(4), every rank in which different letters differ, every mark
pub families_write_least : {B : List Word} → Facts B → (fam rank : ℕ → ℕ) → Injective rank → (p u : Word) → Marking B p → Written B fam rank (Chain B fam) p u
unfolding least_behind
families_write_least {B} R fam rank injective p u m =
    let x = parts_end B R fam rank p u in
    let a = parts_answer R fam rank injective m x.parts in
    record {
      rounds = x.count;
      result = x.result;
      made = x.parts;
      only = λ n r d. parts_unique d x.parts;
      bound = x.bound;
      computed = computed_of_parts x.parts _ x.bound;
      least = found_least fam rank p u x.result a;
      missing = absent_missing fam rank p u x.result a;
      short = x.short;
    }

-- chains of families join the same words as rewrite steps of relations
module _ (relations : List Relation) (R : Facts (words_of relations)) (rank : ℕ → ℕ) (injective : Injective rank) where
  least_iff : (p u w : Word) → LeastChain (words_of relations) (family_of relations) rank p u w ↔ LeastBehind (Congruent (relation_words relations)) rank p u w
  least_iff p u w = (
    (λ l. record { joined = congruent_of_chain relations l.joined; first = λ v c. l.first v (chain_of_congruent relations c) }),
    (λ l. record { joined = chain_of_congruent relations l.joined; first = λ v c. l.first v (congruent_of_chain relations c) }),
  )

  written : (p u : Word) → IsPiece (words_of relations) p → Written (words_of relations) (family_of relations) rank (Congruent (relation_words relations)) p u
  written p u piece =
      let x = families_write_least R (family_of relations) rank injective p u (marking_piece R piece) in
      record {
        rounds = x.rounds;
        result = x.result;
        made = x.made;
        only = x.only;
        bound = x.bound;
        computed = x.computed;
        least = λ w. let l = x.least w in let i = least_iff p u w in ((λ e. i.0 (l.0 e)), (λ a. l.1 (i.1 a)));
        missing = ((λ e w c. x.missing.0 e w (chain_of_congruent relations c)), (λ f. x.missing.1 (λ w c. f w (congruent_of_chain relations c))));
        short = x.short;
      }

  -- least words of single words
  least_word : {u w : Word} → LeastBehind (Congruent (relation_words relations)) rank [] u w → LeastWord (relation_words relations) rank u w
  least_word l = record { congruent = l.joined; first = l.first }

  least_behind_nothing : {u w : Word} → LeastWord (relation_words relations) rank u w → LeastBehind (Congruent (relation_words relations)) rank [] u w
  least_behind_nothing l = record { joined = l.congruent; first = l.first }

  congruent_sym : {u v : Word} → Congruent (relation_words relations) u v → Congruent (relation_words relations) v u
  congruent_sym c = congruent_of_chain relations (chain_sym (chain_of_congruent relations c))

  congruent_join : {u v w : Word} → Congruent (relation_words relations) u v → Congruent (relation_words relations) v w → Congruent (relation_words relations) u w
  congruent_join c d = congruent_of_chain relations (chain_join (chain_of_congruent relations c) (chain_of_congruent relations d))

  least_words : LeastWords relations rank
  least_words =
      record {
        exists = λ u. exists u (written [] u (empty refl)).result refl;
        unique = λ u w x a b. least_unique (least_behind_nothing a) (least_behind_nothing b);
        decides = λ u v w x a b. (
          (λ c. least_unique (least_behind_nothing a) (least_behind_nothing (record {
            congruent = congruent_join b.congruent (congruent_sym c);
            first = λ y d. b.first y (congruent_join d c);
          }))),
          (λ e. congruent_join (congruent_sym a.congruent) (subst (λ (y : Word). Congruent (relation_words relations) y v) (sym e) b.congruent)),
        );
        computed = λ u w.
            let x = written [] u (empty refl) in
            let y = x.least w in
            ((λ e. least_word (y.0 (sym x.computed ∙ e))), (λ l. x.computed ∙ y.1 (least_behind_nothing l)));
        short = λ u w l. let x = written [] u (empty refl) in x.short w ((x.least w).1 (least_behind_nothing l));
      }
    where
      exists : (u : Word) (r : Found) → (written [] u (empty refl)).result ≡ r → (w : Word) × LeastWord (relation_words relations) rank u w
      exists u (found w) e = (w, least_word (((written [] u (empty refl)).least w).0 e))
      exists u absent e = absurd ((written [] u (empty refl)).missing.0 e u done)

pub rounds_write_least : RoundsWriteLeast
rounds_write_least relations c rank injective p u piece = written relations (rigid_of_c4 (words_of relations) c) rank injective p u piece

pub least_words_decide : LeastWordsDecide
least_words_decide relations c rank injective = least_words relations (rigid_of_c4 (words_of relations) c) rank injective

pub walk_tells_possible : WalkTellsPossible
walk_tells_possible relations c p u piece =
    let R = rigid_of_c4 (words_of relations) c in
    let r = possible_right R (family_of relations) p u (marking_piece R piece) in (
      (λ e. let x = r.0 e in (x.rest, congruent_of_chain relations x.chain)),
      (λ x. r.1 (record { rest = x.0; chain = chain_of_congruent relations x.1 })),
    )
