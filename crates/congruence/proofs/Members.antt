-- Steps of families and rewrite steps of relations join the same words: a member of a family takes the place of another by a chain of relations.
use Prim.Native.Nat.{ℕ, ◌<◌}
use mathlib.Core.List.{List, ◌++◌}
use mathlib.Core.Path.{refl, ap, ◌∙◌, subst₂}
use lib.ListN.{length}
use Rattle.words.specs.Words.{Word}
use Rattle.words.specs.Relations.{Relation, relation_words, other}
use Rattle.words.specs.Families.{words_of, family_of, word_of_side, JoinedBy}
use Rattle.words.specs.Families.JoinedBy.{here, along}
use Rattle.words.proofs.Relations.{even_sides, other_there}
use Rattle.words.proofs.Distinct.{distinct_right}
use Rattle.words.proofs.Families.{joined_of_families, family_of_sides}
use Rattle.congruence.specs.Congruence.{Congruent}
use Rattle.congruence.specs.Congruence.Congruent.{done, then}
use Rattle.congruence.specs.Theorem.{MembersCongruent}
use Rattle.congruence.proofs.Chains.{Kin, Chain}
use Rattle.congruence.proofs.Chains.Chain.{stop, step}

-- one chain of rewrite steps behind another
congruent_on : {B : List Word} {u v w : Word} → Congruent B u v → Congruent B v w → Congruent B u w
congruent_on done d = d
congruent_on (then s c) d = then s (congruent_on c d)

-- relation words that a chain of relations joins take each other's place
congruent_of_joined : {B : List Word} (before after : Word) {w x : Word} → JoinedBy B w x → Congruent B (before ++ (w ++ after)) (before ++ (x ++ after))
congruent_of_joined before after here = done
congruent_of_joined before after (along s h e c) =
    then (record { by = s; there = h; before = before; after = after; from = ap (λ (w : Word). before ++ (w ++ after)) e; to = refl })
    (congruent_of_joined before after c)

-- replacing a relation word by a member of its family is a chain of rewrite steps of single relations
pub members_congruent : MembersCongruent
members_congruent relations i j h k e before after = congruent_of_joined before after (joined_of_families relations i j h k e)

-- the words of a side and of its other side are of one family
kin_of_side : (relations : List Relation) (s : ℕ) → s < length (relation_words relations)
    → Kin (words_of relations) (family_of relations) (word_of_side (relation_words relations) s) (word_of_side (relation_words relations) (other s))
kin_of_side relations s h =
    let d = distinct_right (relation_words relations) in
    record {
      here = (d.all s h).0;
      there = (d.all (other s) (other_there (length (relation_words relations)) s (even_sides relations) h)).0;
      same = family_of_sides relations s h;
    }

-- what steps of families join, rewrite steps of relations do
pub congruent_of_chain : (relations : List Relation) {u v : Word} → Chain (words_of relations) (family_of relations) u v → Congruent (relation_words relations) u v
congruent_of_chain relations stop = done
congruent_of_chain relations (step x c) =
    congruent_on
    (subst₂ (Congruent (relation_words relations)) x.from x.to
    (members_congruent relations x.by x.into x.kin.here x.kin.there x.kin.same x.before x.after))
    (congruent_of_chain relations c)

-- and what rewrite steps of relations join, steps of families do
pub chain_of_congruent : (relations : List Relation) {u v : Word} → Congruent (relation_words relations) u v → Chain (words_of relations) (family_of relations) u v
chain_of_congruent relations done = stop
chain_of_congruent relations (then x c) =
    let d = distinct_right (relation_words relations) in
    let b = (d.all x.by x.there).1 in
    let o = (d.all (other x.by) (other_there (length (relation_words relations)) x.by (even_sides relations) x.there)).1 in
    step (record {
      by = word_of_side (relation_words relations) x.by;
      into = word_of_side (relation_words relations) (other x.by);
      kin = kin_of_side relations x.by x.there;
      before = x.before;
      after = x.after;
      from = ap (λ (w : Word). x.before ++ (w ++ x.after)) b ∙ x.from;
      to = ap (λ (w : Word). x.before ++ (w ++ x.after)) o ∙ x.to;
    }) (chain_of_congruent relations c)
