-- What follows from the demands for the callers of the removal.
use Prim.Native.Nat.{ℕ, ◌<◌, ◌≤◌}
use mathlib.Core.Bool.{Bool, true, false}
use mathlib.Core.List.{List, [], ◌++◌}
use mathlib.Core.Path.{◌≡◌, refl, sym, ap, ◌∙◌}
use native.Mathlib.Omega.{arith}
use lib.ListN.{length}
use Rattle.words.specs.Words.{Word}
use Rattle.words.specs.Relations.{Relation, relation_words}
use Rattle.words.specs.Families.{words_of, family_of}
use Rattle.overlap.specs.Pieces.{IsPiece, empty, twice, C4}
use Rattle.overlap.specs.Cuts.{len, is_piece}
use Rattle.overlap.proofs.Agree.{is_piece_iff_piece, piece_shorter}
use Rattle.congruence.specs.Congruence.{Congruent}
use Rattle.congruence.specs.Congruence.Congruent.{done}
use Rattle.congruence.proofs.Chains.{chain_sym, chain_join}
use Rattle.congruence.proofs.Members.{congruent_of_chain, chain_of_congruent}
use Rattle.least.specs.Order.{house_rank}
use Rattle.least.specs.Least.{LeastBehind}
use Rattle.least.specs.Writing.{Found, found, absent}
use Rattle.least.specs.Theorem.{Written}
use Rattle.limits.specs.Limits.{side_most}
use Rattle.format.specs.Book.{BookReading}
use Rattle.loading.specs.Loading.{load_book}
use Rattle.given.proofs.Laws.{marked_nothing}
use Rattle.asked.specs.Least.{least_for}
use Rattle.leastword.proofs.Rounds.{least_found}
use Rattle.answers.specs.Entries.{found_at, placed_at, loaded_least, least_of}
use Rattle.answers.proofs.Loaded.{loaded_c4, loaded_short}
use Rattle.removal.specs.Removal.{removed_at, loaded_removal, removal_of}
use Rattle.removal.specs.Demands.{NothingRemoved, LongNoPiece, JoinedComeOff, ClassesAlike}
use Rattle.removal.proofs.Removals.{piece_removed, no_piece_removed, removal_is, loaded_writes, loaded_removes}

-- behind the empty piece stands the least word
behind_nothing : (relations : List Relation) → C4 (words_of relations) → (u : Word) (old : List ℕ) (offset : ℕ)
    → removed_at (words_of relations) (family_of relations) u [] old offset ≡ placed_at offset (least_for (words_of relations) (family_of relations) u) old
behind_nothing relations c u old offset =
    let B = words_of relations in
    piece_removed B (family_of relations) u [] old offset ((is_piece_iff_piece B []).1 (empty refl))
    ∙ ap (λ (f : Found). found_at offset f old) (least_found B (family_of relations) c u)

pub nothing_removed : NothingRemoved
unfolding removal_of loaded_removal least_of loaded_least
nothing_removed book u old offset = go (load_book book) refl
  where
    go : (x : BookReading) → load_book book ≡ x → removal_of book u [] old offset ≡ least_of book u old offset
    go (BookReading.refused r) e = rw e
    go (BookReading.read p) e = rw (e, marked_nothing p.letters u, behind_nothing p.relations (loaded_c4 book p e) u old offset)

-- a piece is shorter than the relation words that it stands in
piece_short : (B : List Word) → C4 B → ((i : ℕ) → len B i ≤ side_most) → (p : Word) → IsPiece B p → length p < side_most
piece_short B c s p (empty e) = omega (arith, ap length e)
piece_short B c s p (twice i k j q a b d) = omega (arith, piece_shorter B c p i k (twice i k j q a b d) a, s i)

pub long_no_piece : LongNoPiece
long_no_piece book u p old offset q e f h =
    (loaded_removes book q e u p old offset f).strange.1 (λ s. omega (arith, piece_short (words_of q.relations) (loaded_c4 book q e) (loaded_short book q e) p s))

pub joined_come_off : JoinedComeOff
joined_come_off book p v old offset q e f s =
    let w = (loaded_removes book q e (p ++ v) p old offset f).writes s v done in
    (w, w.least.first v done)

-- what the rounds from the mark p give for u
abbrev Told : List Relation → Word → Word → Type 0
Told relations p u = Written (words_of relations) (family_of relations) house_rank (Congruent (relation_words relations)) p u

-- a congruent word has the same least words behind a prefix, and the same lack of them
module _ (relations : List Relation) {u v : Word} (c : Congruent (relation_words relations) u v) where
  turned : {x y : Word} → Congruent (relation_words relations) x y → Congruent (relation_words relations) y x
  turned d = congruent_of_chain relations (chain_sym (chain_of_congruent relations d))

  onward : {x : Word} → Congruent (relation_words relations) x u → Congruent (relation_words relations) x v
  onward d = congruent_of_chain relations (chain_join (chain_of_congruent relations d) (chain_of_congruent relations c))

  back : {x : Word} → Congruent (relation_words relations) x v → Congruent (relation_words relations) x u
  back d = congruent_of_chain relations (chain_join (chain_of_congruent relations d) (chain_of_congruent relations (turned c)))

  alike_least : {p w : Word} → LeastBehind (Congruent (relation_words relations)) house_rank p u w → LeastBehind (Congruent (relation_words relations)) house_rank p v w
  alike_least l = record { joined = onward l.joined; first = λ x d. l.first x (back d) }

  same_found : {p : Word} (a : Told relations p u) (b : Told relations p v) → a.result ≡ b.result
  same_found a b = go a.result refl
    where
      go : (r : Found) → a.result ≡ r → a.result ≡ b.result
      go (found w) e = e ∙ sym ((b.least w).1 (alike_least ((a.least w).0 e)))
      go absent e = e ∙ sym (b.missing.1 (λ w d. a.missing.0 e w (back d)))

pub classes_alike : ClassesAlike
classes_alike book u v p old offset q e f g c =
    let B = words_of q.relations in
    let F = family_of q.relations in
    removal_is book q e u p old offset f ∙ go (is_piece B p) refl ∙ sym (removal_is book q e v p old offset g)
  where
    go : (t : Bool) → is_piece (words_of q.relations) p ≡ t
        → removed_at (words_of q.relations) (family_of q.relations) u p old offset ≡ removed_at (words_of q.relations) (family_of q.relations) v p old offset
    go false d = no_piece_removed (words_of q.relations) (family_of q.relations) u p old offset d ∙ sym (no_piece_removed (words_of q.relations) (family_of q.relations) v p old offset d)
    go true d =
        let s = (is_piece_iff_piece (words_of q.relations) p).0 d in
        let a = loaded_writes book q e p u s in
        let b = loaded_writes book q e p v s in
        piece_removed (words_of q.relations) (family_of q.relations) u p old offset d
        ∙ ap (λ (x : Found). found_at offset x old) (a.computed ∙ same_found q.relations c a b ∙ sym b.computed)
        ∙ sym (piece_removed (words_of q.relations) (family_of q.relations) v p old offset d)
