-- Chains of rewrite steps over families of relation words: a step puts any member of a family for another, anywhere.
-- Document 003, section 1, has families of two (a relation's two sides); document 000 lets a word be a side of several relations.
use Prim.Native.Nat.{ℕ, ◌<◌}
use mathlib.Core.List.{List, [], ◌++◌, append_assoc, append-nil}
use mathlib.Core.Path.{◌≡◌, refl, sym, ap, ◌∙◌, subst, subst₂}
use lib.ListN.{length}
use Rattle.words.specs.Words.{Word}
use Rattle.overlap.specs.Pieces.{word}

-- relation words i and j are of one family
pub record Kin (B : List Word) (fam : ℕ → ℕ) (i j : ℕ) : Type 0 where
  pub here : i < length B
  pub there : j < length B
  pub same : fam i ≡ fam j

-- one step: a member of a family is replaced by a member of the same family
pub record Step (B : List Word) (fam : ℕ → ℕ) (u v : Word) : Type 0 where
  pub by : ℕ
  pub into : ℕ
  pub kin : Kin B fam by into
  pub before : Word
  pub after : Word
  pub from : before ++ (word B by ++ after) ≡ u
  pub to : before ++ (word B into ++ after) ≡ v

-- zero or more steps: the family congruence
pub data Chain (B : List Word) (fam : ℕ → ℕ) : Word → Word → Type 0 where
  stop : {u : Word} → Chain B fam u u
  step : {u v w : Word} → Step B fam u v → Chain B fam v w → Chain B fam u w

module _ {B : List Word} {fam : ℕ → ℕ} where
  pub kin_refl : {i : ℕ} → i < length B → Kin B fam i i
  kin_refl h = record { here = h; there = h; same = refl }

  pub kin_sym : {i j : ℕ} → Kin B fam i j → Kin B fam j i
  kin_sym k = record { here = k.there; there = k.here; same = sym k.same }

  pub kin_trans : {i j l : ℕ} → Kin B fam i j → Kin B fam j l → Kin B fam i l
  kin_trans k m = record { here = k.here; there = m.there; same = k.same ∙ m.same }

  pub step_sym : {u v : Word} → Step B fam u v → Step B fam v u
  step_sym s = record { by = s.into; into = s.by; kin = kin_sym s.kin; before = s.before; after = s.after; from = s.to; to = s.from }

  -- a step inside a longer word
  pub step_inside : (a b : Word) {u v : Word} → Step B fam u v → Step B fam (a ++ (u ++ b)) (a ++ (v ++ b))
  step_inside a b {u} {v} s =
      record {
        by = s.by;
        into = s.into;
        kin = s.kin;
        before = a ++ s.before;
        after = s.after ++ b;
        from = shift (word B s.by) ∙ ap (λ (w : Word). a ++ (w ++ b)) s.from;
        to = shift (word B s.into) ∙ ap (λ (w : Word). a ++ (w ++ b)) s.to;
      }
    where
      shift : (w : Word) → (a ++ s.before) ++ (w ++ (s.after ++ b)) ≡ a ++ ((s.before ++ (w ++ s.after)) ++ b)
      shift w = simp append_assoc

  pub chain_join : {u v w : Word} → Chain B fam u v → Chain B fam v w → Chain B fam u w
  chain_join stop d = d
  chain_join (step s c) d = step s (chain_join c d)

  pub chain_sym : {u v : Word} → Chain B fam u v → Chain B fam v u
  chain_sym stop = stop
  chain_sym (step s c) = chain_join (chain_sym c) (step (step_sym s) stop)

  pub chain_inside : (a b : Word) {u v : Word} → Chain B fam u v → Chain B fam (a ++ (u ++ b)) (a ++ (v ++ b))
  chain_inside a b stop = stop
  chain_inside a b (step s c) = step (step_inside a b s) (chain_inside a b c)

  -- a chain behind a prefix
  pub chain_behind : (a : Word) {u v : Word} → Chain B fam u v → Chain B fam (a ++ u) (a ++ v)
  chain_behind a {u} {v} c = subst₂ (λ (x y : Word). Chain B fam (a ++ x) (a ++ y)) (append-nil u) (append-nil v) (chain_inside a [] c)

  -- equal words at the ends of a chain
  pub chain_from : {u v w : Word} → u ≡ v → Chain B fam v w → Chain B fam u w
  chain_from {u} {v} {w} e c = subst (λ (x : Word). Chain B fam x w) (sym e) c

  pub chain_to : {u v w : Word} → Chain B fam u v → v ≡ w → Chain B fam u w
  chain_to {u} {v} {w} c e = subst (λ (x : Word). Chain B fam u x) e c

  pub chain_of_eq : {u v : Word} → u ≡ v → Chain B fam u v
  chain_of_eq e = chain_to stop e

  -- one member for another in front of t
  pub chain_turn : {i j : ℕ} → Kin B fam i j → (t : Word) → Chain B fam (word B i ++ t) (word B j ++ t)
  chain_turn {i} {j} k t = step (record { by = i; into = j; kin = k; before = []; after = t; from = refl; to = refl }) stop
