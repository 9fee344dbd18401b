-- The numbers of families: each word with its own, and one family of two.
use Prim.Native.Nat.{ℕ, ◌+◌, ◌≤◌, ◌<◌, min, max}
use mathlib.Core.List.{List}
use mathlib.Core.Logic.{by_cases}
use mathlib.Core.Path.{◌≡◌, refl, sym, ap, ◌∙◌}
use native.Mathlib.Omega.{arith}
use native.Mathlib.Decide.{ℕ_discrete}
use borrow.Author.Rules.{rules}
use borrow.Author.Tests.{eq-eqb, ne_eqb}
use lib.ListN.{length, set, length-set}
use lib.Seq.{get_or-set_same, get_or-set_other, ext_get_or}
use Rattle.std.proofs.lemmas.List.{set-get_or}
use Rattle.words.specs.Families.{merged}
use Rattle.words.proofs.Families.{renamed, length_merged, merged_at}
use Rattle.layout.specs.Places.{words_most, family_from, family_cell, next_from, next_cell, first_from}
use Rattle.layout.specs.Families.{family_at, families_in, next_of}
use Rattle.layout.proofs.Cells.{families_length, family_at_lem}
use Rattle.families.specs.Joining.{KeptOutside, Countable, Alone, renamed_at, Nameable, Renamable, Renamed}
use Rattle.families.proofs.Kept.{kept_refl, kept_set}

-- the first i words have their own numbers and links that lead nowhere
pub record Starting (table₀ : List ℕ) (n i : ℕ) (table : List ℕ) : Type 0 where
  pub countable : Countable table₀ n
  pub upto : i ≤ n
  pub kept : KeptOutside family_from first_from table₀ table
  pub own : (k : ℕ) → k < i → family_at table k ≡ k
  pub unlinked : (k : ℕ) → k < i → next_of table k ≡ n

pub start_first : (table : List ℕ) (n : ℕ) → Countable table n → Starting table n 0 table
start_first table n c =
    record { countable = c; upto = omega arith; kept = kept_refl _ _ table; own = λ k h. absurd (omega (arith, h)); unlinked = λ k h. absurd (omega (arith, h)) }

module _ (table₀ : List ℕ) (n i : ℕ) (table : List ℕ) (s : Starting table₀ n i table) where
  start_cell : i < n → family_cell i < length table
  start_cell h = omega (arith, h, s.countable.few, s.countable.room, s.kept.long)

  pub start_next : i < n → (v : ℕ) → next_cell i < length (set table (family_cell i) v)
  start_next h v = simp length-set (omega (arith, h, s.countable.few, s.countable.room, s.kept.long))

  -- word i gets its own number, and its link leads to no word
  pub start_more : i < n → (v w : ℕ) → v ≡ i → w ≡ n → Starting table₀ n (i + 1) (set (set table (family_cell i) v) (next_cell i) w)
  start_more h v w e f =
      let few = s.countable.few in
      record {
        countable = s.countable;
        upto = omega (arith, h);
        kept = kept_set (next_cell i) w (kept_set (family_cell i) v s.kept (omega arith) (omega (arith, h, few))) (omega arith) (omega (arith, h, few));
        own = λ k l.
            get_or-set_other (set table (family_cell i) v) (next_cell i) (family_cell k) w 0 (λ d. omega (arith, d, l, h, few))
            ∙ by_cases (ℕ_discrete k i)
            (λ d. rw d (get_or-set_same table (family_cell i) v 0 (start_cell h) ∙ e))
            (λ d. get_or-set_other table (family_cell i) (family_cell k) v 0 (λ c. d (omega (arith, c))) ∙ s.own k (omega (arith, l, d)));
        unlinked = λ k l. by_cases (ℕ_discrete k i)
            (λ d. rw d (get_or-set_same (set table (family_cell i) v) (next_cell i) w 0 (start_next h v) ∙ f))
            (λ d. get_or-set_other (set table (family_cell i) v) (next_cell i) (next_cell k) w 0 (λ c. d (omega (arith, c)))
            ∙ get_or-set_other table (family_cell i) (next_cell k) v 0 (λ c. omega (arith, c, h, few)) ∙ s.unlinked k (omega (arith, l, d)));
      }

  pub start_end : n ≤ i → Alone table₀ n table
  start_end h = record { kept = s.kept; own = λ k l. s.own k (omega (arith, h, l)); unlinked = λ k l. s.unlinked k (omega (arith, h, l)) }

pub ruleset starts = (start_first, start_next, start_more, start_end, rules)

-- one word goes over, or stays
module _ (table : List ℕ) (i low high : ℕ) (a : Nameable table i low) where
  module _ (f : ℕ) (e : f ≡ family_at table i) where
    pub name_changed : f ≡ high → (v : ℕ) → v ≡ low → set table (family_cell i) v ≡ renamed_at table i low high
    name_changed h v d = rw (eq-eqb (family_at table i) high (sym e ∙ h), d)

    pub name_left : (f ≡ high → ⊥) → table ≡ renamed_at table i low high
    name_left h = rw (ne_eqb (family_at table i) high (λ d. h (e ∙ d))) (sym (set-get_or table (family_cell i) 0))

pub ruleset names = (name_changed, name_left, rules)

-- one family of two, as far as word i
pub record Renaming (table₀ : List ℕ) (n low high i : ℕ) (table : List ℕ) : Type 0 where
  pub renamable : Renamable table₀ n low high
  pub upto : i ≤ n
  pub kept : KeptOutside family_from next_from table₀ table
  pub done : (k : ℕ) → k < i → family_at table k ≡ renamed low high (family_at table₀ k)
  pub rest : (k : ℕ) → i ≤ k → k < n → family_at table k ≡ family_at table₀ k

-- of two numbers in order, the larger and the smaller
module _ (low high : ℕ) (o : low < high) where
  high_is : max low high ≡ high
  high_is = omega (arith, o)

  low_is : min low high ≡ low
  low_is = omega (arith, o)

  -- a number below the larger stays
  renamed_below : (f : ℕ) → f < high → renamed low high f ≡ f
  renamed_below f h = rw (high_is, ne_eqb f high (λ e. omega (arith, e, h)))

-- the words below the larger number have smaller ones, and keep them
pub rename_first : (table : List ℕ) (n low high : ℕ) → Renamable table n low high → Renaming table n low high high table
rename_first table n low high a =
    record {
      renamable = a;
      upto = omega (arith, a.known);
      kept = kept_refl _ _ table;
      done = λ k h. sym (renamed_below low high a.order (family_at table k) (omega (arith, h, a.places k (omega (arith, h, a.known)))));
      rest = λ k h l. refl;
    }

module _ (table₀ : List ℕ) (n low high i : ℕ) (table : List ℕ) (s : Renaming table₀ n low high i table) where
  few : n ≤ words_most
  few = s.renamable.countable.few

  pub rename_name : i < n → Nameable table i low
  rename_name h =
      record {
        inside = omega (arith, h, few, s.renamable.countable.room, s.kept.long);
        small = omega (arith, s.renamable.order, s.renamable.known, few);
      }

  -- word i has gone over, or stayed
  pub rename_more : i < n → (table' : List ℕ) → table' ≡ renamed_at table i low high → Renaming table₀ n low high (i + 1) table'
  rename_more h table' e = rw e
      (record {
        renamable = s.renamable;
        upto = omega (arith, h);
        kept = kept_set (family_cell i) _ s.kept (omega arith) (omega (arith, h, few));
        done = λ k l. by_cases (ℕ_discrete k i)
            (λ d. rw d (get_or-set_same table (family_cell i) _ 0 (rename_name h).inside
            ∙ rw (high_is low high s.renamable.order, low_is low high s.renamable.order, s.rest i (omega arith) h)))
            (λ d. get_or-set_other table (family_cell i) (family_cell k) _ 0 (λ c. d (omega (arith, c))) ∙ s.done k (omega (arith, l, d)));
        rest = λ k l b. get_or-set_other table (family_cell i) (family_cell k) _ 0 (λ c. omega (arith, c, l)) ∙ s.rest k (omega (arith, l)) b;
      })

  -- all words have: the list is that of the definition
  pub rename_end : n ≤ i → Renamed table₀ n low high table
  rename_end h =
      record {
        kept = s.kept;
        families =
            ext_get_or 0 (families_in table n) (merged low high (families_in table₀ n))
            (families_length table n ∙ sym (length_merged low high (families_in table₀ n) ∙ families_length table₀ n))
            (λ k l₀.
            let l : k < n = omega (arith, families_length table n, l₀) in
            family_at_lem table n k l ∙ s.done k (omega (arith, h, l)) ∙ ap (renamed low high) (sym (family_at_lem table₀ n k l))
            ∙ sym (merged_at low high (families_in table₀ n) k));
      }

pub ruleset renames = (rename_first, rename_name, rename_more, rename_end, rules)
