-- Each relation makes one of the families of its two words.
use Prim.Native.Nat.{ℕ, suc, ◌+◌, ◌*◌, ◌≤◌, ◌<◌, min, max}
use mathlib.Core.List.{List}
use mathlib.Core.Logic.{by_cases}
use mathlib.Core.Path.{◌≡◌, sym, ap, ◌∙◌}
use native.Mathlib.Omega.{arith}
use native.Mathlib.Decide.{ℕ_discrete}
use borrow.Author.Rules.{rules}
use borrow.Author.Tests.{eq-eqb, ne_eqb}
use lib.ListN.{get_or}
use lib.Seq.{ext_get_or}
use Rattle.words.specs.Families.{numbers_below, merged, merged_of, families_after, family_in}
use Rattle.words.proofs.Families.{renamed, length_numbers, numbers_at, length_merged, merged_at, lowest_families}
use Rattle.layout.specs.Places.{side_cell, family_from, next_from}
use Rattle.layout.specs.Families.{side_word_of, sides_in, family_at, families_in}
use Rattle.layout.proofs.Cells.{side_at, families_length, family_at_lem}
use Rattle.families.specs.Joining.{KeptOutside, Renamable, Renamed, SideKnown, Joinable, Joined, Groupable, Separate, AllJoined}
use Rattle.families.proofs.Kept.{kept_refl, kept_trans}

-- the family of a side's word
module _ (table : List ℕ) (s : ℕ) (a : SideKnown table s) where
  module _ (w : ℕ) (e : w ≡ side_word_of table s) where
    pub side_family : (f : ℕ) → f ≡ family_at table w → f ≡ family_at table (side_word_of table s)
    side_family f d = d ∙ ap (family_at table) e

pub ruleset side_families = (side_family, rules)

-- the larger number may be either
merged_swap : (a b : ℕ) (F : List ℕ) → merged a b F ≡ merged b a F
merged_swap a b F =
    ext_get_or 0 (merged a b F) (merged b a F) (length_merged a b F ∙ sym (length_merged b a F))
    (λ k h. merged_at a b F k ∙ swap (family_in F k) ∙ sym (merged_at b a F k))
  where
    swap : (f : ℕ) → renamed a b f ≡ renamed b a f
    swap f = let x : max a b ≡ max b a = omega arith in let y : min a b ≡ min b a = omega arith in rw (x, y)

-- one family with itself
merged_same : (a b : ℕ) (F : List ℕ) → a ≡ b → merged a b F ≡ F
merged_same a b F e =
    ext_get_or 0 (merged a b F) F (length_merged a b F) (λ k h. merged_at a b F k ∙ same (family_in F k))
  where
    same : (f : ℕ) → renamed a b f ≡ f
    same f = by_cases (ℕ_discrete f (max a b))
        (λ d. rw (eq-eqb f (max a b) d) (omega (arith, d, e)))
        (λ d. rw (ne_eqb f (max a b) d))

-- relation r joins its two words, whichever has the smaller number
module _ (table : List ℕ) (n r : ℕ) (j : Joinable table n r) where
  pub join_left : SideKnown table (2 * r)
  join_left = record { room = j.countable.room; side = omega (arith, j.relation); word = omega (arith, j.left, j.countable.few) }

  pub join_right : SideKnown table (2 * r + 1)
  join_right = record { room = j.countable.room; side = omega (arith, j.relation); word = omega (arith, j.right, j.countable.few) }

  module _ (a b : ℕ) (e : a ≡ family_at table (side_word_of table (2 * r))) (f : b ≡ family_at table (side_word_of table (2 * r + 1))) where
    -- the numbers a and b are those of the two words in the list of families
    of_relation : (F : List ℕ) → F ≡ merged a b (families_in table n) → F ≡ merged_of (families_in table n) (side_word_of table (2 * r)) (side_word_of table (2 * r + 1))
    of_relation F d = d ∙ rw (family_at_lem table n (side_word_of table (2 * r)) j.left, family_at_lem table n (side_word_of table (2 * r + 1)) j.right, ← e, ← f)

    pub join_up : a < b → Renamable table n a b
    join_up h =
        let p = j.places (side_word_of table (2 * r + 1)) j.right in
        record { countable = j.countable; order = h; known = omega (arith, f, j.right, p); places = j.places }

    pub join_down : b < a → Renamable table n b a
    join_down h =
        let p = j.places (side_word_of table (2 * r)) j.left in
        record { countable = j.countable; order = h; known = omega (arith, e, j.left, p); places = j.places }

    pub joined_up : (table' : List ℕ) → Renamed table n a b table' → Joined table n r table'
    joined_up table' m = record { kept = m.kept; families = of_relation (families_in table' n) m.families }

    pub joined_down : (table' : List ℕ) → Renamed table n b a table' → Joined table n r table'
    joined_down table' m = record { kept = m.kept; families = of_relation (families_in table' n) (m.families ∙ merged_swap b a (families_in table n)) }

    pub joined_none : b ≤ a → a ≤ b → Joined table n r table
    joined_none h l =
        record { kept = kept_refl _ _ table; families = of_relation (families_in table n) (sym (merged_same a b (families_in table n) (omega (arith, h, l)))) }

pub ruleset joins = (join_left, join_right, join_up, join_down, joined_up, joined_down, joined_none, rules)

-- the families after r relations
pub record Gathering (table₀ : List ℕ) (n relations r : ℕ) (table : List ℕ) : Type 0 where
  pub groupable : Groupable table₀ n relations
  pub upto : r ≤ relations
  pub kept : KeptOutside family_from next_from table₀ table
  pub families : families_in table n ≡ families_after (sides_in table₀ (2 * relations)) n r

-- numbers of families are not above their places, and the number of a family is its lowest member
module _ (S : List ℕ) (n r : ℕ) (table : List ℕ) (f : families_in table n ≡ families_after S n r) where
  number_is : (i : ℕ) → i < n → family_at table i ≡ family_in (families_after S n r) i
  number_is i h = sym (family_at_lem table n i h) ∙ ap (λ (F : List ℕ). get_or F i 0) f

  pub number_low : (i : ℕ) → i < n → family_at table i ≤ i
  number_low i h = omega (arith, number_is i h, (lowest_families S n r).low i)

  pub number_lowest : (i : ℕ) → i < n → family_at table (family_at table i) ≡ family_at table i
  number_lowest i h =
      number_is (family_at table i) (omega (arith, number_low i h, h)) ∙ ap (family_in (families_after S n r)) (number_is i h)
      ∙ (lowest_families S n r).own i ∙ sym (number_is i h)

-- before any relation each word is a family
pub gather_start : (table : List ℕ) (n relations : ℕ) → Separate table n relations → Gathering table n relations 0 table
unfolding families_after
gather_start table n relations a =
    record {
      groupable = a.groupable;
      upto = omega arith;
      kept = kept_refl _ _ table;
      families = ext_get_or 0 (families_in table n) (numbers_below n) (families_length table n ∙ sym (length_numbers n))
          (λ k l₀.
          let l : k < n = omega (arith, families_length table n, l₀) in
          family_at_lem table n k l ∙ a.own k l ∙ sym (numbers_at n k l));
    }

module _ (table₀ : List ℕ) (n relations r : ℕ) (table : List ℕ) (s : Gathering table₀ n relations r table) where
  -- the sides are those of before
  side_kept : (q : ℕ) → q < 2 * relations → side_word_of table q ≡ side_word_of table₀ q
  side_kept q h = s.kept.before (side_cell q) (omega (arith, h, s.groupable.few))

  side_known : (q : ℕ) → q < 2 * relations → side_word_of table q < n
  side_known q h = omega (arith, side_kept q h, s.groupable.known q h)

  side_listed : (q : ℕ) → q < 2 * relations → get_or (sides_in table₀ (2 * relations)) q 0 ≡ side_word_of table q
  side_listed q h = side_at table₀ (2 * relations) q h ∙ sym (side_kept q h)

  pub gather_join : r < relations → Joinable table n r
  gather_join h =
      record {
        countable = record { few = s.groupable.countable.few; room = s.kept.long ∙ s.groupable.countable.room };
        relation = omega (arith, h, s.groupable.few);
        left = side_known (2 * r) (omega (arith, h));
        right = side_known (2 * r + 1) (omega (arith, h));
        places = number_low (sides_in table₀ (2 * relations)) n r table s.families;
      }

  -- one relation more
  pub gather_more : r < relations → (table' : List ℕ) → Joined table n r table' → Gathering table₀ n relations (r + 1) table'
  unfolding families_after
  gather_more h table' d =
      let z : r + 1 ≡ suc r = omega arith in
      record {
        groupable = s.groupable;
        upto = omega (arith, h);
        kept = kept_trans s.kept d.kept;
        families = rw (z, side_listed (2 * r) (omega (arith, h)), side_listed (2 * r + 1) (omega (arith, h)), ← s.families) d.families;
      }

  pub gather_end : relations ≤ r → AllJoined table₀ n relations table
  gather_end h =
      let e : r ≡ relations = omega (arith, h, s.upto) in
      record { kept = s.kept; families = s.families ∙ ap (families_after (sides_in table₀ (2 * relations)) n) e }

pub ruleset gathers = (gather_start, gather_join, gather_more, gather_end, rules)
