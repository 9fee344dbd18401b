-- One side more: its number in its cell, and its word behind the others where it is new.
use Prim.Native.Nat.{ℕ, ◌+◌, ◌≤◌, ◌<◌}
use mathlib.Core.List.{List, [], ◌∷◌, ◌++◌}
use mathlib.Core.Path.{◌≡◌, refl, sym, ap, ◌∙◌}
use native.Mathlib.Omega.{arith}
use borrow.Author.Rules.{rules}
use lib.ListN.{length, get_or, set, length-set}
use lib.Seq.{get_or-set_same, get_or-set_other}
use Rattle.words.specs.Words.{Word}
use Rattle.words.specs.Families.{place_of}
use Rattle.words.proofs.Distinct.{place_bound, including_there, including_new}
use Rattle.layout.specs.Places.{start_cell, end_cell, side_cell}
use Rattle.layout.specs.Layout.{start_of, end_of, words_in, Laid}
use Rattle.layout.proofs.Placed.{words_length, words_of_places, laid_of_places}
use Rattle.layout.proofs.Cells.{sides_more}
use Rattle.laying.specs.Appending.{WordRoom, Appended}
use Rattle.laying.specs.Sides.{SideRoom, SideAppended}

-- side s, whose word may be one of the n that are laid
module _ (word text table : List ℕ) (n s : ℕ) (r : SideRoom word text table n s) where
  side_cell_lem : side_cell s < length table
  side_cell_lem = omega (arith, r.more, r.arrays.table_long)

  module _ (i : ℕ) (e : i ≡ place_of word (words_in text table n)) where
    place_low : i ≤ n
    place_low = omega (arith, e, place_bound word (words_in text table n), words_length text table n)

    pub side_small : i < 65536
    side_small = omega (arith, place_low, r.laid.few)

    module _ (v : ℕ) (f : v ≡ i) where
      abbrev table₁ : List ℕ
      table₁ = set table (side_cell s) v

      -- the positions are kept
      start_kept : (k : ℕ) → k ≤ n → start_of table₁ k ≡ start_of table k
      start_kept k h = get_or-set_other table (side_cell s) (start_cell k) v 0 (λ d. omega (arith, h, r.laid.few, d))

      end_kept : (k : ℕ) → k < n → end_of table₁ k ≡ end_of table k
      end_kept k h = get_or-set_other table (side_cell s) (end_cell k) v 0 (λ d. omega (arith, h, r.laid.few, d))

      words_kept : words_in text table₁ n ≡ words_in text table n
      words_kept = words_of_places text table table₁ n start_kept end_kept

      laid_kept : Laid text table₁ n
      laid_kept = laid_of_places text table table₁ n start_kept end_kept (length-set table (side_cell s) v) r.laid

      side_number : get_or table₁ (side_cell s) 0 ≡ place_of word (words_in text table n)
      side_number = get_or-set_same table (side_cell s) v 0 side_cell_lem ∙ f ∙ e

      -- its word is there
      pub side_there : i < n → SideAppended word text table n s text table₁ n
      side_there h =
          record {
            laid = laid_kept;
            few = omega arith;
            words = words_kept ∙ sym (including_there (words_in text table n) word (omega (arith, e, h, words_length text table n)));
            sides = sides_more table table₁ s _ (λ k a b. get_or-set_other table (side_cell s) k v 0 (λ d. omega (arith, b, d))) side_number;
            text_long = refl;
            table_long = length-set table (side_cell s) v;
          }

      pub side_room : n ≤ i → WordRoom word text table₁ n
      side_room h =
          record {
            laid = laid_kept;
            more = omega (arith, r.before, r.more);
            some = r.some;
            short = r.short;
            known = r.known;
            arrays = record { text_long = r.arrays.text_long; table_long = length-set table (side_cell s) v ∙ r.arrays.table_long };
          }

      -- its word is new, and is laid behind the others
      pub side_new : n ≤ i → (text' table' : List ℕ) → Appended word text table₁ n text' table' → SideAppended word text table n s text' table' (n + 1)
      side_new h text' table' a =
          record {
            laid = a.laid;
            few = omega arith;
            words =
                a.words ∙ ap (λ (D : List Word). D ++ (word ∷ [])) words_kept
                ∙ sym (including_new (words_in text table n) word (omega (arith, e, h, words_length text table n)));
            sides = sides_more table table' s _ (λ k l b. a.beyond k l ∙ get_or-set_other table (side_cell s) k v 0 (λ d. omega (arith, b, d)))
                (a.beyond (side_cell s) (omega arith) ∙ side_number);
            text_long = a.text_long;
            table_long = a.table_long ∙ length-set table (side_cell s) v;
          }

  pub side_long : (v : ℕ) (text' table' : List ℕ) → Appended word text (set table (side_cell s) v) n text' table' → length table' ≡ length table
  side_long v text' table' a = a.table_long ∙ length-set table (side_cell s) v

pub ruleset side_rooms = (side_small, side_there, side_room, side_new, side_long, rules)
