-- Row 2 told by first letters: where no relation word begins with that of u (document 01, row 2).
use Rattle.std.specs.Prelude.{ℕ, ◌≤◌, Bool, false, cond, List, Option, Some, ◌≡◌, leb, ltb, length}
use Rattle.words.specs.Words.{Word}
use Rattle.congruence.specs.Rows.{first_row}
use Rattle.layout.specs.Layout.{words_in}
use Rattle.layout.specs.Families.{family_by}
use Rattle.moves.specs.declared.PlacedWord.{PlacedWord}
use Rattle.moves.specs.declared.State.{State}
use Rattle.moves.specs.State.{placed_word, placed_mark, StateReady}

-- a held word has no letter, where the given word has so many
unfoldable pub held_empty : ℕ → PlacedWord → Bool
held_empty long h = cond (ltb h.at h.to) false (leb long h.from)

-- a held word that has a letter; its part of the text lies in the text
pub record HasLetter (text : List ℕ) (source : Word) (h : PlacedWord) : Type 0 where
  pub inside : h.to ≤ length text
  pub some : held_empty (length source) h ≡ false

-- a state whose round is row 2, and whose words have letters
pub record DropDue (text table : List ℕ) (n : ℕ) (first second : Word) (s : State) : Type 0 where
  pub ready : StateReady text table n first second s
  pub row : first_row (words_in text table n) (family_by table n) (placed_word text first s.u) (placed_word text second s.v) (placed_mark text s.mark) ≡ 2
  pub u : HasLetter text first s.u
  pub v : HasLetter text second s.v

-- the first letters tell that row 2 is the first that fits, or they tell nothing
pub record RowTold (text table : List ℕ) (n : ℕ) (first second : Word) (s : State) (row : Option ℕ) : Type 0 where
  pub two : row ≡ Some 2 → DropDue text table n first second s
