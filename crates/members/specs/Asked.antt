-- What is asked of a held word, of a mark and of a place of the given word.
use Rattle.std.specs.Prelude.{ℕ, ◌≤◌, Bool, false, List, ◌≡◌, length, drop}
use Rattle.words.specs.Words.{Word}
use Rattle.overlap.specs.Cuts.{z_of}
use Rattle.congruence.specs.Rows.{active}
use Rattle.layout.specs.Layout.{words_in, Checked, Span}
use Rattle.layout.specs.Families.{GroupedWord}
use Rattle.kin.specs.Asked.{RestAsked}
use Rattle.moves.specs.declared.PlacedWord.{PlacedWord}
use Rattle.moves.specs.declared.Mark.{Mark}
use Rattle.moves.specs.State.{WordFits, MarkFits}
use Rattle.moves.specs.Drops.{held_empty}

-- a held word that has a letter
pub record WordAsked (text table : List ℕ) (n : ℕ) (given : Word) (h : PlacedWord) : Type 0 where
  pub checked : Checked text table n
  pub fits : WordFits text (words_in text table n) given h
  pub some : held_empty (length given) h ≡ false

-- a mark in the text, and a relation word
pub record MarkAsked (text table : List ℕ) (n i : ℕ) (m : Mark) : Type 0 where
  pub word : GroupedWord text table n i
  pub mark : MarkFits text m

-- relation word i, and one j for whose Z the given word from k on is not active
pub record IdleAsked (text table : List ℕ) (n : ℕ) (given : Word) (i j k : ℕ) : Type 0 where
  pub rest : RestAsked text table n given i k
  pub idle : (x : Bool) → x ≡ active (words_in text table n) (z_of (words_in text table n) j) (drop k given) → x ≡ false

-- text[at..to] and a place of the given word; the places of both are small
pub record QuietAsked (text table : List ℕ) (n : ℕ) (given : Word) (at to k : ℕ) : Type 0 where
  pub checked : Checked text table n
  pub span : Span text at to
  pub small : length text ≤ 65536
  pub within : k ≤ length given
  pub short : length given ≤ 65536
