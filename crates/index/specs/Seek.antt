-- The walk through the relation words that are listed under one letter: what it knows of each, and what it asks.
use Rattle.std.specs.Prelude.{ℕ, ◌+◌, ◌-◌, ◌<◌, ◌≤◌, false, cond, List, ◌≡◌, eqb, length, get_or, drop}
use Rattle.words.specs.Words.{Word, is_prefix, common_prefix, part}
use Rattle.overlap.specs.Pieces.{word}
use Rattle.overlap.specs.Cuts.{xy_of}
use Rattle.layout.specs.Places.{letters_bound}
use Rattle.layout.specs.Layout.{start_of, z_start_of, word_at, words_in, first_of, order_of, shared_of, Checked}
use Rattle.index.specs.declared.Meeting.{Meeting}
use Rattle.index.specs.declared.Meeting.TheVariants.{Here, Past}
use Rattle.joined.specs.Joined.{Agreed}

-- relation word k met with v: its X and Y are a prefix of v, or it has some letters in common with v
unfoldable pub met_at : List ℕ → List ℕ → ℕ → Word → Meeting
met_at text table k v = cond (is_prefix (part text (start_of table k) (z_start_of table k)) v) (Here k) (Past (common_prefix (word_at text table k) v))

-- how much the word listed at place j shares with the one listed before it under the same letter, which has its list from place `from` on
unfoldable pub shared_under : List ℕ → ℕ → ℕ → ℕ
shared_under table from j = cond (eqb j from) 0 (shared_of table j)

-- relation word k has m letters, none of them in its Z, in common with w at place q
pub record Meets (text table : List ℕ) (w : Word) (q k m : ℕ) : Type 0 where
  pub number : ℕ
  pub checked : Checked text table number
  pub known : k < number
  pub agreed : Agreed text (start_of table k) (z_start_of table k) w q m

-- c is the letter of w at place q
pub record AtLetter (text table : List ℕ) (n : ℕ) (w : Word) (q c : ℕ) : Type 0 where
  pub checked : Checked text table n
  pub placed : q < length w
  pub letter : c ≡ get_or w q 0

-- the words listed from place `from` on and below `to` are those of the letter of w at place q
pub record Bucket (text table : List ℕ) (n : ℕ) (w : Word) (q from to : ℕ) : Type 0 where
  pub checked : Checked text table n
  pub placed : q < length w
  pub letter : get_or w q 0 < letters_bound
  pub first : from ≡ first_of table (get_or w q 0)
  pub last : to ≡ first_of table (get_or w q 0 + 1)

-- the word listed at place j is next, and the one before it, if it is of the same letter, has m letters in common with w at place q, and not all of its X and Y
pub record Turn (text table : List ℕ) (w : Word) (q from j m : ℕ) : Type 0 where
  pub number : ℕ
  pub checked : Checked text table number
  pub low : from ≤ j
  pub known : j < number
  pub none : from < j → is_prefix (xy_of (words_in text table number) (order_of table (j - 1))) (drop q w) ≡ false
  pub start : j ≡ from → m ≡ 0
  pub same : from < j → m ≡ common_prefix (word (words_in text table number) (order_of table (j - 1))) (drop q w)
