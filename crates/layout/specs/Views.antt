-- The relation words of a checked presentation as the mathematics has them: the words, and the family of each.
use Rattle.std.specs.Prelude.{ℕ, List}
use Rattle.words.specs.Words.{Word}
use Rattle.layout.specs.declared.RelationWords.{RelationWords}
use Rattle.layout.specs.Layout.{words_in}
use Rattle.layout.specs.Families.{family_by}

abbrev pub words_of : RelationWords → List Word
words_of words = words_in words.text.now words.table.now words.n

abbrev pub family_of : RelationWords → ℕ → ℕ
family_of words = family_by words.table.now words.n

-- a fact about the text, the table and the number of the relation words
abbrev pub on : {A : Type 1} → RelationWords → (List ℕ → List ℕ → ℕ → A) → A
on words fact = fact words.text.now words.table.now words.n
