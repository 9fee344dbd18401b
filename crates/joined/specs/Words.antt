-- The word that two slices are.
use Rattle.std.specs.Prelude.{◌++◌}
use Rattle.words.specs.Words.{Word}
use Rattle.joined.specs.declared.Joined.{Joined}

abbrev pub word_of : Joined → Word
word_of w = w.front.now ++ w.rest.now
