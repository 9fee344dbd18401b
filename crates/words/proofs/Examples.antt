-- The distinct words, families and common suffixes that were worked out by hand hold of the definitions, by computing them.
use mathlib.Core.Path.{refl}
use Rattle.words.specs.Search.{least, greatest}
use Rattle.words.specs.Words.{is_prefix, same_word, common_suffix}
use Rattle.words.specs.Relations.{relation_words}
use Rattle.words.specs.Families.{place_of, including, including_all, distinct_words, places_in, side_words, numbers_below, merged, families_after, families_of}
use Rattle.words.specs.Examples.{WordsHold}

pub words_hold : WordsHold
unfolding relation_words place_of including including_all distinct_words places_in side_words numbers_below merged families_after families_of same_word common_suffix least greatest is_prefix
words_hold = ((refl, refl, refl), ((refl, refl, refl), ((refl, refl, refl), ((refl, refl, refl), ((refl, refl, refl), ((refl, refl, refl), ((refl, refl, refl), ((refl, refl, refl), (refl, (refl, (refl, (refl, tt))))))))))))
