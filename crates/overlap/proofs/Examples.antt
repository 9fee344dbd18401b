-- The numbers of pieces that were worked out by hand hold of the definitions, by computing them.
use mathlib.Core.Path.{refl}
use Rattle.words.specs.Search.{any_below, least, greatest}
use Rattle.words.specs.Words.{is_prefix, same_word}
use Rattle.words.specs.Families.{place_of, including, including_all, distinct_words, places_in, side_words}
use Rattle.overlap.specs.Cuts.{twin, piece_at}
use Rattle.overlap.specs.Counts.{number, reach, fewest, longest_piece, piece_count}
use Rattle.overlap.specs.Examples.{NumbersHold}

pub numbers_hold : NumbersHold
unfolding number piece_count fewest reach longest_piece piece_at twin greatest least any_below is_prefix same_word place_of including including_all distinct_words places_in side_words
numbers_hold = ((refl, (refl, tt)), ((refl, (refl, tt)), ((refl, (refl, tt)), ((refl, (refl, tt)), ((refl, (refl, tt)), ((refl, (refl, tt)), ((refl, (refl, tt)), ((refl, (refl, tt)), ((refl, (refl, (refl, (refl, tt)))), tt)))))))))
