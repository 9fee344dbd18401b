-- The verdicts, cuts and pieces that were worked out by hand hold of the definitions, by computing them.
use mathlib.Core.Path.{refl}
use Rattle.words.specs.Search.{any_below, least, greatest}
use Rattle.words.specs.Words.{is_prefix, same_word}
use Rattle.words.specs.Families.{place_of, including, including_all, distinct_words, places_in, side_words}
use Rattle.overlap.specs.Cuts.{twin, piece_at, is_piece, three, loose, xlen, zlen}
use Rattle.overlap.specs.Verdict.{first_loose_side, judge}
use Rattle.overlap.specs.Books.{BooksHold}

pub books_hold : BooksHold
unfolding judge first_loose_side loose three xlen zlen is_piece piece_at twin place_of including including_all distinct_words places_in side_words same_word greatest least any_below is_prefix
books_hold = (refl, (refl, (refl, (refl, ((refl, refl, refl, (refl, refl, refl, tt)), ((refl, refl, refl, (refl, refl, refl, (refl, refl, refl, tt))), (refl, (refl, tt))))))))
