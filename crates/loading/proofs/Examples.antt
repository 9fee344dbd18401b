-- The worked examples hold of the definitions, by computing them.
use mathlib.Core.Path.{refl}
use Rattle.words.specs.Search.{any_below, least, greatest}
use Rattle.words.specs.Words.{is_prefix, same_word}
use Rattle.words.specs.Letters.{first_unknown}
use Rattle.words.specs.Relations.{relation_words}
use Rattle.words.specs.Families.{place_of, including, including_all, distinct_words, places_in, side_words}
use Rattle.overlap.specs.Cuts.{twin, piece_at, three, loose, xlen, zlen}
use Rattle.overlap.specs.Counts.{number, reach, fewest, longest_piece, piece_count}
use Rattle.overlap.specs.Verdict.{first_loose_side, judge}
use Rattle.format.specs.Book.{record_at, head_at, fields_at, relation_at, relations_from, read_book}
use Rattle.format.specs.Bytes.{relations_bytes, book_bytes}
use Rattle.loading.specs.Loading.{load_book}
use Rattle.loading.specs.Sheet.{cut_bytes}
use Rattle.loading.specs.Examples.{examples, LoadedHold, none, more}

pub loaded_hold : LoadedHold
unfolding book_bytes relations_bytes first_unknown record_at head_at fields_at relation_at relations_from read_book relation_words place_of including including_all distinct_words places_in side_words same_word judge first_loose_side loose three piece_at twin xlen zlen number piece_count fewest reach longest_piece greatest least any_below is_prefix cut_bytes load_book examples
loaded_hold = more refl (more refl (more refl (more refl (more refl (more refl (more refl (more refl (more refl (more refl (more refl none))))))))))
