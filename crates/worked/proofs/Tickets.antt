-- The worked examples of proposals and postings hold, by computation.
use mathlib.Core.Path.{refl}
use Rattle.words.specs.Search.{any_below, least, greatest}
use Rattle.words.specs.Words.{is_prefix, same_word}
use Rattle.words.specs.Relations.{relation_words}
use Rattle.words.specs.Families.{place_of, including, including_all, distinct_words, places_in, side_words}
use Rattle.overlap.specs.Cuts.{twin, piece_at, three, loose, xlen, zlen}
use Rattle.overlap.specs.Counts.{number, reach, fewest, longest_piece, piece_count}
use Rattle.overlap.specs.Verdict.{judge, first_loose_side}
use Rattle.words.specs.Letters.{first_unknown}
use Rattle.format.specs.Book.{record_at, head_at, fields_at, relation_at, addition_at, relations_from, read_book}
use Rattle.format.specs.Bytes.{relations_bytes, book_bytes}
use Rattle.loading.specs.Loading.{load_book}
use Rattle.loading.specs.Sheet.{cut_bytes}
use Rattle.held.specs.Held.{book_in, changes_told, holding, taken_up}
use Rattle.held.specs.Changes.{changed_in, settled, effect_of}
use Rattle.held.specs.Tickets.{record_in, change_in, propose_of, post_of}
use Rattle.worked.specs.Tickets.{Shown, proposals, Given, postings}

pub proposals_shown : Shown proposals
unfolding any_below least greatest is_prefix same_word relation_words place_of including including_all distinct_words places_in side_words twin piece_at three loose xlen zlen number reach fewest longest_piece piece_count judge first_loose_side first_unknown record_at head_at fields_at relation_at addition_at relations_from read_book relations_bytes book_bytes load_book cut_bytes book_in changes_told holding taken_up changed_in settled effect_of propose_of proposals
proposals_shown =
    Shown.more refl (Shown.more refl (Shown.more refl (Shown.more refl (Shown.more refl (Shown.more refl (Shown.more refl (Shown.more refl (Shown.more refl (Shown.more refl (Shown.more refl (Shown.more refl (Shown.more refl (Shown.none)))))))))))))

pub postings_given : Given postings
unfolding any_below least greatest is_prefix same_word relation_words place_of including including_all distinct_words places_in side_words twin piece_at three loose xlen zlen number reach fewest longest_piece piece_count judge first_loose_side first_unknown record_at head_at fields_at relation_at addition_at relations_from read_book relations_bytes book_bytes load_book cut_bytes book_in changes_told holding taken_up changed_in settled effect_of record_in change_in post_of postings
postings_given =
    Given.more refl (Given.more refl (Given.more refl (Given.more refl (Given.more refl (Given.more refl (Given.more refl (Given.more refl (Given.more refl (Given.more refl (Given.more refl (Given.more refl (Given.more refl (Given.more refl (Given.more refl (Given.more refl (Given.more refl (Given.more refl (Given.more refl (Given.more refl (Given.more refl (Given.more refl (Given.more refl (Given.more refl (Given.more refl (Given.more refl (Given.more refl (Given.more refl (Given.more refl (Given.more refl (Given.more refl (Given.more refl (Given.more refl (Given.more refl (Given.more refl (Given.more refl (Given.more refl (Given.none)))))))))))))))))))))))))))))))))))))
