-- The worked examples hold, by computation.
use mathlib.Core.Path.{refl}
use borrow.Author.Tests.{lt-ltb}
use lib.ListN.{length}
use Rattle.words.specs.Search.{any_below, least, greatest}
use Rattle.words.specs.Words.{is_prefix, common_suffix, same_word}
use Rattle.words.specs.Relations.{relation_words}
use Rattle.words.specs.Families.{place_of, including, including_all, distinct_words, places_in, side_words, numbers_below, merged, families_after, families_of}
use Rattle.overlap.specs.Cuts.{twin, piece_at, three, loose, xlen, zlen}
use Rattle.overlap.specs.Verdict.{judge, first_loose_side}
use Rattle.congruence.specs.Rows.{has_relation_prefix_at, has_relation_prefix_between, clean, clean_relation_prefix, active, marked, marked_by_any, begun, member_of, is_other, first_other, first_active, tail_member, row1, row2, row4, row5, row6, row7, row8, makes, fitting, first_row, round}
use Rattle.congruence.specs.Rounds.{answer_from}
use Rattle.limits.specs.Limits.{input_most}
use Rattle.words.specs.Letters.{first_unknown}
use Rattle.format.specs.Book.{record_at, head_at, fields_at, relation_at, relations_from, read_book}
use Rattle.loading.specs.Loading.{load_book}
use Rattle.asked.specs.Given.{given_of, pair_of}
use Rattle.asked.specs.Comparing.{answer_of, comparison_of}
use Rattle.spelling.specs.Decimal.{digits_of, count_up_to, decimal}
use Rattle.spelling.specs.Lines.{numbered, line_of, pair_line_of}
use Rattle.output.specs.Requests.{fields_of, request_at}
use Rattle.output.specs.Program.{refused_line, book_end_from, lines_from, program_of}
use Rattle.output.specs.Examples.{Hold, none, more, examples, HeavyFirst}

pub examples_hold : Hold examples
unfolding judge first_loose_side same_word place_of including including_all distinct_words places_in side_words numbers_below merged families_after families_of loose three piece_at twin xlen zlen greatest least any_below is_prefix has_relation_prefix_at has_relation_prefix_between clean clean_relation_prefix active marked marked_by_any begun member_of is_other first_other first_active tail_member row1 row2 row4 row5 row6 row7 row8 makes fitting first_row round answer_from common_suffix record_at first_unknown head_at fields_at relation_at relations_from read_book load_book given_of pair_of answer_of comparison_of digits_of count_up_to decimal numbered line_of pair_line_of refused_line book_end_from fields_of request_at lines_from program_of examples relation_words
examples_hold =
    more refl (more refl (more refl (more refl (more refl (more refl (more refl (more refl (more refl (more refl (more refl (more refl (more refl (more refl (more refl (more refl (more refl (more refl (more refl (more refl (more refl (more refl (none))))))))))))))))))))))

pub heavy_first : HeavyFirst
unfolding digits_of count_up_to decimal numbered pair_line_of refused_line program_of
heavy_first input h = rw (lt-ltb input_most (length input) h)
