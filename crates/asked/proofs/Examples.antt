-- The worked examples hold of the definitions, by computing them.
use mathlib.Core.Path.{refl}
use Rattle.words.specs.Search.{any_below, least, greatest}
use Rattle.words.specs.Words.{is_prefix, same_word, common_suffix}
use Rattle.words.specs.Letters.{first_unknown}
use Rattle.words.specs.Relations.{relation_words}
use Rattle.words.specs.Families.{place_of, including, including_all, distinct_words, places_in, side_words, numbers_below, merged, families_after, families_of}
use Rattle.overlap.specs.Cuts.{twin, piece_at, xlen, zlen, zmost}
use Rattle.congruence.specs.Rows.{has_relation_prefix_at, has_relation_prefix_between, clean, clean_relation_prefix, active, marked, marked_by_any, begun, member_of, is_other, first_other, first_active, tail_member, row1, row2, row4, row5, row6, row7, row8, makes, fitting, first_row, round}
use Rattle.congruence.specs.Rounds.{answer_from}
use Rattle.least.specs.Order.{before, house_rank}
use Rattle.least.specs.Possible.{possible_within, possible}
use Rattle.least.specs.Writing.{clean_before, first_member, chosen_member, carrier, letter_part, whole_part, other_part, member_part, write_part, least_within, least_behind}
use Rattle.asked.specs.Given.{given_of, marked_of, pair_of, triple_of}
use Rattle.asked.specs.Comparing.{answer_of, comparison_of}
use Rattle.asked.specs.Least.{least_for}
use Rattle.asked.specs.Examples.{GivenHold, ComparedHold, LeastHold, AskedHold}

given_hold : GivenHold
unfolding first_unknown given_of pair_of marked_of triple_of
given_hold = record { fine = refl; second = refl; first = refl; mark = refl; third = refl; long_mark = refl; full_mark = refl }

compared_hold : ComparedHold
unfolding relation_words place_of including including_all distinct_words places_in side_words numbers_below merged families_after families_of same_word piece_at twin xlen zlen greatest least any_below is_prefix common_suffix has_relation_prefix_at has_relation_prefix_between clean clean_relation_prefix active marked marked_by_any begun member_of is_other first_other first_active tail_member row1 row2 row4 row5 row6 row7 row8 makes fitting first_row round answer_from first_unknown given_of pair_of answer_of comparison_of
compared_hold = record { spent = refl; same = refl; different = refl; strange = refl }

least_hold : LeastHold
unfolding relation_words place_of including including_all distinct_words places_in side_words numbers_below merged families_after families_of same_word twin piece_at xlen zlen zmost greatest least any_below is_prefix common_suffix has_relation_prefix_at has_relation_prefix_between clean clean_relation_prefix active before house_rank marked marked_by_any possible_within possible clean_before first_member chosen_member carrier letter_part whole_part other_part member_part write_part least_within least_behind least_for
least_hold = record { least = refl; taken = refl; none = refl }

pub asked_hold : AskedHold
asked_hold = record { given = given_hold; compared = compared_hold; least = least_hold }
