-- The worked cases hold of the definitions, by computing them.
use mathlib.Core.Path.{refl}
use Rattle.words.specs.Search.{any_below, least, greatest}
use Rattle.words.specs.Words.{is_prefix, same_word, common_suffix}
use Rattle.words.specs.Relations.{relation_words}
use Rattle.words.specs.Families.{place_of, including, including_all, distinct_words, places_in, side_words, numbers_below, merged, families_after, families_of}
use Rattle.overlap.specs.Cuts.{twin, piece_at, xlen, zlen, zmost}
use Rattle.congruence.specs.Rows.{has_relation_prefix_at, has_relation_prefix_between, clean, clean_relation_prefix, active, marked, marked_by_any}
use Rattle.least.specs.Order.{before, house_rank}
use Rattle.least.specs.Possible.{possible_within, possible}
use Rattle.least.specs.Writing.{clean_before, first_member, chosen_member, carrier, letter_part, whole_part, other_part, member_part, write_part, least_within, least_behind}
use Rattle.least.specs.Examples.{WorkedHold}

pub worked_hold : WorkedHold
unfolding relation_words place_of including including_all distinct_words places_in side_words numbers_below merged families_after families_of same_word twin piece_at xlen zlen zmost greatest least any_below is_prefix common_suffix has_relation_prefix_at has_relation_prefix_between clean clean_relation_prefix active before house_rank marked marked_by_any possible_within possible clean_before first_member chosen_member carrier letter_part whole_part other_part member_part write_part least_within least_behind
worked_hold = (refl, (refl, (refl, (refl, (refl, (refl, (refl, (refl, (refl, (refl, (refl, (refl, (refl, (refl, (refl, (refl, (refl, (refl, (refl, (refl, tt))))))))))))))))))))
