-- The cases of the table hold of the definitions, by computing them.
use mathlib.Core.Path.{refl}
use Rattle.words.specs.Search.{any_below, least, greatest}
use Rattle.words.specs.Words.{is_prefix, same_word, common_suffix}
use Rattle.words.specs.Relations.{relation_words}
use Rattle.words.specs.Families.{place_of, including, including_all, distinct_words, places_in, side_words, numbers_below, merged, families_after, families_of}
use Rattle.overlap.specs.Cuts.{twin, piece_at, three, loose, xlen, zlen}
use Rattle.overlap.specs.Verdict.{first_loose_side, judge}
use Rattle.congruence.specs.Rows.{has_relation_prefix_at, has_relation_prefix_between, clean, clean_relation_prefix, active, marked, marked_by_any, begun, member_of, is_other, first_other, first_active, tail_member, row1, row2, row4, row5, row6, row7, row8, makes, fitting, first_row, round}
use Rattle.congruence.specs.Rounds.{answer_from}
use Rattle.congruence.specs.Starred.{product, StarredHold}

pub starred_hold : StarredHold
unfolding product relation_words place_of including including_all distinct_words places_in side_words numbers_below merged families_after families_of same_word judge first_loose_side loose three piece_at twin xlen zlen greatest least any_below is_prefix has_relation_prefix_at has_relation_prefix_between clean clean_relation_prefix active marked marked_by_any begun member_of is_other first_other first_active tail_member row1 row2 row4 row5 row6 row7 row8 makes fitting first_row round answer_from common_suffix
starred_hold = (
  (refl, tt),
  (
    (refl, tt),
    (
      (refl, (refl, refl, refl, (refl, refl, refl, tt))),
      (
        (refl, (refl, refl, refl, (refl, refl, refl, tt))),
        (
          (refl, tt),
          (
            (refl, (refl, refl, refl, (refl, refl, refl, tt))),
            (
              (refl, refl),
              (
                (refl, refl),
                (
                  refl,
                  (
                    refl,
                    (
                      refl,
                      (
                        refl,
                        (
                          refl,
                          (
                            refl,
                            (
                              refl,
                              (
                                (refl, (refl, refl, refl, (refl, refl, refl, (refl, refl, refl, (refl, refl, refl, tt))))),
                                (refl, (refl, (refl, (refl, (refl, (refl, (refl, (refl, (refl, tt))))))))),
                              ),
                            ),
                          ),
                        ),
                      ),
                    ),
                  ),
                ),
              ),
            ),
          ),
        ),
      ),
    ),
  ),
)
