-- The spellings that were worked out by hand hold of the definitions, by computing them.
use mathlib.Core.Path.{refl}
use Rattle.spelling.specs.Decimal.{digits_of, count_up_to, decimal}
use Rattle.spelling.specs.Lines.{numbered, line_of, pair_line_of}
use Rattle.spelling.specs.Examples.{SpellingsHold}

pub spellings_hold : SpellingsHold
unfolding digits_of count_up_to decimal numbered line_of pair_line_of
spellings_hold = record { zero = refl; nine = refl; ten = refl; place = refl; line = refl; pair = refl }
