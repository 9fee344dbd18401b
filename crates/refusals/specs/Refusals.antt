-- Document 01's number and place of each refusal ("Refusals by number"). Every promise of a public entry that speaks of a refusal uses this definition.
use Rattle.std.specs.Prelude.{◌+◌, ◌*◌}
use Rattle.limits.specs.Limits.{place_spacing, input_most}
use Rattle.refusals.specs.declared.Numbered.{Numbered}
use Rattle.refusals.specs.declared.Refusal.{Refusal}
use Rattle.refusals.specs.declared.Refusal.TheVariants.{Short, Kind, Length, Range, UnknownLetter, TooMany, Loose, Long, Stranger, Spent, Narrow, Heavy, NoSpace, NoSuchRelation, StaleTicket, BookWorn, NotPiece, NoPrefix}

-- the number and the place of each case, in the order of the table; 7 is not used
abbrev pub number_and_place : Refusal → Numbered
number_and_place (Short at) = record { number = 1; place = at }
number_and_place (Kind at) = record { number = 2; place = at }
number_and_place (Length at) = record { number = 3; place = at }
number_and_place (Range at) = record { number = 4; place = at }
number_and_place (UnknownLetter at) = record { number = 5; place = at }
number_and_place (TooMany at) = record { number = 6; place = at }
number_and_place (Loose side) = record { number = 8; place = side }
number_and_place (Long word) = record { number = 9; place = place_spacing * word }
number_and_place (Stranger word position) = record { number = 10; place = place_spacing * word + position }
number_and_place (Spent rounds) = record { number = 11; place = rounds }
number_and_place (Narrow buffer) = record { number = 12; place = buffer }
number_and_place Heavy = record { number = 13; place = input_most }
number_and_place NoSpace = record { number = 14; place = 0 }
number_and_place NoSuchRelation = record { number = 15; place = 0 }
number_and_place StaleTicket = record { number = 16; place = 0 }
number_and_place BookWorn = record { number = 17; place = 0 }
number_and_place NotPiece = record { number = 18; place = 0 }
number_and_place NoPrefix = record { number = 19; place = 0 }
