-- What is told of a refusal where there may be none.
use Rattle.std.specs.Prelude.{Option, Some, None}
use Rattle.refusals.specs.declared.Numbered.{Numbered}
use Rattle.refusals.specs.declared.Refusal.{Refusal}
use Rattle.refusals.specs.Refusals.{number_and_place}

-- its number and place; 0 and 0 where there is none
abbrev pub told : Option Refusal → Numbered
told None = record { number = 0; place = 0 }
told (Some r) = number_and_place r
