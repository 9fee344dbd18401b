-- Arrays that have room for two given words, which are widened into them.
use Rattle.std.specs.Prelude.{ℕ, ◌≤◌, List, length}
use Rattle.words.specs.Words.{Word}
use Rattle.limits.specs.Limits.{compared_most}
use Rattle.moves.specs.State.{Fitting}
use Rattle.layout.specs.Families.{Ready}

-- two words within the limit, under a checked presentation, and two arrays that have room for them
pub record Widenable (text table : List ℕ) (n : ℕ) (first second : Word) (a c : List ℕ) : Type 0 where
  pub fitting : Fitting text table n first second
  pub first_room : length first ≤ length a
  pub second_room : length second ≤ length c

-- a checked presentation, and two arrays that have room for two words if these are within the limit
pub record ReadyToWiden (text table : List ℕ) (n : ℕ) (first second : Word) (a c : List ℕ) : Type 0 where
  pub ready : Ready text table n
  pub first_room : length first ≤ compared_most → length first ≤ length a
  pub second_room : length second ≤ compared_most → length second ≤ length c
