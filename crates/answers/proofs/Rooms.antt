-- A law for each way that the room of a round's buffers can go.
use Prim.Native.Nat.{ℕ, ◌<◌, ◌≤◌}
use mathlib.Core.Path.{◌≡◌}
use borrow.Author.Rules.{rules}
use borrow.Author.Tests.{lt-ltb, le-ltb}
use Rattle.std.specs.Prelude.{Ok, Err}
use Rattle.refusals.specs.declared.Refusal.TheVariants.{Narrow}
use Rattle.limits.specs.Limits.{next_room, mark_most}
use Rattle.answers.specs.Entries.{room_of}

module _ (room_u room_v room_p : ℕ) where
  pub room_first : room_u < next_room → Err (Narrow 0) ≡ room_of room_u room_v room_p
  unfolding room_of
  room_first h = rw (lt-ltb room_u next_room h)

  pub room_second : next_room ≤ room_u → room_v < next_room → Err (Narrow 1) ≡ room_of room_u room_v room_p
  unfolding room_of
  room_second h k = rw (le-ltb room_u next_room h, lt-ltb room_v next_room k)

  pub room_third : next_room ≤ room_u → next_room ≤ room_v → room_p < mark_most → Err (Narrow 2) ≡ room_of room_u room_v room_p
  unfolding room_of
  room_third h k l = rw (le-ltb room_u next_room h, le-ltb room_v next_room k, lt-ltb room_p mark_most l)

  pub room_fine : next_room ≤ room_u → next_room ≤ room_v → mark_most ≤ room_p → Ok tt ≡ room_of room_u room_v room_p
  unfolding room_of
  room_fine h k l = rw (le-ltb room_u next_room h, le-ltb room_v next_room k, le-ltb room_p mark_most l)

pub ruleset rooms = (room_first, room_second, room_third, room_fine, rules)
