-- What the single round leaves in its three lent buffers (document 01, "Exchanges and rounds", last paragraph).
use Rattle.std.specs.Prelude.{ℕ, ◌+◌, ◌-◌, ◌≤◌, List, ◌≡◌, length}
use Rattle.words.specs.Words.{Word}
use Rattle.writing.specs.Writing.{Bytes}
use Rattle.words.specs.Writing.{over}
use Rattle.congruence.specs.Rows.{Next}
use Rattle.congruence.specs.Rows.Next.{end, go}
use Rattle.limits.specs.Limits.{round_most, next_room, mark_most}
use Rattle.layout.specs.Families.{Grouped}
use Rattle.changes.specs.declared.Change.{Change}
use Rattle.changes.specs.declared.Changes.{Changes}
use Rattle.asked.specs.declared.Round.{Round}
use Rattle.asked.specs.declared.Round.TheVariants as S
use Rattle.asked.specs.declared.Lengths.{Lengths}
use Rattle.plans.specs.Plans.{applied}

-- an outcome, and the buffers for u, v and p after it
pub data Outcome : Type 0 where
  after : Round Lengths → List ℕ → List ℕ → List ℕ → Outcome

-- an end writes nothing; else the next u, v and p stand at the start of the buffers, and their lengths are given
unfoldable pub written_by : Next → List ℕ → List ℕ → List ℕ → Outcome
written_by (end b) nu nv np = after (S.End b) nu nv np
written_by (go u v p) nu nv np = after (S.Next (record { u = length u; v = length v; p = length p })) (over u nu) (over v nv) (over p np)

-- a change can be written into a buffer
pub record Writable (text : List ℕ) (c : Change) (w d : List ℕ) : Type 0 where
  pub up : c.from ≤ c.to
  pub inside : c.to ≤ length text
  pub within : c.cut ≤ length w
  pub room : c.to - c.from + (length w - c.cut) ≤ length d
  pub small : Bytes text

-- a change is written into a buffer, and r is the length of the word
pub record Written (text : List ℕ) (c : Change) (w d : List ℕ) (r : ℕ) (d' : List ℕ) : Type 0 where
  pub count : r ≡ length (applied text c w)
  pub bytes : d' ≡ over (applied text c w) d

-- three changes can be written, each into its buffer
pub record AllWritable (text : List ℕ) (c : Changes) (u v p nu nv np : List ℕ) : Type 0 where
  pub for_u : Writable text c.u u nu
  pub for_v : Writable text c.v v nv
  pub for_p : Writable text c.mark p np

-- the changes of a plan, if it has any, can be written
pub record Planned (text : List ℕ) (plan : Round Changes) (u v p nu nv np : List ℕ) : Type 0 where
  pub changes : (c : Changes) → plan ≡ S.Next c → AllWritable text c u v p nu nv np

-- what a round asks of its words: a checked presentation with families, and the limits of u, v and p
pub record GivenShort (text table : List ℕ) (n : ℕ) (u v p : Word) : Type 0 where
  pub grouped : Grouped text table n
  pub short_u : length u ≤ round_most
  pub short_v : length v ≤ round_most
  pub short_p : length p ≤ mark_most

-- two arrays have room for u and v
pub record GivenRoom (text table : List ℕ) (n : ℕ) (u v p a c : List ℕ) : Type 0 where
  pub given : GivenShort text table n u v p
  pub room_u : length u ≤ length a
  pub room_v : length v ≤ length c

-- what the single round asks of its words and buffers
pub record Lent (text table : List ℕ) (n : ℕ) (u v p nu nv np : List ℕ) : Type 0 where
  pub given : GivenShort text table n u v p
  pub room_u : next_room ≤ length nu
  pub room_v : next_room ≤ length nv
  pub room_p : mark_most ≤ length np

-- what the single round asks, over a text whose elements fit in bytes
pub record LentInBytes (text table : List ℕ) (n : ℕ) (u v p nu nv np : List ℕ) : Type 0 where
  pub lent : Lent text table n u v p nu nv np
  pub small : Bytes text
