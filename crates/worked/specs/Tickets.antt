-- Proposals and postings and what they give, worked out by hand from document 01 ("Propose, then post"), of the books of specs/Changes.antt.
use Rattle.std.specs.Prelude.{ℕ, List, [], ◌∷◌, ◌++◌, ◌≡◌, take, replicate}
use Rattle.words.specs.Writing.{over}
use Rattle.limits.specs.Limits.{held_room}
use Rattle.format.specs.Examples.{four}
use Rattle.answers.specs.Answers.{accepted, refused}
use Rattle.held.specs.Changes.{Change, addition, withdrawal}
use Rattle.held.specs.Tickets.{ProposalOutcome, propose_of, post_of}
use Rattle.worked.specs.Changes.{Gives, refuses, counts, held_in, sheet_in, outcome, Q, both, bbaa_ccda, a_b, rows2, rows4}

-- what a proposal gives: a refusal's number and place, or the number of relations, their sheet and the ticket
pub data Shows : Type 0 where
  rejects : ℕ → ℕ → Shows
  shows : ℕ → List ℕ → List ℕ → Shows

-- a held book's buffer, a change, the lengths of the lent sheet and of the lent ticket, and what proposing the change gives
pub record Proposal : Type 0 where
  pub held : List ℕ
  pub change : Change
  pub lent : ℕ
  pub room : ℕ
  pub gives : Shows

abbrev pub ticket_room_of : ℕ → List ℕ
ticket_room_of room = replicate room 187

abbrev pub outcome_shown : ℕ → ℕ → Shows → ProposalOutcome
outcome_shown lent room (rejects n place) = ProposalOutcome.after (refused n place) (sheet_in lent) (ticket_room_of room)
outcome_shown lent room (shows n sheet ticket) = ProposalOutcome.after (accepted n) (over sheet (sheet_in lent)) (over ticket (ticket_room_of room))

-- of a held book with a count of changes, in a buffer that has just the room
abbrev pub proposes : ℕ → List ℕ → Change → ℕ → ℕ → Shows → Proposal
proposes changes book change lent room gives = record { held = held_in held_room changes book; change = change; lent = lent; room = room; gives = gives }

-- the ticket of the addition of bbaa = ccda with a count below 256: kind 0, 14 bytes
abbrev pub adding_ticket : ℕ → List ℕ
adding_ticket changes = changes ∷ 0 ∷ 0 ∷ 0 ∷ 14 ∷ 0 ∷ bbaa_ccda

-- that of a withdrawal, by the two bytes of the count and an index below 256
abbrev pub withdrawing_ticket : ℕ → ℕ → ℕ → List ℕ
withdrawing_ticket low high i = low ∷ high ∷ 1 ∷ 0 ∷ i ∷ 0 ∷ []

unfoldable pub proposals : List Proposal
proposals =
    -- an addition and a withdrawal, with bytes behind the ticket, and with none to spare
    proposes 0 Q (addition bbaa_ccda) 16 150 (shows 2 rows4 (adding_ticket 0))
    ∷ proposes 7 Q (addition bbaa_ccda) 18 140 (shows 2 rows4 (adding_ticket 7))
    ∷ proposes 0 both (withdrawal 1) 8 140 (shows 1 rows2 (withdrawing_ticket 0 0 1))
    ∷ proposes 300 both (withdrawal 1) 8 140 (shows 1 rows2 (withdrawing_ticket 44 1 1))
    -- of a book that takes no more changes, and of one whose count no call leaves behind
    ∷ proposes 60000 both (withdrawal 1) 8 140 (shows 1 rows2 (withdrawing_ticket 96 234 1))
    ∷ proposes 65535 both (withdrawal 1) 8 140 (shows 1 rows2 (withdrawing_ticket 255 255 1))
    -- a ticket's buffer one byte below its room, which comes behind all other refusals
    ∷ proposes 0 Q (addition bbaa_ccda) 16 139 (rejects 12 2)
    ∷ proposes 0 both (withdrawal 1) 8 139 (rejects 12 2)
    ∷ proposes 0 Q (addition bbaa_ccda) 15 0 (rejects 12 0)
    ∷ proposes 0 Q (addition a_b) 0 0 (rejects 8 2)
    ∷ proposes 0 Q (addition []) 0 0 (rejects 1 19)
    ∷ proposes 0 Q (withdrawal 1) 0 0 (rejects 15 0)
    ∷ record { held = held_in 4296 0 Q; change = withdrawal 0; lent = 0; room = 140; gives = rejects 12 1 }
    ∷ []

-- each proposal gives what stands beside it
pub data Shown : List Proposal → Type 0 where
  none : Shown []
  more : {p : Proposal} {ps : List Proposal}
      → propose_of p.change p.held (sheet_in p.lent) (ticket_room_of p.room) ≡ outcome_shown p.lent p.room p.gives → Shown ps → Shown (p ∷ ps)

-- a held book's buffer, the bytes of a ticket, the length of the lent sheet, and what posting the ticket gives
pub record Posting : Type 0 where
  pub held : List ℕ
  pub ticket : List ℕ
  pub lent : ℕ
  pub gives : Gives

abbrev pub posts : ℕ → List ℕ → List ℕ → ℕ → Gives → Posting
posts changes book ticket lent gives = record { held = held_in held_room changes book; ticket = ticket; lent = lent; gives = gives }

unfoldable pub postings : List Posting
postings =
    -- an addition and a withdrawal; bytes behind the ticket are not read
    posts 0 Q (adding_ticket 0) 16 (counts 2 1 both rows4)
    ∷ posts 7 Q (adding_ticket 7) 18 (counts 2 8 both rows4)
    ∷ posts 0 Q (adding_ticket 0 ++ (9 ∷ 9 ∷ [])) 16 (counts 2 1 both rows4)
    ∷ posts 300 both (withdrawing_ticket 44 1 1 ++ (9 ∷ 9 ∷ [])) 8 (counts 1 301 Q rows2)
    -- a count that is not the book's, above it or below it, in either byte: before every other refusal
    ∷ posts 1 Q (adding_ticket 0) 16 (refuses 16 0)
    ∷ posts 0 Q (adding_ticket 1) 16 (refuses 16 0)
    ∷ posts 1 both (withdrawing_ticket 1 1 1) 8 (refuses 16 0)
    ∷ posts 1 Q (adding_ticket 0) 0 (refuses 16 0)
    ∷ posts 1 (take 18 Q) (withdrawing_ticket 0 0 5) 0 (refuses 16 0)
    ∷ record { held = held_in 4296 1 Q; ticket = withdrawing_ticket 0 0 0; lent = 0; gives = refuses 16 0 }
    ∷ record { held = []; ticket = withdrawing_ticket 1 0 0; lent = 0; gives = refuses 16 0 }
    -- the 60,000th change; then no more, before every other refusal but 16
    ∷ posts 59999 both (withdrawing_ticket 95 234 1) 8 (counts 1 60000 Q rows2)
    ∷ posts 60000 both (withdrawing_ticket 96 234 1) 8 (refuses 17 0)
    ∷ posts 60000 both (withdrawing_ticket 96 234 2) 0 (refuses 17 0)
    ∷ posts 60000 (take 18 Q) (withdrawing_ticket 96 234 0) 0 (refuses 17 0)
    ∷ posts 60000 both (withdrawing_ticket 95 234 1) 8 (refuses 16 0)
    ∷ posts 60001 both (withdrawing_ticket 97 234 1) 8 (refuses 17 0)
    ∷ posts 65535 both (withdrawing_ticket 255 255 1) 8 (refuses 17 0)
    -- then those of the change
    ∷ posts 0 Q (adding_ticket 0) 15 (refuses 12 0)
    ∷ posts 0 Q (0 ∷ 0 ∷ 0 ∷ 0 ∷ 8 ∷ 0 ∷ a_b) 16 (refuses 8 2)
    ∷ posts 0 Q (withdrawing_ticket 0 0 1) 8 (refuses 15 0)
    ∷ posts 0 (take 18 Q) (withdrawing_ticket 0 0 5) 0 (refuses 1 5)
    ∷ record { held = held_in 4296 0 Q; ticket = withdrawing_ticket 0 0 0; lent = 0; gives = refuses 12 1 }
    -- a buffer that has no room for a count counts nothing
    ∷ record { held = []; ticket = withdrawing_ticket 0 0 0; lent = 0; gives = refuses 12 1 }
    ∷ record { held = 0 ∷ 0 ∷ 7 ∷ []; ticket = withdrawing_ticket 0 0 0; lent = 0; gives = refuses 12 1 }
    ∷ record { held = 0 ∷ 0 ∷ 7 ∷ 0 ∷ []; ticket = withdrawing_ticket 0 0 0; lent = 0; gives = refuses 16 0 }
    -- every content is a ticket: no bytes, and bytes of 0, are the addition of no bytes; every kind but 0 is a withdrawal, in either byte; what is not there is 0
    ∷ posts 0 Q [] 16 (refuses 1 19)
    ∷ posts 0 Q (replicate 140 0) 16 (refuses 1 19)
    ∷ posts 0 Q (0 ∷ 0 ∷ 7 ∷ 0 ∷ 0 ∷ 0 ∷ []) 0 (counts 0 1 four [])
    ∷ posts 0 Q (0 ∷ 0 ∷ 0 ∷ 1 ∷ 0 ∷ 0 ∷ []) 0 (counts 0 1 four [])
    ∷ posts 0 Q (0 ∷ 0 ∷ 1 ∷ []) 0 (counts 0 1 four [])
    ∷ posts 0 Q (0 ∷ 0 ∷ 1 ∷ 0 ∷ 0 ∷ 1 ∷ []) 0 (refuses 15 0)
    ∷ posts 0 Q (replicate 140 170) 16 (refuses 16 0)
    -- a record that the ticket cuts off, one that the number cuts off, and a number that takes a byte more
    ∷ posts 0 Q (take 19 (adding_ticket 0)) 16 (refuses 1 19)
    ∷ posts 0 Q (0 ∷ 0 ∷ 0 ∷ 0 ∷ 13 ∷ 0 ∷ bbaa_ccda) 16 (refuses 1 19)
    ∷ posts 0 Q (0 ∷ 0 ∷ 0 ∷ 0 ∷ 15 ∷ 0 ∷ bbaa_ccda ++ (0 ∷ [])) 16 (refuses 3 19)
    ∷ posts 0 Q (0 ∷ 0 ∷ 0 ∷ 0 ∷ 14 ∷ 1 ∷ bbaa_ccda) 16 (counts 2 1 both rows4)
    ∷ []

-- each posting gives what stands beside it
pub data Given : List Posting → Type 0 where
  none : Given []
  more : {p : Posting} {ps : List Posting} → post_of p.ticket p.held (sheet_in p.lent) ≡ outcome p.held p.lent p.gives → Given ps → Given (p ∷ ps)
