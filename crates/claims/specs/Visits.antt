-- Demand 3 for a person who chooses each wait and packet by the replies so far. The insurer asked for "sequences of commands that we had not
-- thought of": a person here is any rule for the next one.
use Rattle.std.specs.Prelude.{ℕ, zero, suc, ◌≡◌, false, List, [], ◌∷◌}
use Rattle.parts.specs.declared.Part.{Part}
use Rattle.session_state.specs.declared.Standing.{Standing}
use Rattle.session_state.specs.Phases.{is_unlocked}
use Rattle.session.specs.CallAnswers.{CallTold, Left}
use Rattle.c_records.specs.Boundary.{Called}
use Rattle.claims.specs.TwoBoards.{Images, Running, started, Sending, WithoutPassword, called, next, replied, Flash}
use Rattle.claims.specs.TwoBoardsFromC.{RunningFromC, started_from_c, called_from_c, next_from_c, replied_from_c, stands_from_c, lock_in, wrong_in}

-- ---- a person and a visit, however boards are called

-- a person: the next wait and packet, by all that was seen so far, the latest first; the reply areas that both callers lend go with it
abbrev pub Person : Type 0 → Type 0
Person Seen = List Seen → Sending

-- what one call leaves: the board, and what was seen
pub record Step (Board Seen : Type 0) : Type 0 where
  pub board : Board
  pub seen : Seen

-- a visit: the board as it is now, all that was sent to it and all that was seen of it, the latest first
pub record Visit (Board Seen : Type 0) : Type 0 where
  pub board : Board
  pub sent : List Sending
  pub seen : List Seen

module _ {Board Seen : Type 0} (call : Board → Sending → Step Board Seen) where
  -- one more call
  abbrev pub further : Sending → Visit Board Seen → Visit Board Seen
  further sending visit = record {
    board = (call visit.board sending).board;
    sent = sending ∷ visit.sent;
    seen = (call visit.board sending).seen ∷ visit.seen;
  }

  -- so many calls; before each the person looks at what was seen, and chooses
  abbrev pub visited : Person Seen → Board → ℕ → Visit Board Seen
  visited person board zero = record { board = board; sent = []; seen = [] }
  visited person board (suc calls) = further (person (visited person board calls).seen) (visited person board calls)

-- "no Unlock carrying either board's password", and "reply areas large enough", in all that was sent
abbrev pub AllWithout : Part → Images → Images → List Sending → Type 0
AllWithout part one other [] = Unit
AllWithout part one other (sending ∷ sendings) = WithoutPassword part one other sending × AllWithout part one other sendings

-- what is claimed of two visits: the person chose the same for both, has seen the same of both, and the boards stand as is claimed of them
pub record AlikeVisits {Board Seen : Type 0} (Claimed : Board → Board → Type 0) (one_visit other_visit : Visit Board Seen) : Type 0 where
  pub sent : one_visit.sent ≡ other_visit.sent
  -- "Every reply is the same, sleep, rate and phase included."
  pub seen : one_visit.seen ≡ other_visit.seen
  pub boards : Claimed one_visit.board other_visit.board

-- ---- by value

-- What is seen of a call: the bytes of the reply, none where the board is silent. That is all that the port shows. This person also sees the
-- answer's number, whether the board is told to burn its fuse, and how the session stands, and so is the stronger.
pub record Seen : Type 0 where
  pub reply : List ℕ
  pub answer : CallTold
  pub standing : Standing

abbrev pub step_of : Left → Step Running Seen
step_of left = record { board = next left; seen = record { reply = replied left; answer = left.answer; standing = left.session.standing } }

abbrev pub visit_one : Part → Person Seen → Images → ℕ → Visit Running Seen
visit_one part person images calls = visited (λ board sending. step_of (called part board sending sending.one_area)) person (started part images) calls

abbrev pub visit_other : Part → Person Seen → Images → ℕ → Visit Running Seen
visit_other part person images calls = visited (λ board sending. step_of (called part board sending sending.other_area)) person (started part images) calls

-- two boards as they are now
pub record StandAlike (part : Part) (one other : Images) (one_now other_now : Running) : Type 0 where
  pub standing : one_now.session.standing ≡ other_now.session.standing
  -- "Neither unlocks."
  pub locked : is_unlocked one_now.session.standing.phase ≡ false
  -- "A flash byte is 0xFF once the alert setting is reset, three wrong passwords have been counted and the place is unprotected; otherwise
  -- it is as at the start."
  pub one_flash : Flash part one one_now.session.standing.wrong one_now.memory
  pub other_flash : Flash part other other_now.session.standing.wrong other_now.memory

-- ---- from C

-- the same from C: the bytes of the reply, the returned number, and the record but for the settings' fields
pub record SeenFromC : Type 0 where
  pub reply : List ℕ
  pub answer : ℕ
  pub stands : List ℕ

abbrev pub step_from_c : Called → Step RunningFromC SeenFromC
step_from_c left =
    record { board = next_from_c left; seen = record { reply = replied_from_c left; answer = left.answer; stands = stands_from_c left.area } }

abbrev pub visit_one_from_c : Part → Person SeenFromC → Images → List ℕ → ℕ → Visit RunningFromC SeenFromC
visit_one_from_c part person images area calls =
    visited (λ board sending. step_from_c (called_from_c part board sending sending.one_area)) person (started_from_c part images area) calls

abbrev pub visit_other_from_c : Part → Person SeenFromC → Images → List ℕ → ℕ → Visit RunningFromC SeenFromC
visit_other_from_c part person images area calls =
    visited (λ board sending. step_from_c (called_from_c part board sending sending.other_area)) person (started_from_c part images area) calls

pub record StandAlikeFromC (part : Part) (one other : Images) (one_now other_now : RunningFromC) : Type 0 where
  pub stands : stands_from_c one_now.area ≡ stands_from_c other_now.area
  pub locked : lock_in one_now.area ≡ 0
  pub one_flash : Flash part one (wrong_in one_now.area) one_now.memory
  pub other_flash : Flash part other (wrong_in other_now.area) other_now.memory
