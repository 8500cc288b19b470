-- What a person who returns can do to a board, and what is seen of it, however boards are called.
use Rattle.std.specs.Prelude.{ℕ, zero, suc, ◌≡◌, Bool, true, false, List, [], ◌∷◌}
use Rattle.flash.specs.Memory.{Memory}
use Rattle.claims.specs.TwoBoards.{Sending}
use Rattle.claims.specs.Visits.{Step}

-- T-12: "the fuse alike on both": one number for both boards, any at each start; any but 0 is a fuse that is set. Each caller in C lends a record
-- area of its own.
pub record Starting : Type 0 where
  pub fuse : ℕ
  pub one_record : List ℕ
  pub other_record : List ℕ

-- A person starts the board anew, sends a packet, or sends one and cuts the power within the strike's erase, when these sectors of MAIN are
-- erased. A cut of the power between two calls is the next start.
pub data Move : Type 0 where
  start : Starting → Move
  send : Sending → Move
  cut : Sending → (ℕ → Bool) → Move

-- a session ends with the next start, or with the power
abbrev pub ends_session : Move → Bool
ends_session (start starting) = true
ends_session (send sending) = false
ends_session (cut sending erased) = true

-- a board between two sessions, or in one
pub data Now (Running : Type 0) : Type 0 where
  off : Memory → Now Running
  on : Running → Now Running

-- what is seen of a move: what a start answers, what a call answers, or nothing
pub data Sight (Told Seen : Type 0) : Type 0 where
  nothing : Sight Told Seen
  of_start : Told → Sight Told Seen
  of_call : Seen → Sight Told Seen

-- how a board is called
pub record Port (Running Told Seen : Type 0) : Type 0 where
  -- the memory of a board in its session
  pub memory : Running → Memory
  -- a start: the board then, and what is told
  pub start : Starting → Memory → Now Running
  pub told : Starting → Memory → Told
  -- a call, and one that the power does not outlast
  pub call : Running → Sending → Step Running Seen
  pub cut : Running → Sending → (ℕ → Bool) → Memory

module _ {Running Told Seen : Type 0} (port : Port Running Told Seen) where
  -- the board after one move; while no session is on, no call is made
  abbrev pub moved : Now Running → Move → Now Running
  moved (off images) (start starting) = port.start starting images
  moved (off images) (send sending) = off images
  moved (off images) (cut sending erased) = off images
  moved (on board) (start starting) = port.start starting (port.memory board)
  moved (on board) (send sending) = on (port.call board sending).board
  moved (on board) (cut sending erased) = off (port.cut board sending erased)

  abbrev pub sight : Now Running → Move → Sight Told Seen
  sight (off images) (start starting) = of_start (port.told starting images)
  sight (off images) (send sending) = nothing
  sight (off images) (cut sending erased) = nothing
  sight (on board) (start starting) = of_start (port.told starting (port.memory board))
  sight (on board) (send sending) = of_call (port.call board sending).seen
  sight (on board) (cut sending erased) = nothing

  -- T-12: "each from the images the last one left": the board after a history, which has the latest move first
  abbrev pub now_after : Memory → List Move → Now Running
  now_after images [] = off images
  now_after images (move ∷ earlier) = moved (now_after images earlier) move

  -- all that was seen of it, the latest first
  abbrev pub seen_after : Memory → List Move → List (Sight Told Seen)
  seen_after images [] = []
  seen_after images (move ∷ earlier) = sight (now_after images earlier) move ∷ seen_after images earlier

  -- the history of a person who chooses each packet, wait and restart by all that was seen so far, after so many moves
  abbrev pub chosen : (List (Sight Told Seen) → Move) → Memory → ℕ → List Move
  chosen person images zero = []
  chosen person images (suc moves) = person (seen_after images (chosen person images moves)) ∷ chosen person images moves

-- ---- two boards

-- all that is seen of the one board is seen of the other
pub record SeenAlike {Running Told Seen : Type 0} (one_port other_port : Port Running Told Seen) (one other : Memory) (history : List Move) : Type 0 where
  pub seen : seen_after one_port one history ≡ seen_after other_port other history

-- a person who chooses by what was seen treats both the same, and sees the same of both
pub record AlikeToPerson {Running Told Seen : Type 0} (one_port other_port : Port Running Told Seen) (one other : Memory)
    (person : List (Sight Told Seen) → Move) (moves : ℕ) : Type 0 where
  pub history : chosen one_port person one moves ≡ chosen other_port person other moves
  pub seen : seen_after one_port one (chosen one_port person one moves) ≡ seen_after other_port other (chosen other_port person other moves)

-- something holds of every move
abbrev pub Throughout : (Move → Type 0) → List Move → Type 0
Throughout Holds [] = Unit
Throughout Holds (move ∷ earlier) = Holds move × Throughout Holds earlier
