-- Two boards through a history, by value: each is started and called as `start_of` and `call_of` say.
use Rattle.std.specs.Prelude.{ℕ, Bool, true, false, List, [], ◌∷◌, eqb, replicate}
use Rattle.octets.specs.Choice.{pick}
use Rattle.parts.specs.declared.Part.{Part}
use Rattle.settings.specs.Answers.{Numbered}
use Rattle.flash.specs.Memory.{Memory, memory}
use Rattle.session_act.specs.declared.Order.{Order}
use Rattle.session.specs.StartAnswers.{StartTold}
use Rattle.session.specs.Calling.{judgement, intent}
use Rattle.c_records.specs.Boundary.{start_by_fuse}
use Rattle.claims.specs.TwoBoards.{Images, Running, Sending, called, is_struck}
use Rattle.claims.specs.Visits.{Seen, step_of}
use Rattle.claims_restarts.specs.Moves.{Starting, Move, ends_session, Now, off, on, Port, now_after}
use Rattle.claims_restarts.specs.Cuts.{cut_within}

-- ---- a board

-- T-12: "at each start the SRAM window handed over as zeros"; the images as the last session left them
unfoldable pub zeros : Part → List ℕ
zeros part = replicate part.window_size 0

abbrev pub fresh : Part → Memory → Memory
fresh part left = memory left.main left.settings (zeros part)

-- a start
abbrev pub begun : Part → Starting → Memory → StartTold
begun part starting images = start_by_fuse part starting.fuse images.main images.settings images.window

-- where it is refused there is no session
unfoldable pub started_by : StartTold → Memory → Now Running
started_by told images = pick (eqb told.answer.number 0) (on (record { session = told.session; memory = images })) (off images)

-- what a call orders to be done to memory
abbrev pub ordered : Part → Running → Sending → Order
ordered part board sending =
    (intent part board.session sending.packet board.memory
    (judgement part.last_rate board.session sending.wait sending.packet).effect).order

-- the power goes within it
abbrev pub cut_off : Part → Running → Sending → (ℕ → Bool) → Memory
cut_off part board sending erased =
    cut_within part board.session.settings sending.packet erased board.memory (ordered part board sending)

-- one of the two boards, by the reply area that its caller lends
abbrev pub port_by : Part → (Sending → List ℕ) → Port Running Numbered Seen
port_by part area = record {
  memory = λ board. board.memory;
  start = λ starting left. started_by (begun part starting (fresh part left)) (fresh part left);
  told = λ starting left. (begun part starting (fresh part left)).answer;
  call = λ board sending. step_of (called part board sending (area sending));
  cut = λ board sending erased. cut_off part board sending erased;
}

abbrev pub port_one : Part → Port Running Numbered Seen
port_one part = port_by part (λ sending. sending.one_area)

abbrev pub port_other : Part → Port Running Numbered Seen
port_other part = port_by part (λ sending. sending.other_area)

-- ---- the alert strikes

-- in the session that is on the alert setting is reset, and three wrong passwords have been counted
abbrev pub has_struck : Now Running → Bool
has_struck (off images) = false
has_struck (on board) = is_struck board.session.settings.shown.alert board.session.standing.wrong

-- T-12: "the end of the session in which the alert first strikes" is past, on the one board
unfoldable pub is_over : Part → Images → List Move → Bool
is_over part one [] = false
is_over part one (move ∷ earlier) =
    pick (is_over part one earlier) true (pick (ends_session move) (has_struck (now_after (port_one part) one earlier)) false)
