-- T-12 as C sees it: record areas and returned numbers. `start_from_c` and `call_from_c` are what the functions that C calls are proved to do.
use Rattle.std.specs.Prelude.{ℕ, ◌<◌, ◌≡◌, List, [], ◌∷◌, eqb, length, get_or}
use Rattle.octets.specs.Choice.{pick}
use Rattle.parts.specs.declared.Part.{Part}
use Rattle.flash.specs.Memory.{Memory}
use Rattle.c_records.specs.Stored.{Stored}
use Rattle.c_records.specs.Records.{record_size, session_in}
use Rattle.c_records.specs.Boundary.{start_from_c}
use Rattle.claims.specs.TwoBoards.{Images, Running, Sending}
use Rattle.claims.specs.TwoBoardsFromC.{RunningFromC, called_from_c, lock_in}
use Rattle.claims.specs.Visits.{SeenFromC, step_from_c}
use Rattle.claims_restarts.specs.Moves.{Starting, Move, start, send, cut, Now, off, on, Sight, nothing, of_start, of_call, Port, seen_after, chosen, SeenAlike, AlikeToPerson, Throughout}
use Rattle.claims_restarts.specs.Boards.{fresh, cut_off}
use Rattle.claims_restarts.specs.Returning.{Returning, Advised, UntilStruck}

-- ---- a board

abbrev pub begun_from_c : Part → List ℕ → Starting → Memory → Stored
begun_from_c part area starting images = start_from_c part starting.fuse images.main images.settings images.window area

-- where the number is not 0 there is no session
unfoldable pub started_from : Stored → Memory → Now RunningFromC
started_from left images = pick (eqb left.answer 0) (on (record { area = left.area; memory = images })) (off images)

-- the session that a record area says
abbrev pub running_in : RunningFromC → Running
running_in board = record { session = session_in board.area; memory = board.memory }

-- one of the two boards, by the areas that its caller lends
abbrev pub port_by_from_c : Part → (Starting → List ℕ) → (Sending → List ℕ) → Port RunningFromC ℕ SeenFromC
port_by_from_c part area reply = record {
  memory = λ board. board.memory;
  start = λ starting left. started_from (begun_from_c part (area starting) starting (fresh part left)) (fresh part left);
  told = λ starting left. (begun_from_c part (area starting) starting (fresh part left)).answer;
  call = λ board sending. step_from_c (called_from_c part board sending (reply sending));
  cut = λ board sending erased. cut_off part (running_in board) sending erased;
}

abbrev pub port_one_from_c : Part → Port RunningFromC ℕ SeenFromC
port_one_from_c part = port_by_from_c part (λ starting. starting.one_record) (λ sending. sending.one_area)

abbrev pub port_other_from_c : Part → Port RunningFromC ℕ SeenFromC
port_other_from_c part = port_by_from_c part (λ starting. starting.other_record) (λ sending. sending.other_area)

-- ---- what is asked beside

-- each start is lent record areas of their size, with any contents
pub record LentRecords (part : Part) (starting : Starting) : Type 0 where
  pub one : length starting.one_record ≡ record_size part
  pub other : length starting.other_record ≡ record_size part

abbrev pub HasRecords : Part → Move → Type 0
HasRecords part (start starting) = LentRecords part starting
HasRecords part (send sending) = Unit
HasRecords part (cut sending erased) = Unit

-- the settings are bytes, for a record area holds bytes alone
pub record FromC (part : Part) (one other : Images) (history : List Move) : Type 0 where
  pub one_bytes : (k : ℕ) → get_or one.settings k 0 < 256
  pub other_bytes : (k : ℕ) → get_or other.settings k 0 < 256
  pub records : Throughout (HasRecords part) history

pub record ReturningFromC (part : Part) (one other : Images) (history : List Move) : Type 0 where
  pub returning : Returning part one other history
  pub lent : FromC part one other history

pub record AdvisedFromC (part : Part) (one other : Images) (history : List Move) : Type 0 where
  pub advised : Advised part one other history
  pub lent : FromC part one other history

pub record UntilStruckFromC (part : Part) (one other : Images) (history : List Move) : Type 0 where
  pub until : UntilStruck part one other history
  pub lent : FromC part one other history

-- ---- what is claimed

-- every returned number, every reply, and after every call the record but for the settings' fields
abbrev pub AlikeFromC : Part → Images → Images → List Move → Type 0
AlikeFromC part one other history = SeenAlike (port_one_from_c part) (port_other_from_c part) one other history

abbrev pub PersonFromC : Type 0
PersonFromC = List (Sight ℕ SeenFromC) → Move

abbrev pub AlikeToFromC : Part → Images → Images → PersonFromC → ℕ → Type 0
AlikeToFromC part one other person moves = AlikeToPerson (port_one_from_c part) (port_other_from_c part) one other person moves

abbrev pub history_of_from_c : Part → Images → PersonFromC → ℕ → List Move
history_of_from_c part one person moves = chosen (port_one_from_c part) person one moves

-- the record's lock byte is 0 after every call
abbrev pub IsLockedFromC : Sight ℕ SeenFromC → Type 0
IsLockedFromC nothing = Unit
IsLockedFromC (of_start told) = Unit
IsLockedFromC (of_call seen) = lock_in seen.stands ≡ 0

abbrev pub StaysLockedFromC : List (Sight ℕ SeenFromC) → Type 0
StaysLockedFromC [] = Unit
StaysLockedFromC (last ∷ earlier) = IsLockedFromC last × StaysLockedFromC earlier

pub record AlikeAndLockedFromC (part : Part) (one other : Images) (history : List Move) : Type 0 where
  pub seen : seen_after (port_one_from_c part) one history ≡ seen_after (port_other_from_c part) other history
  pub locked : StaysLockedFromC (seen_after (port_one_from_c part) one history)
