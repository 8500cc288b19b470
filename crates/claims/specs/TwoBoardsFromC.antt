-- Demand 3 as C sees it: two record areas, the same numbers and packets; the same returned numbers, and the same bytes of the replies.
-- `start_from_c` and `call_from_c` are what the functions that C calls are proved to do.
use Rattle.std.specs.Prelude.{ℕ, ◌%◌, ◌<◌, ◌≡◌, List, [], ◌∷◌, length, get_or, take}
use Rattle.parts.specs.declared.Part.{Part}
use Rattle.flash.specs.Memory.{Memory}
use Rattle.c_records.specs.OneNumber.{refusal_unit, burn_unit}
use Rattle.c_records.specs.Stored.{Stored}
use Rattle.c_records.specs.Records.{record_size, fields_at}
use Rattle.c_records.specs.Boundary.{start_from_c, Called, call_from_c}
use Rattle.claims.specs.TwoBoards.{Images, Sending, WithoutPassword, Flash}

-- ---- the boards

-- a board in its session, from C: its record area, and the images and the window as they are now
pub record RunningFromC : Type 0 where
  pub area : List ℕ
  pub memory : Memory

-- start on a board whose fuse is not set
abbrev pub started_on : Part → Images → List ℕ → Stored
started_on part images area = start_from_c part 0 images.main images.settings images.window area

abbrev pub started_from_c : Part → Images → List ℕ → RunningFromC
started_from_c part images area = record { area = (started_on part images area).area; memory = images }

-- what is lent to start: settings of bytes, for a record area holds bytes alone; and an area of its size, with any contents
pub record Lent (part : Part) (images : Images) (area : List ℕ) : Type 0 where
  pub bytes : (k : ℕ) → get_or images.settings k 0 < 256
  pub size : length area ≡ record_size part

-- ---- what is claimed after every call

-- what the call leaves of a board, and the board then
abbrev pub called_from_c : Part → RunningFromC → Sending → List ℕ → Called
called_from_c part board sending reply = call_from_c part board.area board.memory sending.wait sending.packet reply

abbrev pub next_from_c : Called → RunningFromC
next_from_c left = record { area = left.area; memory = left.memory }

-- "Every reply": as many bytes of the reply area as the low half of the returned number says
abbrev pub replied_from_c : Called → List ℕ
replied_from_c left = take (left.answer % burn_unit) left.reply

-- "sleep, rate and phase included": a record but for the settings' fields
abbrev pub stands_from_c : List ℕ → List ℕ
stands_from_c area = take fields_at area

-- where the lock and the wrong count stand in a record area
abbrev pub lock_in : List ℕ → ℕ
lock_in area = get_or area 1 0

abbrev pub wrong_in : List ℕ → ℕ
wrong_in area = get_or area 2 0

-- all that two calls show, and all that they change
pub record AlikeFromC (part : Part) (one other : Images) (one_left other_left : Called) : Type 0 where
  -- no call is refused: the top byte of the number is 0
  pub served : one_left.answer < refusal_unit
  -- "Every reply is the same": the returned numbers, and the bytes
  pub answers : one_left.answer ≡ other_left.answer
  pub replies : replied_from_c one_left ≡ replied_from_c other_left
  -- the first 20 bytes of the records: phase, lock, wrong count, rate id, sleep, idle time, the total and the size of MAIN
  pub stands : stands_from_c one_left.area ≡ stands_from_c other_left.area
  -- "Neither unlocks."
  pub locked : lock_in one_left.area ≡ 0
  -- what they can change
  pub one_flash : Flash part one (wrong_in one_left.area) one_left.memory
  pub other_flash : Flash part other (wrong_in other_left.area) other_left.memory

-- at every point of any finite list of calls
abbrev pub AlikeCallsFromC : Part → Images → Images → RunningFromC → RunningFromC → List Sending → Type 0
AlikeCallsFromC part one other one_now other_now [] = Unit
AlikeCallsFromC part one other one_now other_now (sending ∷ sendings) =
    WithoutPassword part one other sending
    → AlikeFromC part one other (called_from_c part one_now sending sending.one_area) (called_from_c part other_now sending sending.other_area)
    × AlikeCallsFromC part one other (next_from_c (called_from_c part one_now sending sending.one_area)) (next_from_c (called_from_c part other_now sending sending.other_area)) sendings

-- "through one session": both starts answer 0 and leave records that are alike, and then all calls are
pub record AlikeSessionsFromC (part : Part) (one other : Images) (one_area other_area : List ℕ) (sendings : List Sending) : Type 0 where
  pub one_starts : (started_on part one one_area).answer ≡ 0
  pub other_starts : (started_on part other other_area).answer ≡ 0
  pub stands : stands_from_c (started_from_c part one one_area).area ≡ stands_from_c (started_from_c part other other_area).area
  pub calls : AlikeCallsFromC part one other (started_from_c part one one_area) (started_from_c part other other_area) sendings
