-- 01, The loader and its edges: "The bench rig's host program, written in C, calls the loader on numbers and byte areas." Rates, and a session's start and its calls.
use Rattle.std.specs.Prelude.{ℕ, not, List, ltb, eqb, length}
use Rattle.octets.specs.Choice.{pick}
use Rattle.line.specs.Codes.{reply_limit}
use Rattle.parts.specs.declared.Part.{Part}
use Rattle.session_state.specs.Rates.{rate_of}
use Rattle.flash.specs.Memory.{Memory}
use Rattle.session.specs.StartAnswers.{StartTold}
use Rattle.session.specs.CallAnswers.{CallTold, Left}
use Rattle.session.specs.Starting.{start_of}
use Rattle.session.specs.Calling.{call_of}
use Rattle.c_records.specs.OneNumber.{one_number, refusal}
use Rattle.c_records.specs.Stored.{Stored, stored, stored_by}
use Rattle.c_records.specs.Records.{record_size, record_of, session_in, is_record_area}

-- ---- rates

-- 01, Commands, 0x52 Rate: "Rates for 1..9"
abbrev pub rate_from_c : Part → ℕ → ℕ
rate_from_c part id = rate_of part.last_rate id

-- ---- start

-- any fuse but 0 is set
abbrev pub start_by_fuse : Part → ℕ → List ℕ → List ℕ → List ℕ → StartTold
start_by_fuse part fuse main settings window = start_of part (not (eqb fuse 0)) main settings window

abbrev pub start_from_c : Part → ℕ → List ℕ → List ℕ → List ℕ → List ℕ → Stored
start_from_c part fuse main settings window area =
    stored_by (start_by_fuse part fuse main settings window).answer (record_size part) (record_of part (start_by_fuse part fuse main settings window).session) area

-- ---- a call

-- all that a call leaves: its answer, the record area, both images and the window, the reply area
pub record Called : Type 0 where
  pub answer : ℕ
  pub area : List ℕ
  pub memory : Memory
  pub reply : List ℕ

abbrev pub called : ℕ → List ℕ → Memory → List ℕ → Called
called answer area memory reply = record { answer = answer; area = area; memory = memory; reply = reply }

-- "each changes nothing lent": a refused call stores no record
unfoldable pub stored_after : CallTold → List ℕ → List ℕ → Stored
stored_after told bytes area =
    pick (eqb told.number 0) (stored (one_number 0 told.burn told.size) bytes) (stored (refusal told.number) area)

abbrev pub called_from : Stored → Left → Called
called_from after left = called after.answer after.area left.memory left.area

abbrev pub called_after : Part → List ℕ → Left → Called
called_after part area left = called_from (stored_after left.answer (record_of part left.session) area) left

-- "9 reply area below 1,729 bytes; 10 record not valid", of that first what only bytes can break, and then as the session's call; T-05: "11, window not
-- 3,456 bytes, .. after 9 in a call"
unfoldable pub call_from_c : Part → List ℕ → Memory → ℕ → List ℕ → List ℕ → Called
call_from_c part area before wait packet reply =
    pick (ltb (length reply) reply_limit) (called (refusal 9) area before reply)
    (pick (not (eqb (length before.window) part.window_size)) (called (refusal 11) area before reply)
    (pick (not (is_record_area part area)) (called (refusal 10) area before reply)
    (called_after part area (call_of part (session_in area) before wait packet reply))))
