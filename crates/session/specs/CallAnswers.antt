-- 01, Numbers of refused calls: the number of each error, and what a call leaves. A call that is not refused has the number 0.
use Rattle.std.specs.Prelude.{ℕ, Bool, false, List, Result, Ok, Err}
use Rattle.flash.specs.Memory.{Memory}
use Rattle.session.specs.declared.Session.{Session}
use Rattle.session.specs.declared.CallError.{CallError}
use Rattle.session.specs.declared.CallError.TheVariants as call
use Rattle.session.specs.declared.Called.{Called}

-- a call's number, how many bytes its reply has, and whether the board is told to burn its fuse
pub record CallTold : Type 0 where
  pub number : ℕ
  pub size : ℕ
  pub burn : Bool

abbrev pub call_told : ℕ → ℕ → Bool → CallTold
call_told number size burn = record { number = number; size = size; burn = burn }

-- "a session call 9 then 10": "9 reply area below 1,729 bytes; 10 record not valid"; T-05: "11, window not 3,456 bytes, .. after 9 in a call"
abbrev pub call_numbered : CallError → CallTold
call_numbered call.ReplyAreaTooSmall = call_told 9 0 false
call_numbered call.WindowSizeWrong = call_told 11 0 false
call_numbered call.RecordNotValid = call_told 10 0 false

-- all that a call leaves: its answer, the next session, both images and the window, the reply area
pub record Left : Type 0 where
  pub answer : CallTold
  pub session : Session
  pub memory : Memory
  pub area : List ℕ

abbrev pub left : CallTold → Session → Memory → List ℕ → Left
left answer session memory area = record { answer = answer; session = session; memory = memory; area = area }

abbrev pub called_left : Called → Memory → List ℕ → Left
called_left called memory area = left (call_told 0 called.size called.burn) called.session memory area

-- "each changes nothing lent and returns the record it was given": beside an error there is none, and who calls has it still
abbrev pub call_left : Session → Result Called CallError → Memory → List ℕ → Left
call_left given (Ok called) memory area = called_left called memory area
call_left given (Err error) memory area = left (call_numbered error) given memory area
