-- Demand 3, sentence by sentence in the customer's words: two boards, a person without a password, one session.
-- `start_of` and `call_of` are what `session::start` and `session::call` are proved to do.
use Rattle.std.specs.Prelude.{ℕ, ◌≤◌, ◌<◌, ◌≡◌, Bool, false, List, [], ◌∷◌, eqb, length, get_or, take}
use Rattle.octets.specs.Choice.{pick}
use Rattle.parts.specs.declared.Part.{Part}
use Rattle.line.specs.Codes.{acknowledged, unlock, reply_limit}
use Rattle.line.specs.Packet.{core_in}
use Rattle.line.specs.Acknowledgement.{acknowledgement}
use Rattle.session_state.specs.Phases.{most_wrong, is_unlocked}
use Rattle.settings.specs.Held.{Kept}
use Rattle.flash.specs.Memory.{Memory}
use Rattle.flash.specs.Protection.{may_change}
use Rattle.session_judge.specs.Unlocking.{alert_reset}
use Rattle.session_act.specs.Board.{settings_protection}
use Rattle.session_act.specs.Info.{version_of}
use Rattle.session.specs.declared.Session.{Session}
use Rattle.session.specs.CallAnswers.{Left}
use Rattle.session.specs.Starting.{settings_read, start_of}
use Rattle.session.specs.Calling.{call_of}

-- ---- the boards

-- a board as it stands before its session: its two images, and its SRAM window
abbrev pub Images : Type 0
Images = Memory

-- a board in its session: the record, and the images and the window as they are now
pub record Running : Type 0 where
  pub session : Session
  pub memory : Memory

-- the settings that a board takes at start
abbrev pub settings_of : Images → Kept
settings_of images = (settings_read images.settings).settings

abbrev pub started : Part → Images → Running
started part images = record { session = (start_of part false images.main images.settings images.window).session; memory = images }

-- "take two boards of equal flash size that both start and whose good settings agree except in the two passwords. Their flash may differ
-- anywhere but in the four published version bytes." T-05: the window may differ between the boards, so nothing is asked of it.
pub record AlikeBoards (part : Part) (one other : Images) : Type 0 where
  -- "that both start", the fuse not being set
  pub one_starts : (start_of part false one.main one.settings one.window).answer.number ≡ 0
  pub other_starts : (start_of part false other.main other.settings other.window).answer.number ≡ 0
  -- "of equal flash size": that of MAIN; the settings flash of every board of the part that starts has its size
  pub size : length one.main ≡ length other.main
  -- "whose good settings agree except in the two passwords": as the reader gives them. T-09: "In demand 3 the name is a third secret." Nothing is
  -- said of the names, nor of the forms: they may differ too
  pub shown : (settings_of one).shown ≡ (settings_of other).shown
  pub protection : (settings_of one).protection ≡ (settings_of other).protection
  -- "the four published version bytes", T-10: "with eight version bytes here": what Info tells is the same; where the pointer is not good, both
  -- tell 0
  pub version : version_of part (settings_of one).shown one.main ≡ version_of part (settings_of other).shown other.main

-- ---- a person without a password

-- an "Unlock carrying" a password: it is acknowledged, and its core is the command byte and exactly that password
pub record Carries (part : Part) (packet password : List ℕ) : Type 0 where
  pub acknowledged : acknowledgement part.last_rate packet ≡ acknowledged
  pub core : core_in packet ≡ unlock ∷ password

-- "Feed both the same waits and packets": one packet, sent to both after the same wait; each board's caller lends a reply area of its own
pub record Sending : Type 0 where
  pub wait : ℕ
  pub packet : List ℕ
  pub one_area : List ℕ
  pub other_area : List ℕ

-- "with reply areas large enough and no Unlock carrying either board's password"
pub record WithoutPassword (part : Part) (one other : Images) (sending : Sending) : Type 0 where
  pub not_one : Carries part sending.packet (settings_of one).password → ⊥
  pub not_other : Carries part sending.packet (settings_of other).password → ⊥
  pub one_room : reply_limit ≤ length sending.one_area
  pub other_room : reply_limit ≤ length sending.other_area

-- ---- what is claimed after every call

-- what the call leaves of a board
abbrev pub called : Part → Running → Sending → List ℕ → Left
called part board sending area = call_of part board.session board.memory sending.wait sending.packet area

-- "let nothing else write images or record", nor the window: the next call finds what this one left
abbrev pub next : Left → Running
next left = record { session = left.session; memory = left.memory }

-- "Every reply": the bytes that are sent
abbrev pub replied : Left → List ℕ
replied left = take left.answer.size left.area

-- "once the alert setting is reset, three wrong passwords have been counted"
unfoldable pub is_struck : ℕ → ℕ → Bool
is_struck alert wrong = pick (eqb alert alert_reset) (eqb wrong most_wrong) false

-- "A flash byte is 0xFF once the alert setting is reset, three wrong passwords have been counted and the place is unprotected; otherwise it
-- is as at the start." Sectors may have any size.
abbrev pub AsClaimed : ℕ → Bool → List ℕ → List ℕ → List ℕ → Type 0
AsClaimed sector_size struck protection at_start left =
    (place : ℕ) → place < length at_start
    → get_or left place 0 ≡ pick (pick struck (may_change sector_size protection place) false) 0xFF (get_or at_start place 0)

-- both images of a board, and its window, after so many wrong passwords
pub record Flash (part : Part) (board : Images) (wrong : ℕ) (left : Memory) : Type 0 where
  pub main_size : length left.main ≡ length board.main
  pub main : AsClaimed part.sector_size (is_struck (settings_of board).shown.alert wrong) (settings_of board).protection board.main left.main
  pub settings_size : length left.settings ≡ length board.settings
  pub settings : AsClaimed part.sector_size (is_struck (settings_of board).shown.alert wrong) (settings_protection (settings_of board).shown) board.settings left.settings
  -- T-05: the window stays unchanged
  pub window : left.window ≡ board.window

-- all that two calls show at the port, how the sessions stand then, and what is left of flash
pub record Alike (part : Part) (one other : Images) (one_left other_left : Left) : Type 0 where
  -- no call is refused
  pub served : one_left.answer.number ≡ 0
  -- "Every reply is the same": refusal, length and burn, and the bytes
  pub answers : one_left.answer ≡ other_left.answer
  pub replies : replied one_left ≡ replied other_left
  -- "sleep, rate and phase included", and idle time, the wrong count and, as T-08 asks, the total of wrong passwords too
  pub standing : one_left.session.standing ≡ other_left.session.standing
  -- "Neither unlocks."
  pub locked : is_unlocked one_left.session.standing.phase ≡ false
  -- what they can change
  pub one_flash : Flash part one one_left.session.standing.wrong one_left.memory
  pub other_flash : Flash part other other_left.session.standing.wrong other_left.memory

-- "through one session": any finite list of calls, at every point of it. Visits has the words for a person who chooses each packet by the
-- replies so far.
abbrev pub AlikeThroughout : Part → Images → Images → Running → Running → List Sending → Type 0
AlikeThroughout part one other one_now other_now [] = Unit
AlikeThroughout part one other one_now other_now (sending ∷ sendings) =
    WithoutPassword part one other sending
    → Alike part one other (called part one_now sending sending.one_area) (called part other_now sending sending.other_area)
    × AlikeThroughout part one other (next (called part one_now sending sending.one_area)) (next (called part other_now sending sending.other_area)) sendings
