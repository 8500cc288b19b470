-- Boards and histories on which T-12 is tried. The boards are those on which demand 3 is tried.
use Rattle.std.specs.Prelude.{ℕ, ◌≡◌, Bool, false, List, [], ◌∷◌, ◌++◌, eqb, get_or, replicate}
use Rattle.octets.specs.Number.{bytes_of}
use Rattle.parts.specs.Parts.{mspm0}
use Rattle.line.specs.Codes.{program, read_back}
use Rattle.session_state.specs.Phases.{is_unlocked}
use Rattle.settings.specs.Held.{Settings}
use Rattle.settings.specs.Held.{Contents}
use Rattle.settings.specs.declared.Form.TheVariants.{One}
use Rattle.settings.specs.Values.{no_name}
use Rattle.settings.specs.Layout.{image_size}
use Rattle.settings.specs.Bodies.{contents_of}
use Rattle.settings.specs.Image.{image_of}
use Rattle.settings.specs.Answers.{Numbered}
use Rattle.flash.specs.Memory.{Memory, memory}
use Rattle.flash.specs.Erasing.{erase_all_of}
use Rattle.session_judge.specs.Unlocking.{alert_reset}
use Rattle.session_act.specs.Board.{settings_protection}
use Rattle.session_act.specs.Showing.{readout_on}
use Rattle.c_records.specs.Records.{record_size}
use Rattle.claims.specs.TwoBoards.{Images, Running, settings_of, Sending}
use Rattle.claims.specs.Visits.{Seen}
use Rattle.claims.specs.Trials.{sector_size, chosen_by, written_board, sends, connects, unlocks, two_guesses, three_guesses}
use Rattle.claims_restarts.specs.Boards.{zeros}
use Rattle.claims_restarts.specs.Moves.{Move, start, send, cut, Now, off, on, Sight, nothing, of_start, of_call}

-- ---- moves

-- a start, with this fuse; the record areas differ
abbrev pub starts : ℕ → Move
starts fuse = start (record { fuse = fuse; one_record = replicate (record_size mspm0) 0; other_record = replicate (record_size mspm0) 0xFF })

-- calls one after the other
abbrev pub calls : List Sending → List Move → List Move
calls [] earlier = earlier
calls (sending ∷ sendings) earlier = calls sendings (send sending ∷ earlier)

-- a session: a start, and calls
abbrev pub session : List Sending → List Move → List Move
session sendings earlier = calls sendings (starts 0 ∷ earlier)

-- ---- histories

-- two guesses; a start that is refused, since the fuse is set; three guesses
abbrev pub until_struck : List Move
until_struck = session three_guesses (starts 1 ∷ session two_guesses [])

-- and then a password that one of the boards had, and the password of a blank board
abbrev pub after_struck : List Move
after_struck = session (connects ∷ unlocks 0x11 ∷ unlocks 0xFF ∷ []) until_struck

-- a board's password in the session in which the alert strikes
abbrev pub password_in_struck : List Move
password_in_struck = send (unlocks 0x11) ∷ session three_guesses []

-- two guesses, and a third one; the power goes when the first sector is erased
abbrev pub first_sector : ℕ → Bool
first_sector sector = eqb sector 0

abbrev pub cut_history : List Move
cut_history = cut (unlocks 0x33) first_sector ∷ session two_guesses []

-- ---- a board whose settings are blank, and a person who reads it

-- it may hold anything in MAIN; its window was handed over
abbrev pub blanked : List ℕ → Images
blanked main = memory main (replicate image_size 0xFF) (zeros mspm0)

-- settings that such a person writes: readout is on, nothing is protected, and the password is known
abbrev pub readable : Settings
readable = chosen_by 0 0 0 readout_on 0xFFFFFFFF 0xFF

abbrev pub readable_contents : Contents
readable_contents = contents_of One readable no_name

-- 0x20 Program, of the whole settings flash
unfoldable pub programs : Sending
programs = sends (program ∷ (bytes_of 4 mspm0.settings_start ++ image_of readable_contents))

-- 0x29 Read back, of so many bytes from the first address of MAIN on
abbrev pub shown_count : ℕ
shown_count = 16

abbrev pub reads : Sending
reads = sends (read_back ∷ (bytes_of 4 0 ++ bytes_of 4 shown_count))

-- the same of the window
abbrev pub reads_window : Sending
reads_window = sends (read_back ∷ (bytes_of 4 mspm0.window_start ++ bytes_of 4 shown_count))

-- unlock with the public password and write these settings; start anew, unlock with their password, and read
abbrev pub opening : List Move → List Move
opening earlier = session (connects ∷ unlocks 0xFF ∷ reads ∷ []) (session (connects ∷ unlocks 0xFF ∷ programs ∷ []) earlier)

-- ---- boards that such a person can make blank, and keep the names of

-- the alert resets, the first sector is protected and the settings are not
abbrev pub exposed_board : ℕ → ℕ → Images
exposed_board password main = written_board (chosen_by alert_reset 1 0 0xFFFF 0 password) main

-- a board that carries out its strike with the settings first, and loses the power before MAIN
abbrev pub settings_first : Images → Images
settings_first board = memory board.main (erase_all_of sector_size (settings_protection (settings_of board).shown) board.settings) board.window

-- ---- what is looked at

-- what a board leaves to its next session
abbrev pub left_of : Now Running → Memory
left_of (off images) = images
left_of (on board) = board.memory

-- the latest move was a call that left its session unlocked
abbrev pub last_unlocks : List (Sight Numbered Seen) → Bool
last_unlocks [] = false
last_unlocks (nothing ∷ earlier) = false
last_unlocks (of_start told ∷ earlier) = false
last_unlocks (of_call seen ∷ earlier) = is_unlocked seen.standing.phase

-- the bytes of the latest reply
abbrev pub last_reply : List (Sight Numbered Seen) → List ℕ
last_reply [] = []
last_reply (nothing ∷ earlier) = []
last_reply (of_start told ∷ earlier) = []
last_reply (of_call seen ∷ earlier) = seen.reply

-- the first sector is erased, the second and the settings are as before
pub record HalfErased (before now : Memory) : Type 0 where
  pub first : get_or now.main 0 0 ≡ 0xFF
  pub second : get_or now.main sector_size 0 ≡ get_or before.main sector_size 0
  pub settings : now.settings ≡ before.settings
