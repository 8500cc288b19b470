-- Boards and packets on which demand 3 is tried.
use Rattle.std.specs.Prelude.{ℕ, ◌≡◌, List, [], ◌∷◌, ◌++◌, length, take, replicate}
use Rattle.octets.specs.Number.{bytes_of}
use Rattle.parts.specs.Parts.{mspm0}
use Rattle.checksum.specs.Checksum.{checksum_of}
use Rattle.line.specs.Codes.{command_header, reply_limit, connect, unlock}
use Rattle.settings.specs.Held.{Settings}
use Rattle.settings.specs.declared.Form.{Form}
use Rattle.settings.specs.declared.Form.TheVariants.{One, Two}
use Rattle.settings.specs.Values.{no_name}
use Rattle.settings.specs.Layout.{image_size}
use Rattle.settings.specs.Bodies.{contents_of}
use Rattle.settings.specs.Reader.{read_of}
use Rattle.settings.specs.Image.{image_of}
use Rattle.flash.specs.Memory.{memory}
use Rattle.session_judge.specs.Unlocking.{alert_reset}
use Rattle.session.specs.CallAnswers.{Left}
use Rattle.claims.specs.TwoBoards.{Images, Running, settings_of, started, Sending, called, next}
use Rattle.claims.specs.Visits.{Person, Seen}

-- ---- boards

-- of the MSPM0; MAIN has two sectors
abbrev pub sector_size : ℕ
sector_size = mspm0.sector_size

abbrev pub main_size : ℕ
main_size = 2048

-- the window holds one byte all through
unfoldable pub window_of : ℕ → List ℕ
window_of byte = replicate mspm0.window_size byte

-- 01, Settings image: "An image of 1,024 bytes 0xFF is blank": its alert is 0, nothing
unfoldable pub blank_board : Images
blank_board = memory (replicate main_size 0xFF) (replicate image_size 0xFF) (window_of 0xFF)

-- the settings of a blank image, but for the alert, the bit of the first sector and that of the settings, the readout, the version pointer and the
-- passwords, of which each is one byte all through
abbrev pub chosen_by : ℕ → ℕ → ℕ → ℕ → ℕ → ℕ → Settings
chosen_by alert sector guard readout pointer byte = record {
  shown = record {
    reset_mode = 1;
    alert = alert;
    readout = readout;
    settings_protected = guard;
    bcr_id = 1;
    bsl_id = 1;
    version_pointer = pointer;
  };
  protection = sector ∷ replicate 7 0;
  password = replicate 32 byte;
  reset_password = replicate 16 byte;
}

-- readout is off; where the guard is 1 the first sector and the settings are protected
abbrev pub chosen : ℕ → ℕ → ℕ → ℕ → Settings
chosen alert guard pointer byte = chosen_by alert guard guard 0xFFFF pointer byte

-- a board whose settings were written; in MAIN there are four bytes 0x55, and then one byte all through, as in its window
unfoldable pub written_board : Settings → ℕ → Images
written_board settings byte = memory (replicate 4 0x55 ++ replicate 2044 byte) (image_of (contents_of One settings no_name)) (window_of byte)

-- T-09: the same in form 2, with a name of one byte all through
unfoldable pub named_board : Settings → ℕ → ℕ → Images
named_board settings name byte = memory (replicate 4 0x55 ++ replicate 2044 byte) (image_of (contents_of Two settings (replicate 64 name))) (window_of byte)

-- the alert does nothing, and the version pointer is not good
abbrev pub quiet_board : ℕ → ℕ → Images
quiet_board password main = written_board (chosen 0 0 0xFFFFFFFF password) main

-- the alert resets, and the version is the four bytes 0x55; nothing is protected, or the first sector and the settings are
abbrev pub reset_board : ℕ → ℕ → ℕ → Images
reset_board guard password main = written_board (chosen alert_reset guard 0 password) main

abbrev pub strict_board : ℕ → ℕ → Images
strict_board password main = reset_board 0 password main

abbrev pub guarded_board : ℕ → ℕ → Images
guarded_board password main = reset_board 1 password main

-- a strict board with a name
abbrev pub named_strict : ℕ → ℕ → ℕ → Images
named_strict name password main = named_board (chosen alert_reset 0 0 password) name main

-- both passwords, both images and the windows differ
pub record Differ (one other : Images) : Type 0 where
  pub password : (settings_of one).password ≡ (settings_of other).password → ⊥
  pub reset_password : (settings_of one).reset_password ≡ (settings_of other).reset_password → ⊥
  pub main : one.main ≡ other.main → ⊥
  pub settings : one.settings ≡ other.settings → ⊥
  pub window : one.window ≡ other.window → ⊥

-- the name and the form of a board's settings
abbrev pub name_of : Images → List ℕ
name_of images = (read_of images.settings).contents.name

abbrev pub form_of : Images → Form
form_of images = (read_of images.settings).contents.form

-- the second sector is 0xFF; the first one, the settings and the window are as they were
abbrev pub second_ff : Images → Images
second_ff board = memory (take sector_size board.main ++ replicate sector_size 0xFF) board.settings board.window

-- every byte of both images is 0xFF; the window is as it was
abbrev pub all_ff : Images → Images
all_ff board = memory (replicate (length board.main) 0xFF) (replicate (length board.settings) 0xFF) board.window

-- ---- packets

-- 01, Commands: header, length, core, checksum
abbrev pub packet_of : List ℕ → List ℕ
packet_of core = command_header ∷ (bytes_of 2 (length core) ++ (core ++ bytes_of 4 (checksum_of core)))

-- a packet after two seconds, when no board sleeps; both areas have the least room, and differ
abbrev pub sends : List ℕ → Sending
sends core = record { wait = 2000; packet = packet_of core; one_area = replicate reply_limit 0; other_area = replicate reply_limit 0xFF }

abbrev pub connects : Sending
connects = sends (connect ∷ [])

-- an Unlock with 32 times a byte
abbrev pub unlocks : ℕ → Sending
unlocks byte = sends (unlock ∷ replicate 32 byte)

-- ---- sessions

-- two wrong passwords, and three, where the right one does not begin with 0x33
abbrev pub two_guesses : List Sending
two_guesses = connects ∷ unlocks 0x33 ∷ unlocks 0x33 ∷ []

abbrev pub three_guesses : List Sending
three_guesses = connects ∷ unlocks 0x33 ∷ unlocks 0x33 ∷ unlocks 0x33 ∷ []

-- a person who guesses so, whatever is seen
abbrev pub guesser : Person Seen
guesser [] = connects
guesser (last ∷ seen) = unlocks 0x33

-- a board after some calls, with the first area of each
abbrev pub ran : Running → List Sending → Running
ran board [] = board
ran board (sending ∷ sendings) = ran (next (called mspm0 board sending sending.one_area)) sendings

-- what a board that was connected leaves where the password of a blank board is sent to it
abbrev pub to_blank_password : Images → Left
to_blank_password images = called mspm0 (ran (started mspm0 images) (connects ∷ [])) (unlocks 0xFF) (unlocks 0xFF).one_area
