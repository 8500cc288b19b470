-- 01, Numbers of refused calls, and T-09: the number of each answer of the reader, the writer and the moves, and what goes with it. A call that is not
-- refused has the number 0.
use Rattle.std.specs.Prelude.{ℕ, List, Result, Ok, Err}
use Rattle.settings.specs.Held.{Kept, Contents}
use Rattle.settings.specs.declared.Refusal.{Refusal}
use Rattle.settings.specs.declared.Refusal.TheVariants.{SizeWrong, ChecksumDiffers, FormUnknown, EntryDiffers, FillerDiffers, ValueNotAllowed}
use Rattle.settings.specs.declared.WriteError.{WriteError}
use Rattle.settings.specs.declared.WriteError.TheVariants as write
use Rattle.settings.specs.declared.MoveError.{MoveError}
use Rattle.settings.specs.declared.MoveError.TheVariants as move
use Rattle.settings.specs.Values.{no_contents}
use Rattle.settings.specs.Kept.{kept_of, no_kept}

-- an answer's number, and the entry that goes with it
pub record Numbered : Type 0 where
  pub number : ℕ
  pub entry : ℕ

abbrev pub numbered : ℕ → ℕ → Numbered
numbered number entry = record { number = number; entry = entry }

-- "3 settings area not 1,024 bytes; 4 not blank and checksum differs; 5 form not 1 or count not 6; 6 an entry differs from the table;
-- 7 a byte of 126..1,019 is not 0xFF; 8 a value in body 3 is not allowed"; "that entry's number, counted from 1, goes with refusal 6"
abbrev pub refusal_numbered : Refusal → Numbered
refusal_numbered SizeWrong = numbered 3 0
refusal_numbered ChecksumDiffers = numbered 4 0
refusal_numbered FormUnknown = numbered 5 0
refusal_numbered (EntryDiffers entry) = numbered 6 entry
refusal_numbered FillerDiffers = numbered 7 0
refusal_numbered ValueNotAllowed = numbered 8 0

-- what the reader answers, of all that it can read
abbrev pub read_numbered : {A : Type 0} → Result A Refusal → Numbered
read_numbered (Ok value) = numbered 0 0
read_numbered (Err refusal) = refusal_numbered refusal

-- all that the reader tells
pub record ReadTold : Type 0 where
  pub number : ℕ
  pub entry : ℕ
  pub contents : Contents

-- an image that is accepted, and what it says
abbrev pub accepted : Contents → ReadTold
accepted contents = record { number = 0; entry = 0; contents = contents }

-- an image that is refused, at an entry or at none
abbrev pub refused : Numbered → ReadTold
refused told = record { number = told.number; entry = told.entry; contents = no_contents }

abbrev pub read_told : Result Contents Refusal → ReadTold
read_told (Ok contents) = accepted contents
read_told (Err refusal) = refused (refusal_numbered refusal)

-- what a session takes of it: neither form nor name
pub record SettingsTold : Type 0 where
  pub number : ℕ
  pub entry : ℕ
  pub settings : Kept

abbrev pub settings_told : Result Kept Refusal → SettingsTold
settings_told (Ok settings) = record { number = 0; entry = 0; settings = settings }
settings_told (Err refusal) = record { number = (refusal_numbered refusal).number; entry = (refusal_numbered refusal).entry; settings = no_kept }

abbrev pub settings_only : ReadTold → SettingsTold
settings_only told = record { number = told.number; entry = told.entry; settings = kept_of told.contents.settings }

-- "the writer 3 then 8"; T-09: "41, a name not all 0xFF .. in form 1 settings to be written, after 8"
abbrev pub write_number : Result Unit WriteError → ℕ
write_number (Ok done) = 0
write_number (Err write.SizeWrong) = 3
write_number (Err write.ValueNotAllowed) = 8
write_number (Err write.NameNotEmpty) = 41

-- all that the writer leaves: its number, and the area
pub record WriteLeft : Type 0 where
  pub number : ℕ
  pub image : List ℕ

abbrev pub write_left : ℕ → List ℕ → WriteLeft
write_left number image = record { number = number; image = image }

-- T-09: "each move checks as the reader", and "41, a name not all 0xFF on the way back"
abbrev pub move_numbered : Result Unit MoveError → Numbered
move_numbered (Ok done) = numbered 0 0
move_numbered (Err (move.Image refusal)) = refusal_numbered refusal
move_numbered (Err move.NameNotEmpty) = numbered 41 0

-- all that a move leaves: its number and entry, and the image
pub record MoveLeft : Type 0 where
  pub told : Numbered
  pub image : List ℕ

abbrev pub move_left : Numbered → List ℕ → MoveLeft
move_left told image = record { told = told; image = image }
