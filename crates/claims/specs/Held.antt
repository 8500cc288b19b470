-- Which values a struct of the code can hold: each array has its length, and each number of more than one byte fits its type.
use Rattle.std.specs.Prelude.{ℕ, ◌-◌, ◌^◌, ◌<◌, ◌≡◌, List, length, get_or, drop, replicate}
use Rattle.parts.specs.declared.Part.{Part}
use Rattle.parts.specs.Parts.{am13e230x}
use Rattle.settings.specs.declared.Shown.{Shown}
use Rattle.settings.specs.Held.{Settings}
use Rattle.settings.specs.Held.{Kept}
use Rattle.settings.specs.Held.{Contents}
use Rattle.settings_large.specs.Contents.{LargeContents}
use Rattle.session.specs.declared.Session.{Session}
use Rattle.c_records.specs.Records.{record_size, sleep_of}

-- bytes: so many numbers below 256
pub record Bytes (count : ℕ) (bytes : List ℕ) : Type 0 where
  pub size : length bytes ≡ count
  pub each : (k : ℕ) → get_or bytes k 0 < 256

pub record HeldShown (shown : Shown) : Type 0 where
  pub readout : shown.readout < 256 ^ 2
  pub bcr : shown.bcr_id < 256 ^ 4
  pub bsl : shown.bsl_id < 256 ^ 4
  pub pointer : shown.version_pointer < 256 ^ 4

pub record Held (settings : Settings) : Type 0 where
  pub shown : HeldShown settings.shown
  pub protection : Bytes 8 settings.protection
  pub password : Bytes 32 settings.password
  pub reset : Bytes 16 settings.reset_password

-- what a session keeps: of the protection a record has the bytes of the part's sectors, and no sector beyond them is protected
abbrev pub protection_in : Part → ℕ
protection_in part = record_size part - 86

pub record HeldKept (part : Part) (kept : Kept) : Type 0 where
  pub shown : HeldShown kept.shown
  pub protection : Bytes 32 kept.protection
  pub password : Bytes 32 kept.password
  pub reset : Bytes 16 kept.reset_password
  pub beyond : drop (protection_in part) kept.protection ≡ replicate (32 - protection_in part) 0

-- what an image holds: any form, the settings, and a name
pub record HeldContents (contents : Contents) : Type 0 where
  pub settings : Held contents.settings
  pub name : Bytes 64 contents.name

-- T-10: the same on the larger part
pub record HeldLarge (contents : LargeContents) : Type 0 where
  pub settings : HeldKept am13e230x contents.settings
  pub name : Bytes 64 contents.name

-- a session record; its sleep is there in the command phase alone
pub record HeldSession (part : Part) (session : Session) : Type 0 where
  pub sleep : sleep_of session.standing.phase < 256 ^ 4
  pub idle : session.standing.idle < 256 ^ 4
  pub tries : session.standing.tries < 256 ^ 4
  pub main : session.main_size < 256 ^ 4
  pub settings : HeldKept part session.settings
