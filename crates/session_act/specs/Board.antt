-- What the settings let be done to a board, what an act leaves of it, and the numbers of the part.
use Rattle.std.specs.Prelude.{ℕ, List, [], ◌∷◌}
use Rattle.parts.specs.declared.Part.{Part}
use Rattle.line.specs.declared.Reply.{Reply}
use Rattle.settings.specs.declared.Shown.{Shown}
use Rattle.flash.specs.declared.Place.{Place}
use Rattle.flash.specs.Memory.{Memory}
use Rattle.flash.specs.Regions.{place_of}
use Rattle.session_act.specs.declared.Site.{Site}

-- what is answered, and what is left
pub record Acted : Type 0 where
  pub reply : Reply
  pub memory : Memory

abbrev pub acted : Reply → Memory → Acted
acted reply left = record { reply = reply; memory = left }

-- what the settings let be done; the passwords are not among it
pub record Board : Type 0 where
  pub part : Part
  pub main_size : ℕ
  pub shown : Shown
  pub protection : List ℕ

abbrev pub board : Part → ℕ → Shown → List ℕ → Board
board part main_size shown protection = record { part = part; main_size = main_size; shown = shown; protection = protection }

-- the board that is handed over
abbrev pub board_in : Site → Board
board_in site = board site.part site.main_size site.shown site.protection.now

-- the size of its sectors
abbrev pub sector_of : Board → ℕ
sector_of board = board.part.sector_size

-- "settings protected (0 or 1)": the settings flash is one sector, and this is its bit
abbrev pub settings_protection : Shown → List ℕ
settings_protection shown = shown.settings_protected ∷ []

-- the place of so many bytes from an address on
abbrev pub place_on : Board → ℕ → ℕ → Place
place_on board first count = place_of board.part board.main_size board.protection board.shown.settings_protected first count
