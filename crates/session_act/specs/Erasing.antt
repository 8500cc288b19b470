-- 01, Commands: 0x23 Range erase, 0x15 Mass erase, 0x30 Factory reset, and the reset of an alert.
use Rattle.std.specs.Prelude.{ℕ, ◌+◌, ◌-◌, Bool, true, not, List, ltb, eqb}
use Rattle.octets.specs.Choice.{pick}
use Rattle.parts.specs.declared.Part.{Part}
use Rattle.line.specs.Codes as codes
use Rattle.flash.specs.declared.Region.{Region}
use Rattle.flash.specs.declared.Region.TheVariants.{Main, Settings, Window, Outside}
use Rattle.flash.specs.declared.Place.{Place}
use Rattle.flash.specs.Regions.{has_protected, place_of}
use Rattle.session_act.specs.declared.Order.TheVariants.{EraseBetween, EraseMain, EraseBoth}
use Rattle.session_act.specs.declared.Planned.{Planned}
use Rattle.session_act.specs.Plans.{tells, orders}

-- "either outside MAIN: 05. Every sector from start's to end's becomes 0xFF; 00."; T-04: "must refuse when any place they would touch is
-- protected", "for Range erase after its other 05"
abbrev pub range_erase_in : ℕ → ℕ → Bool → Region → Planned
range_erase_in start end protected Main = pick protected (tells codes.invalid_range) (orders codes.success (EraseBetween start end))
range_erase_in start end protected Settings = tells codes.invalid_range
range_erase_in start end protected Window = tells codes.invalid_range
range_erase_in start end protected Outside = tells codes.invalid_range

abbrev pub range_erase_at : ℕ → ℕ → Place → Planned
range_erase_at start end place = range_erase_in start end (has_protected place) place.region

-- "0x23 Range erase, protected, L 9: start above end or either outside MAIN: 05." The range has end - start + 1 bytes.
unfoldable pub range_erase : Part → ℕ → List ℕ → ℕ → ℕ → ℕ → Planned
range_erase part main_size protection settings_bit start end =
    pick (ltb end start) (tells codes.invalid_range)
    (range_erase_at start end (place_of part main_size protection settings_bit start (end - start + 1)))

-- "0x15 Mass erase, protected, L 1: all MAIN; 00."
abbrev pub mass_erase : Planned
mass_erase = orders codes.success EraseMain

-- 01, Settings image, kind 3: "reset mode (0 off, 1 on, 2 with password)"
abbrev pub mode_off : ℕ
mode_off = 0

abbrev pub mode_with_password : ℕ
mode_with_password = 2

-- "no or wrong reset password": the packet has none, or not the session's
unfoldable pub lacks_reset_password : Bool → Bool → Bool
lacks_reset_password with right = pick with (not right) true

-- "0x30 Factory reset, protected, L 1 or 17: mode off 07; mode 2 with no or wrong reset password 08; else MAIN and settings become
-- 0xFF; 00."
unfoldable pub factory_reset : ℕ → Bool → Bool → Planned
factory_reset mode with right =
    pick (eqb mode mode_off) (tells codes.reset_off)
    (pick (eqb mode mode_with_password)
    (pick (lacks_reset_password with right) (tells codes.reset_password_wrong) (orders codes.success EraseBoth))
    (orders codes.success EraseBoth))

-- 0x21 Unlock: "message 03 and the alert: reset erases as Factory reset does at any reset mode"
abbrev pub struck : Planned
struck = orders codes.alert_taken EraseBoth
