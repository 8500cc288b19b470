-- 01, Commands: 0x20 Program, and 0x24 likewise.
use Rattle.std.specs.Prelude.{ℕ, Bool, true, false, List, [], ◌∷◌}
use Rattle.octets.specs.Choice.{pick}
use Rattle.octets.specs.Number.{is_multiple}
use Rattle.parts.specs.declared.Part.{Part}
use Rattle.line.specs.Codes as codes
use Rattle.line.specs.declared.Reply.TheVariants.{FlashError}
use Rattle.flash.specs.declared.Region.{Region}
use Rattle.flash.specs.declared.Region.TheVariants.{Main, Settings, Window, Outside}
use Rattle.flash.specs.declared.Place.{Place}
use Rattle.flash.specs.Regions.{has_protected, place_of}
use Rattle.flash.specs.Memory.{Memory}
use Rattle.flash.specs.Words.{some_written}
use Rattle.session_act.specs.declared.Order.{Order}
use Rattle.session_act.specs.declared.Order.TheVariants.{Keep, ProgramMain, ProgramSettings, StoreWindow}
use Rattle.session_act.specs.declared.Planned.{Planned}
use Rattle.session_act.specs.Plans.{says, tells, orders}

-- "Address or data size not a multiple of 8", the part's word
unfoldable pub is_aligned : ℕ → ℕ → ℕ → Bool
is_aligned word address size = pick (is_multiple address word) (is_multiple size word) false

-- "not wholly in one region: 05"
abbrev pub is_outside : Region → Bool
is_outside Main = false
is_outside Settings = false
is_outside Window = false
is_outside Outside = true

-- T-05: "as a third region"
abbrev pub is_window : Region → Bool
is_window Main = false
is_window Settings = false
is_window Window = true
is_window Outside = false

-- T-02: "each word it would touch is all 0xFF; if not, nothing is written": whether one is not, in the region that holds the range
abbrev pub written_in : Part → List ℕ → ℕ → ℕ → ℕ → Memory → Region → Bool
written_in part protection settings_bit offset size memory Main =
    some_written part.sector_size protection part.word_size offset size memory.main
written_in part protection settings_bit offset size memory Settings =
    some_written part.sector_size (settings_bit ∷ []) part.word_size offset size memory.settings
written_in part protection settings_bit offset size memory Window = false
written_in part protection settings_bit offset size memory Outside = false

-- the packet's data go into the region that holds the range
abbrev pub program_in : ℕ → ℕ → Region → Order
program_in offset size Main = ProgramMain offset size
program_in offset size Settings = ProgramSettings offset size
program_in offset size Window = StoreWindow offset size
program_in offset size Outside = Keep

-- "0x20 Program, protected, L from 6: not wholly in one region: 05. Address or data size not a multiple of 8: 0A. Each byte becomes
-- old AND new; 00."; T-05: "Program stores bytes plainly there, at any alignment, with neither 0A nor T-02."; T-04: "message 05 after 0A and before
-- T-02's error", where a place of the range is protected; T-02: where a word is not all 0xFF, "nothing is written, and that holds for data of 0xFF
-- too", so a byte that is written becomes the new one. This is the order of Program's refusals.
unfoldable pub program_at : Part → List ℕ → ℕ → ℕ → ℕ → Memory → Place → Planned
program_at part protection settings_bit address size memory place =
    pick (is_outside place.region) (tells codes.invalid_range)
    (pick (is_window place.region) (orders codes.success (program_in place.offset size place.region))
    (pick (is_aligned part.word_size address size)
    (pick (has_protected place) (tells codes.invalid_range)
    (pick (written_in part protection settings_bit place.offset size memory place.region) (says FlashError)
    (orders codes.success (program_in place.offset size place.region))))
    (tells codes.not_aligned)))

-- the place is that of so many bytes from the address on
abbrev pub program : Part → ℕ → List ℕ → ℕ → ℕ → ℕ → Memory → Planned
program part main_size protection settings_bit address size memory =
    program_at part protection settings_bit address size memory (place_of part main_size protection settings_bit address size)
