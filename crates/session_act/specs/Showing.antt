-- 01, Commands: 0x29 Read back, 0x26 Verify. Neither changes memory.
use Rattle.std.specs.Prelude.{ℕ, List, ltb, eqb}
use Rattle.octets.specs.Choice.{pick}
use Rattle.checksum.specs.Checksum.{checksum_of}
use Rattle.line.specs.Codes as codes
use Rattle.parts.specs.declared.Part.{Part}
use Rattle.line.specs.declared.Reply.{Reply}
use Rattle.line.specs.declared.Reply.TheVariants.{Message, Bytes, Sum}
use Rattle.line.specs.Replies.{read_back_most}
use Rattle.flash.specs.declared.Place.{Place}
use Rattle.flash.specs.Regions.{place_of}
use Rattle.flash.specs.Memory.{Memory, bytes_at}
use Rattle.session_act.specs.declared.Order.TheVariants.{Keep}
use Rattle.session_act.specs.declared.Planned.{Planned}
use Rattle.session_act.specs.Plans.{planned, says, tells}
use Rattle.session_act.specs.Programming.{is_outside, is_window}

-- 01, Settings image, kind 3: "readout (two bytes, on only at 0xAABB)"
abbrev pub readout_on : ℕ
readout_on = 0xAABB

-- "0x29 Read back, protected, L 9: readout off 09; size 0, above 1,720 or not in one region 05; else 30 and the bytes."
unfoldable pub read_back_at : ℕ → ℕ → Place → Planned
read_back_at readout size place =
    pick (eqb readout readout_on)
    (pick (eqb size 0) (tells codes.invalid_range)
    (pick (ltb read_back_most size) (tells codes.invalid_range)
    (pick (is_outside place.region) (tells codes.invalid_range) (planned Bytes Keep place.region place.offset size))))
    (tells codes.readout_off)

-- the place is that of so many bytes from the address on
abbrev pub read_back : Part → ℕ → ℕ → List ℕ → ℕ → ℕ → ℕ → Planned
read_back part readout main_size protection settings_bit address size = read_back_at readout size (place_of part main_size protection settings_bit address size)

-- "0x26 Verify, protected, L 9: size under 1,024: 0B; .. not in one region 05; else 32 and the checksum."; T-07: "01's list loses the line"
-- that stood between; T-05: "Verify still answers 05, as 004's own example shows.", where the range lies in the SRAM window
unfoldable pub verify_at : Part → ℕ → Memory → Place → Reply
verify_at part size memory place =
    pick (ltb size part.least_verify) (Message codes.too_small)
    (pick (is_outside place.region) (Message codes.invalid_range)
    (pick (is_window place.region) (Message codes.invalid_range) (Sum (checksum_of (bytes_at place size memory)))))

-- the place is that of so many bytes from the address on
abbrev pub verify : Part → ℕ → List ℕ → ℕ → ℕ → ℕ → Memory → Planned
verify part main_size protection settings_bit address size memory =
    says (verify_at part size memory (place_of part main_size protection settings_bit address size))
