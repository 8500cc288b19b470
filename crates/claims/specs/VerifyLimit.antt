-- T-07: "why Verify tests for sizes above 65,536 when no region is that large": Verify with that test, as 01 has it, and with T-05's 05 for the window.
use Rattle.std.specs.Prelude.{ℕ, ltb}
use Rattle.octets.specs.Choice.{pick}
use Rattle.checksum.specs.Checksum.{checksum_of}
use Rattle.line.specs.Codes as codes
use Rattle.line.specs.declared.Reply.{Reply}
use Rattle.line.specs.declared.Reply.TheVariants.{Message, Sum}
use Rattle.parts.specs.declared.Part.{Part}
use Rattle.flash.specs.declared.Place.{Place}
use Rattle.flash.specs.Memory.{Memory, bytes_at}
use Rattle.session_act.specs.Programming.{is_outside, is_window}

-- 01, Commands: "size under 1,024: 0B; size above 65,536: 05; not in one region 05; else 32 and the checksum."
unfoldable pub verify_limited : Part → ℕ → Memory → Place → Reply
verify_limited part size memory place =
    pick (ltb size part.least_verify) (Message codes.too_small)
    (pick (ltb part.most_main size) (Message codes.invalid_range)
    (pick (is_outside place.region) (Message codes.invalid_range)
    (pick (is_window place.region) (Message codes.invalid_range) (Sum (checksum_of (bytes_at place size memory))))))
