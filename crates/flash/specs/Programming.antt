-- 01, Commands, 0x20 Program.
use Rattle.std.specs.Prelude.{ℕ, ◌+◌, ◌-◌, List, length, get_or}
use Rattle.std.specs.Int.Bits.{bit_and}
use Rattle.octets.specs.Choice.{pick}
use Rattle.flash.specs.Places.{is_between}
use Rattle.flash.specs.Protection.{changed}

-- "Each byte becomes old AND new", from a place on, as far as the memory reaches; T-02: Program "must first see that each word it would touch
-- is all 0xFF", and on these it leaves the new bytes
unfoldable pub program_of : ℕ → List ℕ → ℕ → List ℕ → List ℕ → List ℕ
program_of sector_size protection at bytes memory =
    changed sector_size protection
    (λ place old. pick (is_between at (at + length bytes) place) (bit_and old (get_or bytes (place - at) 0)) old) memory
