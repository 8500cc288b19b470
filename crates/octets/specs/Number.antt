-- 01, The loader and its edges: "All numbers are least significant byte first."
use Rattle.std.specs.Prelude.{ℕ, zero, suc, ◌+◌, ◌*◌, ◌/◌, ◌%◌, Bool, false, List, [], ◌∷◌, eqb, take, drop}
use Rattle.octets.specs.Choice.{pick}

-- the number that some bytes stand for
unfoldable pub number_of : List ℕ → ℕ
number_of [] = 0
number_of (byte ∷ bytes) = byte + 256 * number_of bytes

-- a number as bytes, so many of them
unfoldable pub bytes_of : ℕ → ℕ → List ℕ
bytes_of zero number = []
bytes_of (suc width) number = number % 256 ∷ bytes_of width (number / 256)

-- so many bytes of a list, from a place on
abbrev pub part : ℕ → ℕ → List ℕ → List ℕ
part at count bytes = take count (drop at bytes)

-- the number of so many bytes from a place on; bytes past the end are not there
abbrev pub number_at : ℕ → ℕ → List ℕ → ℕ
number_at at width bytes = number_of (part at width bytes)

-- a multiple of a unit; of 0 there are none
unfoldable pub is_multiple : ℕ → ℕ → Bool
is_multiple number unit = pick (eqb unit 0) false (eqb (number % unit) 0)
