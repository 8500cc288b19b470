-- 01, Checksum: "CRC32, polynomial 0xEDB88320 bit-reversed, seed 0xFFFFFFFF, no final inversion, over the core bytes only".
use Rattle.std.specs.Prelude.{List, [], ◌∷◌, ℕ, zero, suc, ◌*◌, ◌/◌, ◌%◌}
use Rattle.std.specs.Int.Bits.{bit_xor}

-- "polynomial 0xEDB88320 bit-reversed"
abbrev pub polynomial : ℕ
polynomial = 0xEDB88320

-- "seed 0xFFFFFFFF"
abbrev pub seed : ℕ
seed = 0xFFFFFFFF

-- one bit: all bits move down by one, and where a 1 fell out the polynomial goes in
unfoldable pub bit_on : ℕ → ℕ
bit_on sum = bit_xor (sum / 2) (sum % 2 * polynomial)

-- so many bits
unfoldable pub bits_on : ℕ → ℕ → ℕ
bits_on zero sum = sum
bits_on (suc count) sum = bits_on count (bit_on sum)

-- a byte: it goes in at the low end, and its eight bits move through
unfoldable pub byte_on : ℕ → ℕ → ℕ
byte_on sum byte = bits_on 8 (bit_xor sum byte)

-- going on over some bytes from an earlier value
unfoldable pub checksum_from : ℕ → List ℕ → ℕ
checksum_from earlier [] = earlier
checksum_from earlier (byte ∷ bytes) = checksum_from (byte_on earlier byte) bytes

-- the checksum of some bytes: from the seed, and "no final inversion"
unfoldable pub checksum_of : List ℕ → ℕ
checksum_of bytes = checksum_from seed bytes
