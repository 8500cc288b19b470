-- What the private functions say of their lanes. No public promise needs it.
use Rattle.std.specs.Prelude.{List, [], ◌∷◌, ℕ, ◌*◌, ◌/◌, ◌%◌, ◌^◌, take, drop}
use Rattle.std.specs.Int.Bits.{bit_xor}
use Rattle.checksum.specs.Checksum.{checksum_from}

-- going on over bytes with lanes: each goes in before its eight bytes
unfoldable pub lanes_from : ℕ → List ℕ → List ℕ → ℕ
lanes_from sum [] bytes = checksum_from sum bytes
lanes_from sum (lane ∷ lanes) bytes = lanes_from (checksum_from (bit_xor sum lane) (take 8 bytes)) lanes (drop 8 bytes)

-- what a number of eight bytes leaves to the second, third, fourth and fifth after it
unfoldable pub second_of : ℕ → ℕ
second_of long = bit_xor (long * 2 ^ 17 % 2 ^ 64) (long * 2 ^ 55 % 2 ^ 64)

unfoldable pub third_of : ℕ → ℕ
third_of long = bit_xor (long / 2 ^ 47) (bit_xor (long / 2 ^ 9) (long * 2 ^ 19 % 2 ^ 64))

unfoldable pub fourth_of : ℕ → ℕ
fourth_of long = bit_xor (long / 2 ^ 45) (long * 2 ^ 44 % 2 ^ 64)

unfoldable pub fifth_of : ℕ → ℕ
fifth_of long = long / 2 ^ 20
