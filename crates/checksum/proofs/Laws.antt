-- What a caller may use of the checksum: it goes on over pieces, and it fits 32 bits.
use mathlib.Core.Path.{◌≡◌, refl}
use mathlib.Core.List.{List, [], ◌∷◌, ◌++◌}
use Prim.Native.Nat.{ℕ, suc, ◌^◌, ◌<◌}
use native.Mathlib.Omega.{arith}
use lib.Bits.{bit_xor, xor_lt}
use lib.ListN.{get_or}
use Rattle.checksum.specs.Checksum.{seed, byte_on, checksum_from, checksum_of}
use Rattle.checksum.proofs.Steps.{bits_fit}

-- going on over b after a is going over a ++ b
pub checksum_append : (earlier : ℕ) (a b : List ℕ) → checksum_from (checksum_from earlier a) b ≡ checksum_from earlier (a ++ b)
unfolding checksum_from
checksum_append earlier [] b = refl
checksum_append earlier (byte ∷ a) b = checksum_append (byte_on earlier byte) a b

-- the same from the seed
pub checksum_of_append : (a b : List ℕ) → checksum_from (checksum_of a) b ≡ checksum_of (a ++ b)
unfolding checksum_of
checksum_of_append a b = checksum_append seed a b

-- the checksum of bytes is a number of 32 bits
pub checksum_fits : (earlier : ℕ) (bytes : List ℕ) → earlier < 2 ^ 32 → ((k : ℕ) → get_or bytes k 0 < 256)
    → checksum_from earlier bytes < 2 ^ 32
unfolding checksum_from byte_on
checksum_fits earlier [] h small = h
checksum_fits earlier (byte ∷ bytes) h small =
    let b : byte < 256 = small 0 in
    let fits : byte_on earlier byte < 2 ^ 32 = bits_fit 8 (bit_xor earlier byte) (xor_lt 32 earlier byte h (omega arith)) in
    checksum_fits (byte_on earlier byte) bytes fits (λ k. small (suc k))

-- the same from the seed
pub checksum_of_fits : (bytes : List ℕ) → ((k : ℕ) → get_or bytes k 0 < 256) → checksum_of bytes < 2 ^ 32
unfolding checksum_of
checksum_of_fits bytes small = checksum_fits seed bytes (omega arith) small
