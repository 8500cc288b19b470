-- A number and its bytes give each other back.
use mathlib.Core.Path.{◌≡◌, refl, ap, ap₂, ◌∙◌}
use mathlib.Core.List.{List, [], ◌∷◌, ◌++◌}
use Prim.Native.Nat.{ℕ, zero, suc, ◌+◌, ◌*◌, ◌/◌, ◌%◌, ◌^◌, ◌<◌}
use native.Mathlib.Nat.{pow-suc, div-lt_iff_lt-mul, mod-lt, zero-lt-suc}
use native.Mathlib.Omega.{arith}
use lib.ListN.{length, get_or, take, drop, replicate}
use lib.Seq.{sets}
use Rattle.octets.specs.Number.{number_of, bytes_of, number_at, part}

pub length-bytes_of : (width number : ℕ) → length (bytes_of width number) ≡ width
unfolding bytes_of
length-bytes_of zero number = refl
length-bytes_of (suc width) number = ap suc (length-bytes_of width (number / 256))

-- the number of the bytes of a number that fits them
pub number_of_bytes : (width number : ℕ) → number < 256 ^ width → number_of (bytes_of width number) ≡ number
unfolding number_of bytes_of
number_of_bytes zero number h = omega arith
number_of_bytes (suc width) number h =
    let left : number / 256 < 256 ^ width = (div-lt_iff_lt-mul (zero-lt-suc 255)).1 (rw pow-suc at h) in
    omega (arith, number_of_bytes width (number / 256) left)

-- the bytes of the number of some bytes
pub bytes_of_number : (bytes : List ℕ) → ((k : ℕ) → get_or bytes k 0 < 256) → bytes_of (length bytes) (number_of bytes) ≡ bytes
unfolding number_of bytes_of
bytes_of_number [] h = refl
bytes_of_number (b ∷ bytes) h =
    let low : b < 256 = h 0 in
    let m : (b + 256 * number_of bytes) % 256 ≡ b = omega arith in
    let d : (b + 256 * number_of bytes) / 256 ≡ number_of bytes = omega arith in
    ap₂ (λ (x : ℕ) (xs : List ℕ). x ∷ xs) m (ap (bytes_of (length bytes)) d ∙ bytes_of_number bytes (λ k. h (suc k)))

-- so many bytes hold no larger number
pub number_fits : (bytes : List ℕ) → ((k : ℕ) → get_or bytes k 0 < 256) → number_of bytes < 256 ^ length bytes
unfolding number_of
number_fits [] h = omega arith
number_fits (b ∷ bytes) h =
    let low : b < 256 = h 0 in
    rw pow-suc (omega (arith, number_fits bytes (λ k. h (suc k))))

-- the bytes that are there, as an array with 0 for those that are not: as `from_le_bytes` sums them
pub two_in_array : (bytes array : List ℕ) → array ≡ sets (0 ∷ 0 ∷ []) 0 (take 2 bytes)
    → get_or array 0 0 + get_or array 1 0 * 256 ≡ number_of (take 2 bytes)
unfolding number_of
two_in_array [] array e = rw e
two_in_array (a ∷ []) array e = rw e (omega arith)
two_in_array (a ∷ b ∷ bytes) array e = rw e (omega arith)

pub four_in_array : (bytes array : List ℕ) → array ≡ sets (0 ∷ 0 ∷ 0 ∷ 0 ∷ []) 0 (take 4 bytes)
    → get_or array 0 0 + get_or array 1 0 * 256 + get_or array 2 0 * 65536 + get_or array 3 0 * 16777216 ≡ number_of (take 4 bytes)
unfolding number_of
four_in_array [] array e = rw e
four_in_array (a ∷ []) array e = rw e (omega arith)
four_in_array (a ∷ b ∷ []) array e = rw e (omega arith)
four_in_array (a ∷ b ∷ c ∷ []) array e = rw e (omega arith)
four_in_array (a ∷ b ∷ c ∷ d ∷ bytes) array e = rw e (omega arith)

pub four_read : (bytes array : List ℕ) (at sum : ℕ) → array ≡ sets (replicate 4 0) 0 (part at 4 bytes)
    → sum ≡ get_or array 0 0 + get_or array 1 0 * 256 + get_or array 2 0 * 65536 + get_or array 3 0 * 16777216
    → sum ≡ number_at at 4 bytes
four_read bytes array at sum e s = s ∙ four_in_array (drop at bytes) array e

-- each byte of a number is one
pub each_bytes_of : (width number : ℕ) → (k : ℕ) → get_or (bytes_of width number) k 0 < 256
unfolding bytes_of
each_bytes_of zero number k = omega arith
each_bytes_of (suc width) number zero = mod-lt number (zero-lt-suc 255)
each_bytes_of (suc width) number (suc k) = each_bytes_of width (number / 256) k

-- eight bytes are those of the low half, and then those of the high half
pub eight_of_halves : (low high : ℕ) → low < 4294967296 → bytes_of 8 (low + 4294967296 * high) ≡ bytes_of 4 low ++ bytes_of 4 high
unfolding bytes_of
eight_of_halves low high h =
    let first : (low + 4294967296 * high) / 256 ≡ low / 256 + 16777216 * high = omega arith in
    let second : (low / 256 + 16777216 * high) / 256 ≡ low / 256 / 256 + 65536 * high = omega arith in
    let third : (low / 256 / 256 + 65536 * high) / 256 ≡ low / 256 / 256 / 256 + 256 * high = omega arith in
    let fourth : (low / 256 / 256 / 256 + 256 * high) / 256 ≡ high = omega arith in
    let one : (low + 4294967296 * high) % 256 ≡ low % 256 = omega arith in
    let two : (low / 256 + 16777216 * high) % 256 ≡ low / 256 % 256 = omega arith in
    let three : (low / 256 / 256 + 65536 * high) % 256 ≡ low / 256 / 256 % 256 = omega arith in
    let four : (low / 256 / 256 / 256 + 256 * high) % 256 ≡ low / 256 / 256 / 256 % 256 = omega arith in
    rw (first, second, third, fourth, one, two, three, four)

-- and the number of the first eight is that of two fours
pub two_fours : (bytes : List ℕ) → number_at 0 8 bytes ≡ number_at 0 4 bytes + 4294967296 * number_at 4 4 bytes
unfolding number_of
two_fours [] = refl
two_fours (a ∷ []) = omega arith
two_fours (a ∷ b ∷ []) = omega arith
two_fours (a ∷ b ∷ c ∷ []) = omega arith
two_fours (a ∷ b ∷ c ∷ d ∷ []) = omega arith
two_fours (a ∷ b ∷ c ∷ d ∷ e ∷ []) = omega arith
two_fours (a ∷ b ∷ c ∷ d ∷ e ∷ f ∷ []) = omega arith
two_fours (a ∷ b ∷ c ∷ d ∷ e ∷ f ∷ g ∷ []) = omega arith
two_fours (a ∷ b ∷ c ∷ d ∷ e ∷ f ∷ g ∷ h ∷ bytes) = omega arith
