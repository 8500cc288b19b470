-- A loop stores the text of what is left of some bytes.
use mathlib.Core.Path.{◌≡◌, refl, sym}
use mathlib.Core.List.{List, [], ◌∷◌}
use mathlib.Core.Logic.{by_cases}
use Prim.Native.Nat.{ℕ, suc, ◌+◌, ◌-◌, ◌*◌, ◌/◌, ◌≤◌, ◌<◌, min}
use native.Mathlib.Numerals.{add-one}
use native.Mathlib.Decide.{dec_le}
use native.Mathlib.Omega.{arith}
use lib.ListN.{length, get_or, drop, drop_of_length-le}
use lib.Seq.{sets, drop-cons}
use Rattle.octets.proofs.StoreLaws.{sets_out, sets_join}
use Rattle.octets.specs.Hex.{text_of, hex_of}

-- one turn: the text of the first byte, and then that of the others from the next place on
pub text_next : (area : List ℕ) (at i : ℕ) (bytes : List ℕ) → i < length bytes
    → sets area (at + 3 * i) (hex_of (drop i bytes))
    ≡ sets (sets area (at + 3 * i) (text_of (get_or bytes i 0))) (at + 3 * (i + 1)) (hex_of (drop (i + 1) bytes))
unfolding hex_of
text_next area at i bytes h =
    rw (add-one, drop-cons bytes i 0)
    (sym (sets_join area (at + 3 * i) (at + 3 * suc i) (text_of (get_or bytes i 0)) (hex_of (drop (suc i) bytes)) (omega arith)))

-- the end: no byte is left, or no room
pub text_done : (area : List ℕ) (at i : ℕ) (bytes : List ℕ) → min (length bytes) ((length area - at) / 3 + 1) ≤ i
    → sets area (at + 3 * i) (hex_of (drop i bytes)) ≡ area
unfolding hex_of
text_done area at i bytes h =
    by_cases (dec_le (length bytes) i)
    (λ l. rw (drop_of_length-le bytes l))
    (λ n. sets_out area (at + 3 * i) (hex_of (drop i bytes)) (omega arith))

-- three characters a byte
pub length_hex : (bytes : List ℕ) → length (hex_of bytes) ≡ 3 * length bytes
unfolding hex_of
length_hex [] = refl
length_hex (byte ∷ bytes) = omega (arith, length_hex bytes)
