-- Going on over a part of some bytes: byte by byte, as a loop does, and as over one number.
use mathlib.Core.Path.{◌≡◌, sym, ap, ap₂, ◌∙◌}
use mathlib.Core.List.{List}
use Prim.Native.Nat.{ℕ, zero, suc, ◌+◌, ◌*◌, ◌<◌, ◌≤◌}
use native.Mathlib.Numerals.{add-one}
use native.Mathlib.Omega.{arith}
use lib.Bits.{bit_xor, xor_comm, xor_zero_r, xor_shifted}
use lib.ListN.{length, get_or, take, drop, take-append-drop}
use lib.Seq.{drop-cons, drop-drop, drop-length}
use Rattle.octets.specs.Number.{number_of, part, number_at}
use Rattle.checksum.specs.Checksum.{bits_on, byte_on, checksum_from}
use Rattle.checksum.proofs.Xor.{xor_assoc}
use Rattle.checksum.proofs.Steps.{bits_xor, bits_none, bits_add, bits_shifted}
use Rattle.checksum.proofs.Laws.{checksum_append}

-- a turn of the loop over bytes, and its end
pub byte_turn : (sum at : ℕ) (bytes : List ℕ) → at < length bytes
    → checksum_from sum (drop at bytes) ≡ checksum_from (byte_on sum (get_or bytes at 0)) (drop (at + 1) bytes)
unfolding checksum_from
byte_turn sum at bytes h = rw (add-one, drop-cons bytes at 0)

pub byte_end : (sum at : ℕ) (bytes : List ℕ) → at ≤ length bytes → length bytes ≤ at → checksum_from sum (drop at bytes) ≡ sum
unfolding checksum_from
byte_end sum at bytes h l =
    let e : at ≡ length bytes = omega arith in
    rw (e, drop-length bytes)

-- a byte goes in together with what stands above it
byte_and_more : (sum byte more : ℕ) → byte < 256 → bits_on 8 (bit_xor sum (byte + 256 * more)) ≡ bit_xor (byte_on sum byte) more
unfolding byte_on
byte_and_more sum byte more h =
    let e : byte + 256 * more ≡ more * 256 + byte = omega arith in
    ap (λ (x : ℕ). bits_on 8 (bit_xor sum x)) (e ∙ sym (xor_shifted more 8 byte h) ∙ xor_comm (more * 256) byte)
    ∙ ap (bits_on 8) (sym (xor_assoc sum byte (more * 256)))
    ∙ bits_xor 8 (bit_xor sum byte) (more * 256)
    ∙ ap (bit_xor (bits_on 8 (bit_xor sum byte))) (bits_shifted 8 more)

-- bytes go in one by one as their number does at once
pub as_number : (bytes : List ℕ) → ((k : ℕ) → get_or bytes k 0 < 256) → (count sum at : ℕ) → at + count ≤ length bytes
    → checksum_from sum (part at count bytes) ≡ bits_on (8 * count) (bit_xor sum (number_at at count bytes))
unfolding checksum_from number_of
as_number bytes small zero sum at h = sym (bits_none (bit_xor sum 0) ∙ xor_zero_r sum)
as_number bytes small (suc count) sum at h =
    let byte = get_or bytes at 0 in
    let more = number_at (suc at) count bytes in
    let inside : at < length bytes = omega arith in
    let all : 8 + 8 * count ≡ 8 * suc count = omega arith in
    rw (drop-cons bytes at 0)
    (as_number bytes small count (byte_on sum byte) (suc at) (omega arith)
    ∙ ap (bits_on (8 * count)) (sym (byte_and_more sum byte more (small at)))
    ∙ sym (bits_add 8 (8 * count) (bit_xor sum (byte + 256 * more)))
    ∙ ap (λ (n : ℕ). bits_on n (bit_xor sum (byte + 256 * more))) all)

-- a turn of the loop over words of four bytes
pub word_turn : (bytes : List ℕ) → ((k : ℕ) → get_or bytes k 0 < 256) → (sum at : ℕ) → at + 4 ≤ length bytes
    → checksum_from sum (drop at bytes) ≡ checksum_from (bits_on 32 (bit_xor sum (number_at at 4 bytes))) (drop (at + 4) bytes)
word_turn bytes small sum at h =
    ap (checksum_from sum) (sym (take-append-drop 4 (drop at bytes)))
    ∙ sym (checksum_append sum (take 4 (drop at bytes)) (drop 4 (drop at bytes)))
    ∙ ap₂ checksum_from (as_number bytes small 4 sum at h) (drop-drop 4 at bytes)
