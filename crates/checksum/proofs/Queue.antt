-- Lanes that wait for their eight bytes: they start as an earlier value, what is in one may be taken out of it, and in the end
-- each goes in before its bytes.
use mathlib.Core.Path.{◌≡◌, refl, sym, ap, ◌∙◌}
use mathlib.Core.List.{List, [], ◌∷◌}
use Prim.Native.Nat.{ℕ, zero, suc, ◌+◌, ◌-◌, ◌*◌, ◌^◌, ◌<◌, ◌≤◌}
use native.Mathlib.Omega.{arith}
use lib.Bits.{bit_xor, xor_comm, xor_zero_r}
use lib.ListN.{length, get_or, take, drop, replicate, take-append-drop, length-drop, length-append}
use lib.Seq.{drop-drop}
use Rattle.octets.specs.Number.{part, number_at}
use Rattle.checksum.specs.Checksum.{bits_on, byte_on, checksum_from}
use Rattle.checksum.specs.Inside.{lanes_from, second_of, third_of, fourth_of, fifth_of}
use Rattle.checksum.proofs.Xor.{xor_assoc}
use Rattle.checksum.proofs.Steps.{bits_xor, bits_none, bits_add}
use Rattle.checksum.proofs.Laws.{checksum_append}
use Rattle.checksum.proofs.Parts.{as_number}
use Rattle.checksum.proofs.Sparse.{passed_on}

-- eight bytes and what follows them
long_first : (sum : ℕ) (bytes : List ℕ)
    → checksum_from (checksum_from sum (take 8 bytes)) (drop 8 bytes) ≡ checksum_from sum bytes
long_first sum bytes = checksum_append sum (take 8 bytes) (drop 8 bytes) ∙ ap (checksum_from sum) (take-append-drop 8 bytes)

-- lanes that are 0 change nothing
lanes_none : (count sum : ℕ) (bytes : List ℕ) → lanes_from sum (replicate count 0) bytes ≡ checksum_from sum bytes
unfolding lanes_from
lanes_none zero sum bytes = refl
lanes_none (suc count) sum bytes =
    lanes_none count (checksum_from (bit_xor sum 0) (take 8 bytes)) (drop 8 bytes)
    ∙ long_first (bit_xor sum 0) bytes
    ∙ ap (λ (x : ℕ). checksum_from x bytes) (xor_zero_r sum)

pub lanes_start : (earlier : ℕ) (bytes : List ℕ)
    → lanes_from 0 (earlier ∷ 0 ∷ 0 ∷ 0 ∷ 0 ∷ []) bytes ≡ checksum_from earlier bytes
unfolding lanes_from
lanes_start earlier bytes = lanes_none 4 (checksum_from earlier (take 8 bytes)) (drop 8 bytes) ∙ long_first earlier bytes

-- what is in a sum goes on by itself
sum_apart : (apart sum : ℕ) (bytes : List ℕ)
    → checksum_from (bit_xor apart sum) bytes ≡ bit_xor (bits_on (8 * length bytes) apart) (checksum_from sum bytes)
unfolding checksum_from byte_on
sum_apart apart sum [] = ap (λ (x : ℕ). bit_xor x sum) (sym (bits_none apart))
sum_apart apart sum (byte ∷ bytes) =
    let all : 8 + 8 * length bytes ≡ 8 * suc (length bytes) = omega arith in
    ap (λ (x : ℕ). checksum_from x bytes) (ap (bits_on 8) (xor_assoc apart sum byte) ∙ bits_xor 8 apart (bit_xor sum byte))
    ∙ sum_apart (bits_on 8 apart) (bits_on 8 (bit_xor sum byte)) bytes
    ∙ ap (λ (x : ℕ). bit_xor x (checksum_from (bits_on 8 (bit_xor sum byte)) bytes))
    (sym (bits_add 8 (8 * length bytes) apart) ∙ ap (λ (n : ℕ). bits_on n apart) all)

lanes_apart : (apart sum : ℕ) (lanes bytes : List ℕ)
    → lanes_from (bit_xor apart sum) lanes bytes ≡ bit_xor (bits_on (8 * length bytes) apart) (lanes_from sum lanes bytes)
unfolding lanes_from
lanes_apart apart sum [] bytes = sum_apart apart sum bytes
lanes_apart apart sum (lane ∷ lanes) bytes =
    let long = take 8 bytes in
    let rest = drop 8 bytes in
    let whole : length long + length rest ≡ length bytes = sym (length-append long rest) ∙ ap length (take-append-drop 8 bytes) in
    let all : 8 * length long + 8 * length rest ≡ 8 * length bytes = omega arith in
    ap (λ (x : ℕ). lanes_from x lanes rest)
    (ap (λ (x : ℕ). checksum_from x long) (xor_assoc apart sum lane) ∙ sum_apart apart (bit_xor sum lane) long)
    ∙ lanes_apart (bits_on (8 * length long) apart) (checksum_from (bit_xor sum lane) long) lanes rest
    ∙ ap (λ (x : ℕ). bit_xor x (lanes_from (checksum_from (bit_xor sum lane) long) lanes rest))
    (sym (bits_add (8 * length long) (8 * length rest) apart) ∙ ap (λ (n : ℕ). bits_on n apart) all)

-- what is in a lane goes on by itself, over so many bits
lane_apart : (apart sum lane : ℕ) (lanes bytes : List ℕ) (n : ℕ) → 8 * length bytes ≡ n
    → lanes_from sum (bit_xor lane apart ∷ lanes) bytes ≡ bit_xor (bits_on n apart) (lanes_from sum (lane ∷ lanes) bytes)
unfolding lanes_from
lane_apart apart sum lane lanes bytes n e =
    ap (λ (x : ℕ). lanes_from (checksum_from x (take 8 bytes)) lanes (drop 8 bytes))
    (sym (xor_assoc sum lane apart) ∙ xor_comm (bit_xor sum lane) apart ∙ sym (xor_assoc apart sum lane))
    ∙ lanes_apart apart sum (lane ∷ lanes) bytes
    ∙ ap (λ (k : ℕ). bit_xor (bits_on k apart) (lanes_from sum (lane ∷ lanes) bytes)) e

last_apart : (sum lane : ℕ) (bytes : List ℕ) (n : ℕ) → 8 * length bytes ≡ n
    → lanes_from sum (lane ∷ []) bytes ≡ bit_xor (bits_on n lane) (checksum_from sum bytes)
unfolding lanes_from
last_apart sum lane bytes n e =
    long_first (bit_xor sum lane) bytes
    ∙ ap (λ (x : ℕ). checksum_from x bytes) (xor_comm sum lane)
    ∙ sum_apart lane sum bytes
    ∙ ap (λ (k : ℕ). bit_xor (bits_on k lane) (checksum_from sum bytes)) e

-- of five lanes, what is in the second to the fifth
lanes_spread : (one two three four a b c d m : ℕ) (bytes : List ℕ) → 8 * length bytes ≡ 320 + m
    → lanes_from 0 (one ∷ bit_xor two a ∷ bit_xor three b ∷ bit_xor four c ∷ d ∷ []) bytes
    ≡ bit_xor (bit_xor (bits_on (256 + m) a) (bit_xor (bits_on (192 + m) b) (bit_xor (bits_on (128 + m) c) (bits_on (64 + m) d)))) (lanes_from 0 (one ∷ two ∷ three ∷ four ∷ []) bytes)
unfolding lanes_from
lanes_spread one two three four a b c d m bytes e =
    let bytes1 = drop 8 bytes in
    let bytes2 = drop 8 bytes1 in
    let bytes3 = drop 8 bytes2 in
    let bytes4 = drop 8 bytes3 in
    let e1 : 8 * length bytes1 ≡ 256 + m = rw length-drop (omega arith) in
    let e2 : 8 * length bytes2 ≡ 192 + m = rw length-drop (omega arith) in
    let e3 : 8 * length bytes3 ≡ 128 + m = rw length-drop (omega arith) in
    let e4 : 8 * length bytes4 ≡ 64 + m = rw length-drop (omega arith) in
    let sum1 = checksum_from (bit_xor 0 one) (take 8 bytes) in
    let sum2 = checksum_from (bit_xor sum1 two) (take 8 bytes1) in
    let sum3 = checksum_from (bit_xor sum2 three) (take 8 bytes2) in
    let sum4 = checksum_from (bit_xor sum3 four) (take 8 bytes3) in
    let a' = bits_on (256 + m) a in
    let b' = bits_on (192 + m) b in
    let c' = bits_on (128 + m) c in
    let d' = bits_on (64 + m) d in
    let left = checksum_from sum4 bytes4 in
    lane_apart a sum1 two (bit_xor three b ∷ bit_xor four c ∷ d ∷ []) bytes1 (256 + m) e1
    ∙ ap (bit_xor a')
    (lane_apart b sum2 three (bit_xor four c ∷ d ∷ []) bytes2 (192 + m) e2
    ∙ ap (bit_xor b')
    (lane_apart c sum3 four (d ∷ []) bytes3 (128 + m) e3 ∙ ap (bit_xor c') (last_apart sum4 d bytes4 (64 + m) e4)
    ∙ sym (xor_assoc c' d' left))
    ∙ sym (xor_assoc b' (bit_xor c' d') left))
    ∙ sym (xor_assoc a' (bit_xor b' (bit_xor c' d')) left)

-- a lane goes in before its bytes, up to the place of the next ones
pub lane_in : (bytes : List ℕ) (sum lane : ℕ) (lanes : List ℕ) (at next : ℕ) → at + 8 ≡ next
    → lanes_from sum (lane ∷ lanes) (drop at bytes) ≡ lanes_from (checksum_from (bit_xor sum lane) (part at 8 bytes)) lanes (drop next bytes)
unfolding lanes_from
lane_in bytes sum lane lanes at next e = rw (drop-drop 8 at bytes, e)

pub no_lane : (bytes : List ℕ) (sum at : ℕ) → lanes_from sum [] (drop at bytes) ≡ checksum_from sum (drop at bytes)
unfolding lanes_from
no_lane bytes sum at = refl

-- the end: each of five lanes goes in before its bytes, and nothing is passed on
pub lanes_end : (bytes : List ℕ) (i first second third fourth fifth sum1 sum2 sum3 sum4 sum5 : ℕ)
    → sum1 ≡ checksum_from (bit_xor 0 first) (part (8 * i) 8 bytes) → sum2 ≡ checksum_from (bit_xor sum1 second) (part (8 * (i + 1)) 8 bytes)
    → sum3 ≡ checksum_from (bit_xor sum2 third) (part (8 * (i + 2)) 8 bytes) → sum4 ≡ checksum_from (bit_xor sum3 fourth) (part (8 * (i + 3)) 8 bytes)
    → sum5 ≡ checksum_from (bit_xor sum4 fifth) (part (8 * (i + 4)) 8 bytes)
    → checksum_from sum5 (drop (8 * (i + 5)) bytes) ≡ lanes_from 0 (first ∷ second ∷ third ∷ fourth ∷ fifth ∷ []) (drop (8 * i) bytes)
lanes_end bytes i first second third fourth fifth sum1 sum2 sum3 sum4 sum5 e1 e2 e3 e4 e5 =
    rw (e5, e4, e3, e2, e1)
    (sym
    (lane_in bytes _ _ _ (8 * i) (8 * (i + 1)) (omega arith)
    ∙ lane_in bytes _ _ _ (8 * (i + 1)) (8 * (i + 2)) (omega arith)
    ∙ lane_in bytes _ _ _ (8 * (i + 2)) (8 * (i + 3)) (omega arith)
    ∙ lane_in bytes _ _ _ (8 * (i + 3)) (8 * (i + 4)) (omega arith)
    ∙ lane_in bytes _ _ _ (8 * (i + 4)) (8 * (i + 5)) (omega arith)
    ∙ no_lane bytes _ (8 * (i + 5))))

-- a turn: the first lane takes its bytes in, and what these leave to others goes into the lanes of those
pub lanes_turn : (bytes : List ℕ) → ((k : ℕ) → get_or bytes k 0 < 256)
    → (first second third fourth fifth at : ℕ) → at + 48 ≤ length bytes → bit_xor first (number_at at 8 bytes) < 2 ^ 64
    → lanes_from 0 (first ∷ second ∷ third ∷ fourth ∷ fifth ∷ []) (drop at bytes)
    ≡ lanes_from 0 (second ∷ bit_xor third (second_of (bit_xor first (number_at at 8 bytes))) ∷ bit_xor fourth (third_of (bit_xor first (number_at at 8 bytes))) ∷ bit_xor fifth (fourth_of (bit_xor first (number_at at 8 bytes))) ∷ fifth_of (bit_xor first (number_at at 8 bytes)) ∷ []) (drop (at + 8) bytes)
lanes_turn bytes small first second third fourth fifth at h fits =
    let w = bit_xor first (number_at at 8 bytes) in
    let rest = drop (at + 8) bytes in
    let lanes = second ∷ third ∷ fourth ∷ fifth ∷ [] in
    let m = 8 * length rest - 320 in
    let long : 40 ≤ length rest = rw length-drop (omega arith) in
    let bits : 8 * length rest ≡ 320 + m = omega arith in
    let all : 64 + 8 * length rest ≡ 384 + m = omega arith in
    lane_in bytes 0 first lanes at (at + 8) refl
    ∙ ap (λ (x : ℕ). lanes_from x lanes rest) (as_number bytes small 8 first at (omega arith) ∙ sym (xor_zero_r (bits_on 64 w)))
    ∙ lanes_apart (bits_on 64 w) 0 lanes rest
    ∙ ap (λ (x : ℕ). bit_xor x (lanes_from 0 lanes rest))
    (sym (bits_add 64 (8 * length rest) w) ∙ ap (λ (n : ℕ). bits_on n w) all ∙ passed_on m w fits)
    ∙ sym (lanes_spread second third fourth fifth (second_of w) (third_of w) (fourth_of w) (fifth_of w) m rest bits)
