-- So many bits of the checksum: they go over exclusive or, one count after another, and fit 32 bits.
use mathlib.Core.Path.{◌≡◌, refl, sym, ap, ap₂, ◌∙◌}
use Prim.Native.Nat.{ℕ, zero, suc, ◌+◌, ◌*◌, ◌/◌, ◌%◌, ◌^◌, ◌<◌}
use native.Mathlib.Nat.{mod-lt, mul-one, zero-add, suc-add}
use native.Mathlib.Omega.{arith}
use lib.Bits.{bit_xor, xor_shr, xor_mod, xor_comm, xor_zero_r, xor_lt, xor_shifted, shifted_half, shifted_even}
use lib.Pow.{split, pow_pos}
use Rattle.checksum.specs.Checksum.{polynomial, bit_on, bits_on}
use Rattle.checksum.proofs.Xor.{lowest_bit, xor_regroup}

-- a bit of an exclusive or
polynomial_xor : (a b : ℕ) → bit_xor (a % 2) (b % 2) * polynomial ≡ bit_xor (a % 2 * polynomial) (b % 2 * polynomial)
polynomial_xor a b =
    lowest_bit (λ x. bit_xor x (b % 2) * polynomial ≡ bit_xor (x * polynomial) (b % 2 * polynomial))
    (lowest_bit (λ y. bit_xor 0 y * polynomial ≡ bit_xor (0 * polynomial) (y * polynomial)) refl refl b)
    (lowest_bit (λ y. bit_xor 1 y * polynomial ≡ bit_xor (1 * polynomial) (y * polynomial)) refl refl b)
    a

bit_xor_lem : (a b : ℕ) → bit_on (bit_xor a b) ≡ bit_xor (bit_on a) (bit_on b)
unfolding bit_on
bit_xor_lem a b =
    ap₂ (λ (x y : ℕ). bit_xor x (y * polynomial)) (xor_shr a b 1) (xor_mod a b 1)
    ∙ ap (bit_xor (bit_xor (a / 2) (b / 2))) (polynomial_xor a b)
    ∙ xor_regroup (a / 2) (b / 2) (a % 2 * polynomial) (b % 2 * polynomial)

pub bits_xor : (n a b : ℕ) → bits_on n (bit_xor a b) ≡ bit_xor (bits_on n a) (bits_on n b)
unfolding bits_on
bits_xor zero a b = refl
bits_xor (suc n) a b = ap (bits_on n) (bit_xor_lem a b) ∙ bits_xor n (bit_on a) (bit_on b)

pub bits_none : (x : ℕ) → bits_on 0 x ≡ x
unfolding bits_on
bits_none x = refl

-- one count of bits after another
pub bits_add : (m n x : ℕ) → bits_on (m + n) x ≡ bits_on n (bits_on m x)
unfolding bits_on
bits_add zero n x = ap (λ (k : ℕ). bits_on k x) (zero-add n)
bits_add (suc m) n x = ap (λ (k : ℕ). bits_on k x) (suc-add m n) ∙ bits_add m n (bit_on x)

-- n bits take a number that stands n bits up back down, and nothing falls out
pub bits_shifted : (n a : ℕ) → bits_on n (a * 2 ^ n) ≡ a
unfolding bits_on bit_on
bits_shifted zero a = mul-one a
bits_shifted (suc n) a =
    ap₂ (λ (x y : ℕ). bits_on n (bit_xor x (y * polynomial))) (shifted_half a n) (shifted_even a n)
    ∙ ap (bits_on n) (xor_zero_r (a * 2 ^ n))
    ∙ bits_shifted n a

-- the low k bits by themselves, and the rest, which the first k bits only move down
pub bits_split : (k n x : ℕ) → bits_on (k + n) x ≡ bit_xor (bits_on (k + n) (x % 2 ^ k)) (bits_on n (x / 2 ^ k))
bits_split k n x =
    ap (bits_on (k + n)) (sym (xor_shifted (x / 2 ^ k) k (x % 2 ^ k) (mod-lt x (pow_pos k)) ∙ split x k))
    ∙ bits_xor (k + n) (x / 2 ^ k * 2 ^ k) (x % 2 ^ k)
    ∙ xor_comm (bits_on (k + n) (x / 2 ^ k * 2 ^ k)) (bits_on (k + n) (x % 2 ^ k))
    ∙ ap (bit_xor (bits_on (k + n) (x % 2 ^ k)))
    (bits_add k n (x / 2 ^ k * 2 ^ k) ∙ ap (bits_on n) (bits_shifted k (x / 2 ^ k)))

-- eight bits by half bytes
pub eight_by_halves : (x : ℕ) → bits_on 8 x ≡ bit_xor (bits_on 8 (x % 16)) (bit_xor (bits_on 4 (x / 16 % 16)) (x / 256))
eight_by_halves x =
    let above : x / 16 / 16 ≡ x / 256 = omega arith in
    bits_split 4 4 x
    ∙ ap (bit_xor (bits_on 8 (x % 16)))
    (bits_split 4 0 (x / 16) ∙ ap (bit_xor (bits_on 4 (x / 16 % 16))) (bits_none (x / 16 / 16) ∙ above))

-- a number of two bytes and one of four by half bytes
pub sixteen_by_halves : (x : ℕ)
    → bits_on 16 x ≡ bit_xor (bits_on 16 (x % 16)) (bit_xor (bits_on 12 (x / 16 % 16)) (bit_xor (bits_on 8 (x / 256 % 16)) (bits_on 4 (x / 4096))))
sixteen_by_halves x =
    let two : x / 16 / 16 ≡ x / 256 = omega arith in
    let three : x / 256 / 16 ≡ x / 4096 = omega arith in
    bits_split 4 12 x
    ∙ ap (bit_xor (bits_on 16 (x % 16)))
    (bits_split 4 8 (x / 16)
    ∙ ap (bit_xor (bits_on 12 (x / 16 % 16)))
    (ap (bits_on 8) two ∙ bits_split 4 4 (x / 256) ∙ ap (λ (y : ℕ). bit_xor (bits_on 8 (x / 256 % 16)) (bits_on 4 y)) three))

pub word_by_halves : (x : ℕ)
    → bits_on 32 x ≡ bit_xor (bits_on 32 (x % 16)) (bit_xor (bits_on 28 (x / 16 % 16)) (bit_xor (bits_on 24 (x / 256 % 16)) (bit_xor (bits_on 20 (x / 4096 % 16)) (bits_on 16 (x / 65536)))))
word_by_halves x =
    let two : x / 16 / 16 ≡ x / 256 = omega arith in
    let three : x / 256 / 16 ≡ x / 4096 = omega arith in
    let four : x / 4096 / 16 ≡ x / 65536 = omega arith in
    bits_split 4 28 x
    ∙ ap (bit_xor (bits_on 32 (x % 16)))
    (bits_split 4 24 (x / 16)
    ∙ ap (bit_xor (bits_on 28 (x / 16 % 16)))
    (ap (bits_on 24) two
    ∙ bits_split 4 20 (x / 256)
    ∙ ap (bit_xor (bits_on 24 (x / 256 % 16)))
    (ap (bits_on 20) three
    ∙ bits_split 4 16 (x / 4096)
    ∙ ap (λ (y : ℕ). bit_xor (bits_on 20 (x / 4096 % 16)) (bits_on 16 y)) four)))

-- eight bytes by words: what the lower one leaves goes into the higher one
pub long_by_words : (x : ℕ) → bits_on 64 x ≡ bits_on 32 (bit_xor (bits_on 32 (x % 2 ^ 32)) (x / 2 ^ 32))
long_by_words x =
    bits_split 32 32 x
    ∙ ap (λ (y : ℕ). bit_xor y (bits_on 32 (x / 2 ^ 32))) (bits_add 32 32 (x % 2 ^ 32))
    ∙ sym (bits_xor 32 (bits_on 32 (x % 2 ^ 32)) (x / 2 ^ 32))

-- a number that moves up, in two pieces: what fits, and what goes over into the next place
pub bits_moved : (up down n x : ℕ)
    → bit_xor (bits_on (up + (down + n)) (x % 2 ^ down * 2 ^ up)) (bits_on n (x / 2 ^ down)) ≡ bits_on (down + n) x
bits_moved up down n x =
    ap (λ (y : ℕ). bit_xor y (bits_on n (x / 2 ^ down)))
    (bits_add up (down + n) (x % 2 ^ down * 2 ^ up) ∙ ap (bits_on (down + n)) (bits_shifted up (x % 2 ^ down)))
    ∙ sym (bits_split down n x)

pub bits_fit : (n x : ℕ) → x < 2 ^ 32 → bits_on n x < 2 ^ 32
unfolding bits_on bit_on
bits_fit zero x h = h
bits_fit (suc n) x h = bits_fit n (bit_on x) (xor_lt 32 (x / 2) (x % 2 * polynomial) (omega arith) (omega arith))

-- eight bytes fit 32 bits after as many
pub long_fits : (n x : ℕ) → x < 2 ^ 64 → bits_on (32 + n) x < 2 ^ 32
long_fits n x h =
    rw (bits_add 32 n x)
    (bits_fit n (bits_on 32 x)
    (rw (bits_split 32 0 x)
    (xor_lt 32 (bits_on 32 (x % 2 ^ 32)) (bits_on 0 (x / 2 ^ 32)) (bits_fit 32 (x % 2 ^ 32) (mod-lt x (pow_pos 32)))
    (rw bits_none (omega arith)))))
