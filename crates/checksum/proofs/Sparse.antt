-- Four bits for one: where a bit stands, the bits 145, 183, 211 and 300 places further on make the same of the checksum.
use mathlib.Core.Path.{◌≡◌, refl, sym, ap, ap₂, ◌∙◌}
use mathlib.Core.Logic.{dite}
use Prim.Native.Nat.{ℕ, zero, suc, ◌+◌, ◌-◌, ◌*◌, ◌/◌, ◌%◌, ◌^◌, ◌<◌, ◌≤◌}
use native.Mathlib.Nat.{add_comm, one-mul, pow-suc}
use native.Mathlib.Omega.{arith}
use native.Mathlib.Decide.{dec_lt}
use lib.Bits.{bit_xor, xor_shifted}
use lib.Pow.{pow-add}
use Rattle.checksum.specs.Checksum.{bit_on, bits_on}
use Rattle.checksum.specs.Inside.{second_of, third_of, fourth_of, fifth_of}
use Rattle.checksum.proofs.Xor.{xor_assoc, xor_regroup}
use Rattle.checksum.proofs.Steps.{bits_xor, bits_add, bits_shifted, bits_moved, long_fits}

-- what four bits are left to: the others after 145, 183, 211 and 300 of 300
abbrev four : ℕ → ℕ
four x = bit_xor (bits_on 155 x) (bit_xor (bits_on 117 x) (bit_xor (bits_on 89 x) x))

abbrev Same : ℕ → Type 0
Same x = bits_on 300 x ≡ four x

four_xor : (a b : ℕ) → bit_xor (four a) (four b) ≡ four (bit_xor a b)
four_xor a b =
    xor_regroup (bits_on 155 a) _ (bits_on 155 b) _
    ∙ ap₂ bit_xor (sym (bits_xor 155 a b))
    (xor_regroup (bits_on 117 a) _ (bits_on 117 b) _
    ∙ ap₂ bit_xor (sym (bits_xor 117 a b))
    (xor_regroup (bits_on 89 a) a (bits_on 89 b) b ∙ ap (λ (x : ℕ). bit_xor x (bit_xor a b)) (sym (bits_xor 89 a b))))

bits_swap : (m n x : ℕ) → bits_on m (bits_on n x) ≡ bits_on n (bits_on m x)
bits_swap m n x = sym (bits_add n m x) ∙ ap (λ (k : ℕ). bits_on k x) (add_comm n m) ∙ bits_add m n x

four_bits : (n x : ℕ) → bits_on n (four x) ≡ four (bits_on n x)
four_bits n x =
    bits_xor n (bits_on 155 x) _
    ∙ ap₂ bit_xor (bits_swap n 155 x)
    (bits_xor n (bits_on 117 x) _
    ∙ ap₂ bit_xor (bits_swap n 117 x)
    (bits_xor n (bits_on 89 x) x ∙ ap (λ (y : ℕ). bit_xor y (bits_on n x)) (bits_swap n 89 x)))

same_xor : (a b : ℕ) → Same a → Same b → Same (bit_xor a b)
same_xor a b p q = bits_xor 300 a b ∙ ap₂ bit_xor p q ∙ four_xor a b

same_bits : (n x : ℕ) → Same x → Same (bits_on n x)
same_bits n x p = bits_swap 300 n x ∙ ap (bits_on n) p ∙ four_bits n x

-- computed for the highest bit; the others are what it becomes
same_highest : Same (2 ^ 31)
unfolding bits_on bit_on
same_highest = refl

same_zero : Same 0
unfolding bits_on bit_on
same_zero = refl

same_power : (k : ℕ) → k ≤ 31 → Same (2 ^ k)
same_power k h =
    let e : 31 ≡ k + (31 - k) = omega arith in
    let whole : 2 ^ 31 ≡ 2 ^ k * 2 ^ (31 - k) = ap (λ (n : ℕ). 2 ^ n) e ∙ pow-add 2 k (31 - k) in
    let down : bits_on (31 - k) (2 ^ 31) ≡ 2 ^ k = ap (bits_on (31 - k)) whole ∙ bits_shifted (31 - k) (2 ^ k) in
    rw down at (same_bits (31 - k) (2 ^ 31) same_highest)

same_below : (k x : ℕ) → k ≤ 32 → x < 2 ^ k → Same x
same_below zero x l h =
    let none : x ≡ 0 = omega arith in
    rw none same_zero
same_below (suc k) x l h = dite (dec_lt x (2 ^ k)) (same_below k x (omega arith)) (above (λ y. same_below k y (omega arith)))
  where
    above : ((y : ℕ) → y < 2 ^ k → Same y) → (x < 2 ^ k → ⊥) → Same x
    above below n =
        let twice : x < 2 ^ k * 2 = rw pow-suc at h in
        let rest : x - 2 ^ k < 2 ^ k = omega arith in
        let sum : 2 ^ k + (x - 2 ^ k) ≡ x = omega arith in
        let whole : bit_xor (2 ^ k) (x - 2 ^ k) ≡ x = (rw one-mul at (xor_shifted 1 k (x - 2 ^ k) rest)) ∙ sum in
        rw whole at (same_xor (2 ^ k) (x - 2 ^ k) (same_power k (omega arith)) (below (x - 2 ^ k) rest))

-- what is left to four bits by four numbers in a row, sorted by bits
sorted : (a a' b b' b'' c c' d : ℕ)
    → bit_xor (bit_xor a a') (bit_xor (bit_xor b (bit_xor b' b'')) (bit_xor (bit_xor c c') d))
    ≡ bit_xor (bit_xor a b) (bit_xor (bit_xor a' b') (bit_xor (bit_xor b'' c) (bit_xor c' d)))
sorted a a' b b' b'' c c' d =
    ap (bit_xor (bit_xor a a')) (xor_assoc b (bit_xor b' b'') (bit_xor (bit_xor c c') d))
    ∙ xor_regroup a a' b (bit_xor (bit_xor b' b'') (bit_xor (bit_xor c c') d))
    ∙ ap (bit_xor (bit_xor a b))
    (ap (bit_xor a') (xor_assoc b' b'' (bit_xor (bit_xor c c') d))
    ∙ sym (xor_assoc a' b' (bit_xor b'' (bit_xor (bit_xor c c') d)))
    ∙ ap (bit_xor (bit_xor a' b')) (ap (bit_xor b'') (xor_assoc c c' d) ∙ sym (xor_assoc b'' c (bit_xor c' d))))

-- bits after bits, where the counts make a third
after : (m n all x : ℕ) → m + n ≡ all → bits_on n (bits_on m x) ≡ bits_on all x
after m n all x e = sym (bits_add m n x) ∙ ap (λ (k : ℕ). bits_on k x) e

-- 384 bits and more make of eight bytes what as many make of all that they leave to those that follow
pub passed_on : (m w : ℕ) → w < 2 ^ 64
    → bits_on (384 + m) w
    ≡ bit_xor (bits_on (256 + m) (second_of w)) (bit_xor (bits_on (192 + m) (third_of w)) (bit_xor (bits_on (128 + m) (fourth_of w)) (bits_on (64 + m) (fifth_of w))))
unfolding second_of third_of fourth_of fifth_of
passed_on m w h =
    let a = w * 2 ^ 17 % 2 ^ 64 in
    let a' = w * 2 ^ 55 % 2 ^ 64 in
    let b = w / 2 ^ 47 in
    let b' = w / 2 ^ 9 in
    let b'' = w * 2 ^ 19 % 2 ^ 64 in
    let c = w / 2 ^ 45 in
    let c' = w * 2 ^ 44 % 2 ^ 64 in
    let d = w / 2 ^ 20 in
    let more : 84 + m ≡ 32 + (52 + m) = omega arith in
    let fits : bits_on (84 + m) w < 2 ^ 32 = rw more (long_fits (52 + m) w h) in
    sym (after (84 + m) 300 (384 + m) w (omega arith))
    ∙ same_below 32 (bits_on (84 + m) w) (omega arith) fits
    ∙ ap₂ bit_xor (after (84 + m) 155 (47 + (192 + m)) w (omega arith) ∙ sym (moved 17 47 (192 + m) (256 + m) (omega arith) (omega arith)))
    (ap₂ bit_xor (after (84 + m) 117 (9 + (192 + m)) w (omega arith) ∙ sym (moved 55 9 (192 + m) (256 + m) (omega arith) (omega arith)))
    (ap₂ bit_xor (after (84 + m) 89 (45 + (128 + m)) w (omega arith) ∙ sym (moved 19 45 (128 + m) (192 + m) (omega arith) (omega arith)))
    (ap (λ (n : ℕ). bits_on n w) (omega arith) ∙ sym (moved 44 20 (64 + m) (128 + m) (omega arith) (omega arith)))))
    ∙ sym (sorted (bits_on (256 + m) a) (bits_on (256 + m) a') (bits_on (192 + m) b) (bits_on (192 + m) b') (bits_on (192 + m) b'')
    (bits_on (128 + m) c) (bits_on (128 + m) c') (bits_on (64 + m) d))
    ∙ sym
    (ap₂ bit_xor (bits_xor (256 + m) a a')
    (ap₂ bit_xor (bits_xor (192 + m) b (bit_xor b' b'') ∙ ap (bit_xor (bits_on (192 + m) b)) (bits_xor (192 + m) b' b''))
    (ap (λ (x : ℕ). bit_xor x (bits_on (64 + m) d)) (bits_xor (128 + m) c c'))))
  where
    moved : (up down n all : ℕ) → up + (down + n) ≡ all → w * 2 ^ up % 2 ^ 64 ≡ w % 2 ^ down * 2 ^ up
        → bit_xor (bits_on all (w * 2 ^ up % 2 ^ 64)) (bits_on n (w / 2 ^ down)) ≡ bits_on (down + n) w
    moved up down n all e what_fits =
        ap₂ (λ (k x : ℕ). bit_xor (bits_on k x) (bits_on n (w / 2 ^ down))) (sym e) what_fits ∙ bits_moved up down n w
