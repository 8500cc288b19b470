-- Bytes as arrays of so many: which bytes an array has, and the number that it stands for.
use mathlib.Core.Path.{◌≡◌, refl, sym, ap, ◌∙◌}
use mathlib.Core.List.{List, [], ◌∷◌}
use Prim.Native.Nat.{ℕ, zero, suc, ◌+◌, ◌*◌, ◌<◌, ◌≤◌}
use native.Mathlib.Nat.{le_of_suc-le-suc, not-suc-le-zero, zero-add, add-zero, add-suc, suc-add}
use native.Mathlib.Omega.{arith}
use lib.Bits.{bit_xor}
use lib.ListN.{length, get_or, take, drop}
use lib.Seq.{drop-drop, take_all}
use Rattle.std.specs.Simd.{first_chunks}
use Rattle.octets.specs.Number.{number_of, part}
use Rattle.checksum.specs.Checksum.{bits_on, checksum_from}
use Rattle.checksum.proofs.Parts.{as_number}

-- a table of the values of a function, and the value at a place of it
module _ {A : Type 0} where
  abbrev pub tabled : (ℕ → A) → ℕ → ℕ → List A
  tabled value from zero = []
  tabled value from (suc count) = value from ∷ tabled value (suc from) count

  pub tabled_at : (value : ℕ → A) (from count k : ℕ) (none : A) → k < count → get_or (tabled value from count) k none ≡ value (from + k)
  tabled_at value from zero k none h = absurd (not-suc-le-zero h)
  tabled_at value from (suc count) zero none h = rw add-zero
  tabled_at value from (suc count) (suc k) none h = tabled_at value (suc from) count k none (le_of_suc-le-suc h) ∙ rw (add-suc, ← suc-add)

-- what the bits of one half byte and of more, up to eight, make of each number below 16
abbrev pub halves : List (List ℕ)
halves = tabled (λ (more : ℕ). tabled (bits_on (4 * (more + 1))) 0 16) 0 8

pub half_at : (more half : ℕ) → more < 8 → half < 16 → get_or (get_or halves more []) half 0 ≡ bits_on (4 * (more + 1)) half
half_at more half few small =
    let row : get_or halves more [] ≡ tabled (bits_on (4 * (more + 1))) 0 16 =
    tabled_at (λ (n : ℕ). tabled (bits_on (4 * (n + 1))) 0 16) 0 8 more [] few ∙ ap (λ (n : ℕ). tabled (bits_on (4 * (n + 1))) 0 16) (zero-add more) in
    ap (λ (entries : List ℕ). get_or entries half 0) row
    ∙ tabled_at (bits_on (4 * (more + 1))) 0 16 half 0 small
    ∙ ap (bits_on (4 * (more + 1))) (zero-add half)

-- the array at a place has the bytes there
pub chunk_at : (size count : ℕ) (bytes : List ℕ) (i : ℕ) (none : List ℕ) → i < count → get_or (first_chunks size count bytes) i none ≡ part (size * i) size bytes
chunk_at size zero bytes i none h = absurd (not-suc-le-zero h)
chunk_at size (suc count) bytes zero none h = let e : size * 0 ≡ 0 = omega arith in rw e
chunk_at size (suc count) bytes (suc i) none h =
    let e : size + size * i ≡ size * suc i = omega arith in
    chunk_at size count (drop size bytes) i none (le_of_suc-le-suc h)
    ∙ ap (take size) (drop-drop (size * i) size bytes ∙ ap (λ (at : ℕ). drop at bytes) e)

-- the number of up to four bytes and up to eight, as `from_le_bytes` sums them
pub four_read : (four : List ℕ) → length four ≤ 4
    → get_or four 0 0 + get_or four 1 0 * 256 + get_or four 2 0 * 65536 + get_or four 3 0 * 16777216 ≡ number_of four
unfolding number_of
four_read [] h = refl
four_read (a ∷ []) h = omega arith
four_read (a ∷ b ∷ []) h = omega arith
four_read (a ∷ b ∷ c ∷ []) h = omega arith
four_read (a ∷ b ∷ c ∷ d ∷ []) h = omega arith
four_read (a ∷ b ∷ c ∷ d ∷ e ∷ more) h = absurd (omega arith)

pub eight_read : (eight : List ℕ) → length eight ≤ 8
    → get_or eight 0 0 + get_or eight 1 0 * 256 + get_or eight 2 0 * 65536 + get_or eight 3 0 * 16777216 + get_or eight 4 0 * 4294967296
    + get_or eight 5 0 * 1099511627776 + get_or eight 6 0 * 281474976710656 + get_or eight 7 0 * 72057594037927936
    ≡ number_of eight
unfolding number_of
eight_read [] h = refl
eight_read (a ∷ []) h = omega arith
eight_read (a ∷ b ∷ []) h = omega arith
eight_read (a ∷ b ∷ c ∷ []) h = omega arith
eight_read (a ∷ b ∷ c ∷ d ∷ []) h = omega arith
eight_read (a ∷ b ∷ c ∷ d ∷ e ∷ []) h = omega arith
eight_read (a ∷ b ∷ c ∷ d ∷ e ∷ f ∷ []) h = omega arith
eight_read (a ∷ b ∷ c ∷ d ∷ e ∷ f ∷ g ∷ []) h = omega arith
eight_read (a ∷ b ∷ c ∷ d ∷ e ∷ f ∷ g ∷ i ∷ []) h = omega arith
eight_read (a ∷ b ∷ c ∷ d ∷ e ∷ f ∷ g ∷ i ∷ j ∷ more) h = absurd (omega arith)

-- eight bytes go in one by one as their number does at once
pub eight_on : (sum : ℕ) (long : List ℕ) → length long ≡ 8 → ((k : ℕ) → get_or long k 0 < 256)
    → bits_on 64 (bit_xor sum (number_of long)) ≡ checksum_from sum long
eight_on sum long size small =
    let e : part 0 8 long ≡ long = take_all 8 long (omega (arith, size)) in
    sym (rw e at (as_number long small 8 sum 0 (omega (arith, size))))
