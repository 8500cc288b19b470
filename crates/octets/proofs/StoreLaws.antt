-- Bytes stored from a place on.
use mathlib.Core.Path.{◌≡◌, refl, sym, ◌∙◌}
use mathlib.Core.List.{List, [], ◌∷◌, ◌++◌, append-nil, append_assoc}
use Prim.Native.Nat.{ℕ, suc, ◌+◌, ◌-◌, ◌/◌, ◌%◌, ◌≤◌, ◌<◌, min}
use mathlib.Core.Logic.{by_cases}
use native.Mathlib.Decide.{dec_le}
use native.Mathlib.Omega.{arith}
use lib.ListN.{length, take, drop, set, replicate, length-replicate}
use lib.Seq.{sets, sets-eq, set_out, drop-length, drop-drop}
use borrow.Rule.Slice.PartMut.{put_mid, mid_of, mid_len}
use Rattle.octets.specs.Number.{bytes_of}

-- past the end nothing is stored
pub sets_out : (area : List ℕ) (at : ℕ) (bytes : List ℕ) → length area ≤ at → sets area at bytes ≡ area
sets_out area at [] h = refl
sets_out area at (b ∷ bytes) h =
    rw (set_out area at b h) (sets_out area (suc at) bytes (omega arith))

-- A loop stores what is left of a number. One turn: its lowest byte, and then the others from the next place on.
pub store_digit : (area : List ℕ) (at i width rest : ℕ) → i < width
    → sets area (at + i) (bytes_of (width - i) rest) ≡ sets (set area (at + i) (rest % 256)) (at + (i + 1)) (bytes_of (width - (i + 1)) (rest / 256))
unfolding bytes_of
store_digit area at i width rest h =
    let e : at + (i + 1) ≡ suc (at + i) = omega arith in
    let n : width - i ≡ suc (width - (i + 1)) = omega arith in
    rw (e, n)

-- The loop ends where none is left, or no room: then the area is what storing the others leaves.
pub stored : (area : List ℕ) (at i count : ℕ) (left : List ℕ) → (count ≤ i → left ≡ []) → min count (length area - at) ≤ i
    → sets area (at + i) left ≡ area
stored area at i count left none h =
    by_cases (dec_le count i) (λ l. rw (none l)) (λ n. sets_out area (at + i) left (omega arith))

pub no_digit : (width i rest : ℕ) → width ≤ i → bytes_of (width - i) rest ≡ []
unfolding bytes_of
no_digit width i rest h = let e : width - i ≡ 0 = omega arith in rw e

-- stored over an area of its own size, some bytes are all that is left
pub stored_whole : (area bytes : List ℕ) → length area ≡ length bytes → sets area 0 bytes ≡ bytes
stored_whole area bytes e =
    let n : 0 + length bytes ≡ length area = omega arith in
    sets-eq bytes area 0 (omega arith) ∙ rw (n, drop-length) (append-nil bytes)

-- so stored over zeros, as many as they are
pub stored_over_zeros : (n : ℕ) (bytes : List ℕ) → length bytes ≡ n → bytes ≡ sets (replicate n 0) 0 bytes
stored_over_zeros n bytes e = sym (stored_whole (replicate n 0) bytes (length-replicate n 0 ∙ sym e))

-- two runs of bytes, one after the other, are one run
pub sets_join : (area : List ℕ) (at next : ℕ) (bytes more : List ℕ) → next ≡ at + length bytes
    → sets (sets area at bytes) next more ≡ sets area at (bytes ++ more)
sets_join area at next [] more e = let n : next ≡ at = omega arith in rw n
sets_join area at next (b ∷ bytes) more e = sets_join (set area at b) (suc at) next bytes more (omega arith)

-- what is stored from the start on, and what comes after it
pub stored_front : (area bytes : List ℕ) → length bytes ≤ length area → sets area 0 bytes ≡ bytes ++ drop (length bytes) area
stored_front area bytes h =
    let n : 0 + length bytes ≡ length bytes = omega arith in
    sets-eq bytes area 0 (omega arith) ∙ rw n

-- a part that was lent and comes back with other bytes, or filled: the same as storing them there
pub stored_part : (area bytes : List ℕ) (at end : ℕ) → at ≤ end → end ≤ length area → length bytes ≡ end - at
    → put_mid at (end - at) area bytes ≡ sets area at bytes
stored_part area bytes at end h u e =
    let n : at + length bytes ≡ at + (end - at) = omega arith in
    sym (sets-eq bytes area at (omega arith) ∙ rw (n, ← drop-drop (end - at) at area) (append_assoc (take at area) bytes (drop (end - at) (drop at area))))

pub filled_part : (area : List ℕ) (at end value : ℕ) → at ≤ end → end ≤ length area
    → put_mid at (end - at) area (replicate (length (mid_of at (end - at) area)) value) ≡ sets area at (replicate (end - at) value)
filled_part area at end value h u =
    let n : length (mid_of at (end - at) area) ≡ end - at = mid_len at end area u in
    rw n (stored_part area (replicate (end - at) value) at end h u (length-replicate (end - at) value))
