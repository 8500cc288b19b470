-- `checksum::lanes::by_lanes` meets its contract: what the lanes make of the bytes left is what the earlier value makes of all.
use mathlib.Core.Path.{◌≡◌, sym, ap, ◌∙◌}
use mathlib.Core.List.{List, []}
use Prim.Native.Nat.{ℕ, ◌+◌, ◌-◌, ◌*◌, ◌/◌, ◌^◌, ◌<◌, ◌≤◌}
use native.Mathlib.Omega.{arith}
use lib.Bits.{bit_xor, xor_lt}
use lib.ListN.{length, get_or, drop}
use lib.Seq.{get_or-take, get_or-drop}
use Rattle.octets.specs.Number.{number_of, part, number_at}
use Rattle.octets.proofs.Parts.{length_part}
use Rattle.checksum.specs.Checksum.{checksum_from}
use Rattle.checksum.proofs.Queue.{lanes_start, lanes_turn, lanes_end}
use Rattle.checksum.proofs.Chunks.{chunk_at, eight_read}
use Rattle.checksum.proofs.lanes.by_lanes.Goals as goal

pub loop-eight-init : goal.loop-eight-init
loop-eight-init c = rw c.from-first.ensures (lanes_start c.args.earlier c.args.bytes.now)

pub loop-eight-preserved : goal.loop-eight-preserved
loop-eight-preserved c =
    let bytes = c.args.bytes.now in
    let longs = c.as_chunks.result.0.now in
    let lanes = c.loop-eight in
    let i = lanes.eight-index in
    let split = c.in-Some.ensures.cases in
    let five : i + 5 < length bytes / 8 = omega (arith, c.loop-eight-test.true, c.as_chunks.ensures.front_len, split.2) in
    let whole : 8 * i + 48 ≤ length bytes = omega arith in
    let next : 8 * (i + 1) ≡ 8 * i + 8 = omega arith in
    let eight = get_or c.in-Some.most.now i [] in
    let item : eight ≡ part (8 * i) 8 bytes =
    ap (λ (most : List (List ℕ)). get_or most i []) split.0
    ∙ get_or-take (length longs - 5) longs i [] (omega (arith, five, c.as_chunks.ensures.front_len))
    ∙ ap (λ (all : List (List ℕ)). get_or all i []) c.as_chunks.ensures.front
    ∙ chunk_at 8 (length bytes / 8) bytes i [] (omega arith) in
    let number : c.from_le_bytes.result ≡ number_at (8 * i) 8 bytes =
    c.from_le_bytes.ensures ∙ eight_read eight (rw (item, length_part (8 * i) 8 bytes (omega arith)) (omega arith)) ∙ ap number_of item in
    let fits : bit_xor lanes.first (number_at (8 * i) 8 bytes) < 2 ^ 64 =
    rw (← number) (xor_lt 64 lanes.first c.from_le_bytes.result lanes.auto.first-fits.fits c.from_le_bytes.type_inv) in
    rw (next, c.fifth_of-fifth.ensures, c.fourth_of.ensures, c.third_of.ensures, c.second_of.ensures, number)
    (sym
    (lanes_turn bytes (λ k. (c.type_inv.bytes k).fits) lanes.first lanes.second lanes.third lanes.fourth lanes.fifth (8 * i) whole fits)
    ∙ lanes.invariant)

pub returns : goal.returns
returns c =
    let bytes = c.args.bytes.now in
    let longs = c.as_chunks.result.0.now in
    let lanes = c.loop-eight in
    let i = lanes.eight-index in
    let split = c.in-Some.ensures.cases in
    let size = c.as_chunks.ensures.front_len in
    let first : length longs - 5 ≡ i = omega (arith, c.loop-eight-test.false, lanes.auto.eight-index-end, split.2) in
    let item : (j : ℕ) → j < 5 → get_or c.in-Some.last.now j [] ≡ part (8 * (i + j)) 8 bytes =
    λ j few.
    ap (λ (last : List (List ℕ)). get_or last j []) split.1
    ∙ get_or-drop (length longs - 5) longs j []
    ∙ ap (λ (n : ℕ). get_or longs (n + j) []) first
    ∙ ap (λ (all : List (List ℕ)). get_or all (i + j) []) c.as_chunks.ensures.front
    ∙ chunk_at 8 (length bytes / 8) bytes (i + j) [] (omega (arith, size, split.2, first, few)) in
    let start : 8 * (i + 0) ≡ 8 * i = omega arith in
    let rest : c.as_chunks.result.1.now ≡ drop (8 * (i + 5)) bytes =
    c.as_chunks.ensures.back ∙ ap (λ (at : ℕ). drop at bytes) (omega (arith, size, split.2, first)) in
    c.by_words-2.ensures
    ∙ ap (checksum_from c.lane_in-sum-5.result) rest
    ∙ lanes_end bytes i lanes.first lanes.second lanes.third lanes.fourth lanes.fifth _ _ _ _ _
    (c.lane_in-sum.ensures ∙ ap (checksum_from (bit_xor 0 lanes.first)) (item 0 (omega arith) ∙ ap (λ (at : ℕ). part at 8 bytes) start))
    (c.lane_in-sum-2.ensures ∙ ap (checksum_from (bit_xor c.lane_in-sum.result lanes.second)) (item 1 (omega arith)))
    (c.lane_in-sum-3.ensures ∙ ap (checksum_from (bit_xor c.lane_in-sum-2.result lanes.third)) (item 2 (omega arith)))
    (c.lane_in-sum-4.ensures ∙ ap (checksum_from (bit_xor c.lane_in-sum-3.result lanes.fourth)) (item 3 (omega arith)))
    (c.lane_in-sum-5.ensures ∙ ap (checksum_from (bit_xor c.lane_in-sum-4.result lanes.fifth)) (item 4 (omega arith)))
    ∙ lanes.invariant
