-- `octets::comparing::differing` meets its contract: what was counted, and what differs of the bytes left, is what differs of all.
use Rattle.std.proofs.Common.{rules}
use Prim.Native.Nat.{ℕ, ◌+◌, ◌/◌, ◌≤◌}
use mathlib.Core.List.{List}
use native.Mathlib.Omega.{arith}
use mir.Syntax.{w8}
use mir.Val.{Fits}
use lib.Bits.{bit_xor, xor_lt}
use lib.ListN.{get_or, length}
use Rattle.std.proofs.lemmas.List.{length_push}
use Rattle.std.proofs.lemmas.Slice.Zip.{zip_turn, zip_end}
use Rattle.octets.proofs.AlikeLaws.{counted_here, rest_differs}
use Rattle.octets.proofs.comparing.differing.Goals as goal

-- what a turn adds, of bytes that the slices give
adds : (some others : List ℕ) (i : ℕ) → Fits w8 (get_or some i 0) → Fits w8 (get_or others i 0)
    → (bit_xor (get_or some i 0) (get_or others i 0) + 255) / 256 ≤ 1
adds some others i one other = omega (arith, xor_lt 8 (get_or some i 0) (get_or others i 0) one.fits other.fits)

pub loop-one-preserved : goal.loop-one-preserved
loop-one-preserved c =
    let a = c.args in
    let l = c.loop-one in
    let i = length l.yielded in
    let t = zip_turn a.some.now a.others.now l.yielded _ _ c.next.new.self _ (search rules) (search rules) l.yielded_by _ c.in-Some.is c.next.ensures.steps in
    let one = c.type_inv.some i in
    let other = c.type_inv.others i in
    rw (length_push, c.from.ensures, t.2 0, t.3 0) (
      omega (arith, l.invariant.0, adds a.some.now a.others.now i one other),
      omega (arith, l.invariant.1, counted_here a.some.now a.others.now i t.0 t.1 one.fits other.fits),
    )

pub returns : goal.returns
returns c =
    let a = c.args in
    let l = c.loop-one in
    let e = zip_end a.some.now a.others.now l.yielded _ _ c.next.new.self _ (search rules) (search rules) l.yielded_by c.in-None.is c.next.ensures.steps in
    omega (arith, c.abs_diff.ensures, rest_differs a.some.now a.others.now (length l.yielded) e, l.invariant.1)
