-- `octets::storing::put_number` meets its contract: at each turn, storing the digits left makes the whole.
use mathlib.Core.Path.{sym, ◌∙◌}
use Prim.Native.Nat.{◌-◌}
use native.Mathlib.Omega.{arith}
use Rattle.octets.specs.Number.{bytes_of}
use Rattle.octets.proofs.StoreLaws.{store_digit, stored, no_digit}
use Rattle.octets.proofs.storing.put_number.Goals as goal

pub loop-i-preserved : goal.loop-i-preserved
loop-i-preserved c =
    let a = c.args in
    let l = c.loop-i in
    sym (store_digit l.area a.at l.i a.width l.rest (omega (arith, c.least-count.ensures))) ∙ l.invariant

pub returns : goal.returns
returns c =
    let a = c.args in
    let l = c.loop-i in
    sym (stored l.area a.at l.i a.width (bytes_of (a.width - l.i) l.rest) (no_digit a.width l.i l.rest) (omega (arith, c.least-count.ensures, c.room.ensures))) ∙ l.invariant
