-- `octets::storing::put` meets its contract: at each turn, storing what is left of the bytes makes the whole.
use mathlib.Core.Path.{sym, ◌∙◌}
use native.Mathlib.Omega.{arith}
use lib.ListN.{length, drop, drop_of_length-le}
use Rattle.octets.proofs.StoreLaws.{stored}
use Rattle.octets.proofs.storing.put.Goals as goal

pub returns : goal.returns
returns c =
    let a = c.args in
    let l = c.loop-i in
    sym (stored l.area a.at l.i (length a.bytes.now) (drop l.i a.bytes.now) (drop_of_length-le a.bytes.now) (omega (arith, c.least-count.ensures, c.room.ensures))) ∙ l.invariant
