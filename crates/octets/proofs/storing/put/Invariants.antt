-- `octets::storing::put` meets its contract: at each turn, storing what is left of the bytes makes the whole.
use mathlib.Core.Path.{◌≡◌}
use Prim.Native.Nat.{◌+◌}
use lib.ListN.{drop}
use lib.Seq.{sets}
use Rattle.octets.proofs.storing.put.Given as goal

abbrev pub invariant-loop-i : goal.invariant-loop-i
invariant-loop-i l =
    sets l.area (l.at + l.i) (drop l.i l.bytes) ≡ sets l.initial.area l.at l.bytes
