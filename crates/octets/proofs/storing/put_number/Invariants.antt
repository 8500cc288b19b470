-- `octets::storing::put_number` meets its contract: at each turn, storing the digits left makes the whole.
use mathlib.Core.Path.{◌≡◌}
use Prim.Native.Nat.{◌+◌, ◌-◌}
use lib.Seq.{sets}
use Rattle.octets.specs.Number.{bytes_of}
use Rattle.octets.proofs.storing.put_number.Given as goal

abbrev pub invariant-loop-i : goal.invariant-loop-i
invariant-loop-i l =
    sets l.area (l.at + l.i) (bytes_of (l.width - l.i) l.rest) ≡ sets l.initial.area l.at (bytes_of l.width l.number)
