-- `octets::hex::put_hex` meets its contract: at each turn, storing the text of what is left of the bytes makes the whole.
use mathlib.Core.Path.{◌≡◌}
use Prim.Native.Nat.{◌+◌, ◌*◌}
use lib.ListN.{drop}
use lib.Seq.{sets}
use Rattle.octets.specs.Hex.{hex_of}
use Rattle.octets.proofs.hex.put_hex.Given as goal

abbrev pub invariant-loop-i : goal.invariant-loop-i
invariant-loop-i l =
    sets l.area (l.at + 3 * l.i) (hex_of (drop l.i l.bytes)) ≡ sets l.initial.area l.at (hex_of l.bytes)
