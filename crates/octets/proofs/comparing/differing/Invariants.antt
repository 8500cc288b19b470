-- `octets::comparing::differing` meets its contract: what was counted, and what differs of the bytes left, is what differs of all.
use mathlib.Core.Path.{◌≡◌}
use Prim.Native.Nat.{◌+◌, ◌≤◌}
use lib.ListN.{drop, length}
use Rattle.octets.specs.Alike.{differing}
use Rattle.octets.proofs.comparing.differing.Given as goal

abbrev pub invariant-loop-one : goal.invariant-loop-one
invariant-loop-one l =
    (l.count ≤ length l.yielded) × (l.count + differing (drop (length l.yielded) l.some) (drop (length l.yielded) l.others) ≡ differing l.some l.others)
