-- `checksum::lanes::by_lanes` meets its contract: what the lanes make of the bytes left is what the earlier value makes of all.
use mathlib.Core.Path.{◌≡◌}
use mathlib.Core.List.{[], ◌∷◌}
use Prim.Native.Nat.{◌*◌}
use lib.ListN.{drop}
use Rattle.checksum.specs.Checksum.{checksum_from}
use Rattle.checksum.specs.Inside.{lanes_from}
use Rattle.checksum.proofs.lanes.by_lanes.Given as goal

abbrev pub invariant-loop-eight : goal.invariant-loop-eight
invariant-loop-eight l =
    lanes_from 0 (l.first ∷ l.second ∷ l.third ∷ l.fourth ∷ l.fifth ∷ []) (drop (8 * l.eight-index) l.bytes) ≡ checksum_from l.earlier l.bytes
