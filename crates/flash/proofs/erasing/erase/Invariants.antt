-- `flash::erasing::erase` meets its contract: at each turn, erasing the sectors left makes the whole.
use mathlib.Core.Path.{◌≡◌}
use Prim.Native.Nat.{◌+◌, ◌-◌}
use lib.ListN.{length}
use Rattle.flash.specs.Erasing.{erase_of}
use Rattle.flash.proofs.erasing.erase.Given as goal

abbrev pub invariant-loop-sector : goal.invariant-loop-sector
invariant-loop-sector l =
    (length l.memory ≡ length l.initial.memory)
    × (erase_of l.sectors.size l.sectors.protection.now l.sector l.last_there l.memory ≡ erase_of l.sectors.size l.sectors.protection.now l.first l.last l.initial.memory)

abbrev pub decreases-loop-sector : goal.decreases-loop-sector
decreases-loop-sector l = l.last_there + 1 - l.sector
