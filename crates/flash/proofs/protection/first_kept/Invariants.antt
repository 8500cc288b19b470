-- `flash::protection::first_kept` meets its contract: at each turn, the search of the places left finds what the search of all finds.
use mathlib.Core.Path.{◌≡◌}
use Prim.Native.Nat.{◌-◌}
use Rattle.flash.specs.Protection.{first_kept}
use Rattle.flash.proofs.protection.first_kept.Given as goal

abbrev pub invariant-loop-place : goal.invariant-loop-place
invariant-loop-place l = first_kept l.sectors.size l.sectors.protection.now l.place l.end ≡ first_kept l.sectors.size l.sectors.protection.now l.at l.end

abbrev pub decreases-loop-place : goal.decreases-loop-place
decreases-loop-place l = l.end - l.place
