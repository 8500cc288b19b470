-- `flash::programming::program` meets its contract: at each turn, programming the bytes left makes the whole.
use mathlib.Core.Path.{◌≡◌}
use Prim.Native.Nat.{◌+◌, ◌-◌, ◌≤◌}
use lib.ListN.{length, drop}
use Rattle.flash.specs.Programming.{program_of}
use Rattle.flash.proofs.programming.program.Given as goal

abbrev pub invariant-loop-i : goal.invariant-loop-i
invariant-loop-i l =
    (l.i ≤ l.count) × (length l.memory ≡ length l.initial.memory)
    × (program_of l.sectors.size l.sectors.protection.now (l.at + l.i) (drop l.i l.bytes) l.memory ≡ program_of l.sectors.size l.sectors.protection.now l.at l.bytes l.initial.memory)

abbrev pub decreases-loop-i : goal.decreases-loop-i
decreases-loop-i l = l.count - l.i
