-- `program_io::read_full` meets its contract: what was read lies at the start of the area, and each turn fills more of it.
use Rattle.std.proofs.Common.{length, take, ◌-◌, ◌≡◌, ◌≤◌}
use Rattle.std.specs.Io.KnownBytes.{Consumes}
use Rattle.program_io.proofs.read_full.Given as goal

abbrev pub invariant-loop-size : goal.invariant-loop-size
invariant-loop-size g l =
    (length l.area ≡ length l.fn.area)
    × (l.size ≤ length l.fn.area)
    × Consumes (g.R.Read.remaining l.initial.input) (g.R.Read.remaining l.input) (take l.size l.area)

abbrev pub decreases-loop-size : goal.decreases-loop-size
decreases-loop-size g l = length l.fn.area - l.size
