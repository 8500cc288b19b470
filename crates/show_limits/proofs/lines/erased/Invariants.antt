-- `show_limits::lines::erased` meets its contract: no more bytes are counted than were looked at.
use Rattle.std.proofs.Common.{◌≤◌}
use Rattle.show_limits.proofs.lines.erased.Given as goal

abbrev pub invariant-loop-byte : goal.invariant-loop-byte
invariant-loop-byte l = l.count ≤ l.byte-index
