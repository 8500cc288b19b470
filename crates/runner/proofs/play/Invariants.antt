-- `runner::play` meets its contract: the four arrays keep their lengths, and an entry's index is below the count.
use Rattle.std.proofs.Common.{length, ◌-◌, ◌≡◌}
use Rattle.runner.proofs.play.Given as goal

abbrev pub invariant-loop-index : goal.invariant-loop-index
invariant-loop-index g l = (4096 ≡ length l.main) × (1024 ≡ length l.image) × (3456 ≡ length l.window) × (1729 ≡ length l.reply)

abbrev pub decreases-loop-index : goal.decreases-loop-index
decreases-loop-index g l = l.fn.count - l.index
