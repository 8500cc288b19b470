-- `runner_text::form::lengths_of` meets its contract: the sum so far is that of the entries passed.
use mathlib.Core.Path.{◌≡◌}
use Prim.Native.Nat.{◌-◌, ◌*◌, ◌≤◌}
use Rattle.runner_text.specs.Form.{lengths_in}
use Rattle.runner_text.proofs.form.lengths_of.Given as goal

abbrev pub invariant-loop-index : goal.invariant-loop-index
invariant-loop-index l = (l.index ≤ l.count) × (l.sum ≤ 65535 * l.index) × (l.sum ≡ lengths_in l.script l.index)

abbrev pub decreases-loop-index : goal.decreases-loop-index
decreases-loop-index l = l.count - l.index
