-- `octets::storing::fill` meets its contract: after each turn the front is filled and the rest is as it was.
use mathlib.Core.Path.{◌≡◌}
use mathlib.Core.List.{◌++◌}
use lib.ListN.{drop, replicate}
use Rattle.octets.proofs.storing.fill.Given as goal

abbrev pub invariant-loop-byte : goal.invariant-loop-byte
invariant-loop-byte l = l.area ≡ replicate l.byte-index l.value ++ drop l.byte-index l.initial.area
