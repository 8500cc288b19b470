-- `octets::comparing::all_are` meets its contract: what was seen, and what the test says of the bytes left, it says of all.
use mathlib.Core.Path.{◌≡◌}
use mathlib.Core.Bool.{false}
use lib.ListN.{drop}
use Rattle.octets.specs.Choice.{pick}
use Rattle.octets.specs.Alike.{all_are}
use Rattle.octets.proofs.comparing.all_are.Given as goal

abbrev pub invariant-loop-byte : goal.invariant-loop-byte
invariant-loop-byte l = pick l.all (all_are l.value (drop l.byte-index l.bytes)) false ≡ all_are l.value l.bytes
