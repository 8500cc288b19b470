-- `flash::programming::and_into` meets its contract: after each turn one more place has its AND, and the others are as they were.
use mathlib.Core.Path.{◌≡◌}
use lib.Bits.{bit_and}
use lib.ListN.{length, get_or}
use Rattle.flash.proofs.PlaceLaws.{changed_to}
use Rattle.flash.proofs.programming.and_into.Given as goal

abbrev pub invariant-loop-i : goal.invariant-loop-i
invariant-loop-i l =
    (length l.area ≡ length l.initial.area) × (l.area ≡ changed_to (λ place old. bit_and old (get_or l.bytes place 0)) l.i l.initial.area)
