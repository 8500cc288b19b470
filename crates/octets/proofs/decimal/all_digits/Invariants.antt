-- `octets::decimal::all_digits` meets its contract: at each turn, the digits of what is left and those that are made make the whole.
use mathlib.Core.Path.{◌≡◌}
use mathlib.Core.List.{◌++◌}
use lib.ListN.{length, drop}
use Rattle.octets.specs.Decimal.{last_digits}
use Rattle.octets.proofs.decimal.all_digits.Given as goal

abbrev pub invariant-loop-i : goal.invariant-loop-i
invariant-loop-i l = (length l.digits ≡ 10) × (last_digits l.i l.rest ++ drop l.i l.digits ≡ last_digits 10 l.number)
