-- `octets::decimal::put_decimal` meets its contract: the last so many of ten digits.
use mathlib.Core.Path.{ap}
use native.Mathlib.Omega.{arith}
use lib.Seq.{sets}
use Rattle.octets.specs.Decimal.{digits_in}
use Rattle.octets.proofs.DecimalLaws.{digits_are_few, last_taken}
use Rattle.octets.proofs.decimal.put_decimal.Goals as goal

pub overflow_sub-first : goal.overflow_sub-first
overflow_sub-first c = omega (arith, c.digits_in-first.ensures, digits_are_few 10 c.args.number)

pub returns : goal.returns
returns c =
    let a = c.args in
    rw (c.put.ensures, c.digits_in-first.ensures, c.all_digits-digits.ensures)
    (ap (sets a.area.now a.at) (last_taken 10 (digits_in a.number) a.number (digits_are_few 10 a.number)))
