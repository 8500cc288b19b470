-- `runner_text::end_line::write_with_number` meets its contract: the start, the number and the line's end, where there is room for all.
use mathlib.Core.Path.{ap}
use Prim.Native.Nat.{◌+◌}
use native.Mathlib.Omega.{arith}
use borrow.Author.Tests.{lt-ltb, le-ltb}
use lib.ListN.{length}
use Rattle.octets.specs.Choice.{pick}
use Rattle.octets.specs.Decimal.{digits_in}
use Rattle.octets.proofs.DecimalLaws.{digits_are_few}
use Rattle.runner_text.specs.Writing.{written, written_of}
use Rattle.runner_text.proofs.LineLaws.{length_numbered, numbered_made}
use Rattle.runner_text.proofs.end_line.write_with_number.Goals as goal

pub overflow_add-end : goal.overflow_add-end
overflow_add-end c = omega (arith, c.digits_in.ensures, digits_are_few 10 c.args.number)

pub overflow_add-end-2 : goal.overflow_add-end-2
overflow_add-end-2 c = omega (arith, c.digits_in.ensures, digits_are_few 10 c.args.number)

pub returns-then-area-end : goal.returns-then-area-end
unfolding written_of pick
returns-then-area-end c =
    let a = c.args in
    rw (length_numbered a.start.now a.number, ← c.digits_in.ensures, lt-ltb _ _ c.if-area-end.true)

pub returns : goal.returns
unfolding written_of pick
returns c =
    let counted = c.digits_in.ensures in
    let a = c.args in
    rw (
      length_numbered a.start.now a.number,
      ← counted,
      le-ltb _ _ c.if-area-end.false,
      c.put-2.ensures,
      c.put_decimal.ensures,
      c.put.ensures,
      counted,
    )
    (ap (written (length a.start.now + digits_in a.number + 1)) (numbered_made a.start.now a.number a.area.now))
