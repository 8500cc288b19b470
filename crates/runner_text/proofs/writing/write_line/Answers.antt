-- `runner_text::writing::write_line` meets its contract: the number, the reply and the line's end, where there is room for all.
use mathlib.Core.Path.{ap, ◌∙◌}
use Prim.Native.Nat.{◌+◌}
use native.Mathlib.Omega.{arith}
use lib.ListN.{length}
use Rattle.octets.specs.Choice.{pick}
use Rattle.octets.specs.Decimal.{digits_in}
use Rattle.runner_text.specs.Writing.{text_size, written, written_of}
use Rattle.octets.proofs.DecimalLaws.{digits_are_few}
use Rattle.runner_text.proofs.LineLaws.{length_line, line_made}
use Rattle.runner_text.proofs.writing.write_line.Goals as goal

pub is_too_small-requires : goal.is_too_small-requires
is_too_small-requires c = omega (arith, c.digits_in-count.ensures, digits_are_few 10 c.from-number.result)

pub returns-then-is_too_small : goal.returns-then-is_too_small
unfolding written_of pick
returns-then-is_too_small c =
    let a = c.args in
    rw (length_line a.number a.reply.now, ← c.from-number.ensures, ← c.digits_in-count.ensures, ← c.is_too_small.ensures, c.if-is_too_small.true)

pub returns : goal.returns
unfolding written_of pick
returns c =
    let counted = c.digits_in-count.ensures ∙ ap digits_in c.from-number.ensures in
    let a = c.args in
    rw (
      length_line a.number a.reply.now,
      ← counted,
      ← c.is_too_small.ensures,
      c.if-is_too_small.false,
      c.put.ensures,
      c.put_reply-end.ensures.0,
      c.put_reply-end.ensures.1,
      c.put_decimal.ensures,
      c.from-number.ensures,
      counted,
    )
    (ap (written (digits_in a.number + text_size (length a.reply.now) + 1)) (line_made a.number a.reply.now a.area.now))
