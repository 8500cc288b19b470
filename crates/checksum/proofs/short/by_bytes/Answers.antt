-- `checksum::short::by_bytes` meets its contract: what the sum makes of the bytes left is what it made of all.
use mathlib.Core.Path.{◌∙◌, sym}
use native.Mathlib.Omega.{arith}
use Rattle.checksum.specs.Checksum.{byte_on}
use Rattle.checksum.proofs.Parts.{byte_turn, byte_end}
use Rattle.checksum.proofs.short.by_bytes.Goals as goal

pub loop-byte-preserved : goal.loop-byte-preserved
unfolding byte_on
loop-byte-preserved c =
    let turn = c.loop-byte in
    rw (c.eight_bits-sum.ensures, c.from.ensures)
    (sym (byte_turn turn.sum turn.byte-index c.args.bytes.now (omega arith)) ∙ turn.invariant)

pub returns : goal.returns
returns c =
    let end = c.loop-byte in
    sym (byte_end end.sum end.byte-index c.args.bytes.now (omega arith) (omega arith)) ∙ end.invariant
