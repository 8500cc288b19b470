-- `octets::hex::put_hex` meets its contract: at each turn, storing the text of what is left of the bytes makes the whole.
use mathlib.Core.Path.{sym, ◌∙◌}
use Prim.Native.Nat.{◌<◌}
use native.Mathlib.Omega.{arith}
use Rattle.std.proofs.lemmas.List.{get_or-take, length-take}
use Rattle.octets.proofs.HexLaws.{text_next, text_done}
use Rattle.octets.proofs.hex.put_hex.Goals as goal

pub loop-i-preserved : goal.loop-i-preserved
loop-i-preserved c =
    let a = c.args in
    let l = c.loop-i in
    let count = c.least-count.result in
    let there : l.i < count = omega (arith, length-take count a.bytes.now) in
    rw (c.put_text.ensures, get_or-take count a.bytes.now l.i 0 there)
    (sym (text_next l.area a.at l.i a.bytes.now (omega (arith, there, c.least-count.ensures))) ∙ l.invariant)

pub returns : goal.returns
returns c =
    let a = c.args in
    let l = c.loop-i in
    sym (text_done l.area a.at l.i a.bytes.now (omega (arith, length-take c.least-count.result a.bytes.now, c.least-count.ensures, c.room.ensures))) ∙ l.invariant
