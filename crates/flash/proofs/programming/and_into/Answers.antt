-- `flash::programming::and_into` meets its contract: after each turn one more place has its AND, and the others are as they were.
use mathlib.Core.Path.{◌≡◌, ◌∙◌}
use native.Mathlib.Omega.{arith}
use lib.Bits.{bit_and}
use lib.ListN.{length, get_or, length-set}
use Rattle.flash.proofs.PlaceLaws.{next_changed, all_changed}
use Rattle.flash.proofs.programming.and_into.Goals as goal

pub loop-i-preserved : goal.loop-i-preserved
loop-i-preserved c =
    let a = c.args in
    let l = c.loop-i in
    (simp length-set l.invariant.0, next_changed (λ place old. bit_and old (get_or a.bytes.now place 0)) l.i a.area.now l.area l.invariant.1 (omega arith))

pub returns : goal.returns
returns c =
    let a = c.args in
    let l = c.loop-i in
    let e : l.i ≡ length a.area.now = omega arith in
    l.invariant.1 ∙ rw e (all_changed (λ place old. bit_and old (get_or a.bytes.now place 0)) a.area.now)
