-- `octets::decimal::all_digits` meets its contract: at each turn, the digits of what is left and those that are made make the whole.
use mathlib.Core.Path.{◌≡◌, sym, ◌∙◌}
use native.Mathlib.Omega.{arith}
use lib.ListN.{length-set}
use Rattle.octets.specs.Decimal.{last_digits}
use Rattle.octets.proofs.DecimalLaws.{digit_made}
use Rattle.octets.proofs.decimal.all_digits.Goals as goal

pub loop-i-preserved : goal.loop-i-preserved
loop-i-preserved c =
    let l = c.loop-i in (
      simp length-set l.invariant.0,
      sym (digit_made l.rest l.i l.digits c.loop-i-test.true (omega (arith, l.auto.i))) ∙ l.invariant.1,
    )

pub returns : goal.returns
unfolding last_digits
returns c =
    let l = c.loop-i in
    let e : l.i ≡ 0 = omega arith in
    rw e at l.invariant.1
