-- `settings::checks::rest_differs` meets its contract: the bodies end before the checksum.
use native.Mathlib.Omega.{arith}
use Rattle.settings.proofs.checks.rest_differs.Goals as goal

pub overflow_sub-from : goal.overflow_sub-from
overflow_sub-from g c = omega (arith, c.filler_at-from.ensures, g.met.L.ImageLayout.sound.fits)
