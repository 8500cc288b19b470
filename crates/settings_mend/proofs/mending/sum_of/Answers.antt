-- `settings_mend::mending::sum_of` meets its contract: it takes the whole array.
use native.Mathlib.Omega.{arith}
use Rattle.settings.proofs.BodyLaws.{body_taken}
use Rattle.settings_mend.proofs.mending.sum_of.Goals as goal

pub returns : goal.returns
returns c = rw c.array_at.ensures (body_taken 1020 4 c.args.image.now (omega arith))
