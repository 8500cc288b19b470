-- `settings_mend::mending::front_of` meets its contract: they take the whole array.
use native.Mathlib.Omega.{arith}
use Rattle.settings.proofs.BodyLaws.{body_taken}
use Rattle.settings_mend.proofs.mending.front_of.Goals as goal

pub returns : goal.returns
returns c = rw c.array_at.ensures (body_taken 0 126 c.args.image.now (omega arith))
