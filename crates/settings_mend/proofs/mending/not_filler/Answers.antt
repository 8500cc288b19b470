-- `settings_mend::mending::not_filler` meets its contract: all are counted.
use native.Mathlib.Omega.{arith}
use Rattle.settings_mend.proofs.MendLaws.{filler_all_counted}
use Rattle.settings_mend.proofs.mending.not_filler.Goals as goal

pub returns : goal.returns
returns c = let l = c.loop-byte in filler_all_counted c.args.bytes.now l.count l.byte-index (omega arith) l.invariant
