-- `settings_mend::mending::not_filler` meets its contract: what was counted, and what is counted of the bytes left, is what is counted of all.
use mathlib.Core.Path.{◌≡◌}
use mathlib.Core.Bool.{not}
use Prim.Native.Nat.{◌+◌}
use lib.ListN.{drop}
use Rattle.std.specs.Prelude.{◌==◌, count_by}
use Rattle.settings_mend.proofs.mending.not_filler.Given as goal

abbrev pub invariant-loop-byte : goal.invariant-loop-byte
invariant-loop-byte l = l.count + count_by (λ byte. not (byte == 0xFF)) (drop l.byte-index l.bytes) ≡ count_by (λ byte. not (byte == 0xFF)) l.bytes
