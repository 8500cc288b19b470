-- `checksum::short::by_bytes` meets its contract: what the sum makes of the bytes left is what it made of all.
use mathlib.Core.Path.{◌≡◌}
use lib.ListN.{drop}
use Rattle.checksum.specs.Checksum.{checksum_from}
use Rattle.checksum.proofs.short.by_bytes.Given as goal

abbrev pub invariant-loop-byte : goal.invariant-loop-byte
invariant-loop-byte l = checksum_from l.sum (drop l.byte-index l.bytes) ≡ checksum_from l.initial.sum l.bytes
