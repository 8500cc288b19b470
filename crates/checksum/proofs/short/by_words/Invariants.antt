-- `checksum::short::by_words` meets its contract: what the sum makes of the bytes left is what it made of all.
use mathlib.Core.Path.{◌≡◌}
use Prim.Native.Nat.{◌*◌}
use lib.ListN.{drop}
use Rattle.checksum.specs.Checksum.{checksum_from}
use Rattle.checksum.proofs.short.by_words.Given as goal

abbrev pub invariant-loop-word : goal.invariant-loop-word
invariant-loop-word l = checksum_from l.sum (drop (4 * l.word-index) l.bytes) ≡ checksum_from l.initial.sum l.bytes
