-- `checksum::lanes::lane_in` meets its contract: bytes go in one by one as their number does at once.
use Rattle.std.proofs.Common.{rules}
use mathlib.Core.Path.{◌≡◌, ◌∙◌}
use Prim.Native.Nat.{ℕ, ◌<◌}
use native.Mathlib.Omega.{arith}
use lib.Bits.{bit_xor}
use lib.ListN.{length, get_or}
use Rattle.octets.specs.Number.{number_of}
use Rattle.checksum.proofs.Chunks.{eight_read, eight_on}
use Rattle.checksum.proofs.lanes.lane_in.Goals as goal

pub returns : goal.returns
returns c =
    let long = c.args.long in
    let size : length long ≡ 8 = search rules in
    let small : (k : ℕ) → get_or long k 0 < 256 = search rules in
    let number : c.from_le_bytes.result ≡ number_of long = c.from_le_bytes.ensures ∙ eight_read long (omega (arith, size)) in
    rw (c.long_bits.ensures, c.from.ensures, number) (eight_on (bit_xor c.args.sum c.args.lane) long size small)
