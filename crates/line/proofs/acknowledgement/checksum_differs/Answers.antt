-- `line::acknowledgement::checksum_differs` meets its contract: the number after the core, beside the checksum of the core.
use mathlib.Core.Path.{◌≡◌}
use Prim.Native.Nat.{◌+◌, ◌-◌}
use native.Mathlib.Omega.{arith}
use lib.ListN.{length}
use Rattle.line.specs.Packet.{length_in}
use Rattle.line.specs.Acknowledgement.{checksum_differs}
use Rattle.line.proofs.acknowledgement.checksum_differs.Goals as goal

pub returns : goal.returns
unfolding checksum_differs
returns c =
    let packet = c.args.packet.now in
    let size : length packet ≡ length_in packet + 7 = c.requires in
    let place : length packet - 4 ≡ 3 + length_in packet = omega arith in
    let count : length packet - 4 - 3 ≡ length_in packet = omega arith in
    rw (c.checksum_of.ensures, c.number32_at.ensures, count, place)
