-- `checksum::half_bytes::half_bits` meets its contract: the table, computed.
use Rattle.checksum.specs.Checksum.{bit_on, bits_on}
use Rattle.checksum.proofs.Chunks.{half_at}
use Rattle.checksum.proofs.half_bytes.half_bits.Goals as goal

pub returns : goal.returns
unfolding bits_on bit_on
returns c = half_at c.args.more c.args.half c.requires.0 c.requires.1
