-- `program_io::HexDisplay::fmt` meets its contract: each turn writes one byte more.
use Rattle.std.specs.Prelude.{take, get_or}
use borrow.Author.Rules.{rules}
use Rattle.std.proofs.lemmas.Grind.{put_two}
use Rattle.program_io.specs.Hex.{byte_printed, printed}
use Rattle.program_io.proofs.HexLaws.{next_printed}
use Rattle.program_io.proofs.HexDisplay.fmt.Goals as goal

pub loop-byte-preserved : goal.loop-byte-preserved
loop-byte-preserved g c =
    let bytes = c.args.self.now.0.now in let i = c.loop-byte.byte-index in
    λ plain. put_two _ _ _ _ (printed (take i bytes)) (byte_printed (get_or bytes i 0)) _ (c.loop-byte.invariant plain) (search rules) (next_printed bytes i (search rules))
