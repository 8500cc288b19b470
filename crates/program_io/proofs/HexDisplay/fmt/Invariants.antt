-- `program_io::HexDisplay::fmt` meets its contract: so far the bytes before this one are written.
use Rattle.std.specs.Prelude.{take}
use Rattle.std.specs.Fmt.{HasWritten, IsPlainFormatter}
use Rattle.program_io.specs.Hex.{printed}
use Rattle.program_io.proofs.HexDisplay.fmt.Given as goal

abbrev pub invariant-loop-byte : goal.invariant-loop-byte
invariant-loop-byte g l =
    IsPlainFormatter l.initial.f → HasWritten g.W.Write.write_str_gives l.initial.f (printed (take l.byte-index l.self.0.now)) l.f
