-- `settings::writer::put_filler` meets its contract: the part from the end of the bodies up to the checksum.
use native.Mathlib.Omega.{arith}
use Rattle.octets.proofs.StoreLaws.{filled_part}
use Rattle.settings.specs.Layout.{checksum_at, bodies_end}
use Rattle.settings.proofs.writer.put_filler.Goals as goal

pub returns : goal.returns
returns g c =
    rw (c.fill.ensures, c.filler_at.ensures)
    (filled_part c.args.image.now (bodies_end g.L.ImageLayout.layout) checksum_at 0xFF g.met.L.ImageLayout.sound.fits (omega arith))
