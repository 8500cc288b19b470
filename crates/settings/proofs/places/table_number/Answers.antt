-- `settings::places::table_number` meets its contract: a number of the table is what its two bytes say.
use mathlib.Core.Path.{sym}
use Rattle.settings.proofs.places.table_number.Goals as goal

pub returns : goal.returns
returns g c = rw (c.number16_at.ensures, c.table.ensures) (sym (g.met.L.ImageLayout.sound.numbers c.args.place c.requires))
