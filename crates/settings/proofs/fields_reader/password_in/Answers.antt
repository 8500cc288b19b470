-- `settings::fields_reader::password_in` meets its contract: the body takes the whole array.
use native.Mathlib.Omega.{arith}
use Rattle.settings.proofs.BodyLaws.{body_taken}
use Rattle.settings.proofs.fields_reader.password_in.Goals as goal

pub returns : goal.returns
returns c = rw (c.put.ensures, c.part_of.ensures) (body_taken 0 32 c.args.fields.now (omega arith))
