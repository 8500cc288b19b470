-- `settings::reader::name_in` meets its contract: the body of kind 7 takes the whole array.
use native.Mathlib.Omega.{arith}
use Rattle.settings.specs.Layout.{offset_of, sum_of}
use Rattle.settings.proofs.BodyLaws.{body_taken}
use Rattle.settings.proofs.reader.name_in.Goals as goal

pub returns-in-Two : goal.returns-in-Two
unfolding offset_of sum_of
returns-in-Two c = rw (c.in-Two.is, c.array_at.ensures) (body_taken 134 64 c.args.image.now (omega arith))
