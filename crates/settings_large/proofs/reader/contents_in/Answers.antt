-- `settings_large::reader::contents_in` meets its contract: the body of kind 7 takes the whole array.
use native.Mathlib.Omega.{arith}
use mathlib.Core.Path.{refl}
use Rattle.settings.specs.Layout.{offset_of, sum_of}
use Rattle.settings.proofs.BodyLaws.{body_taken}
use Rattle.settings_large.proofs.reader.contents_in.Goals as goal

pub returns : goal.returns
unfolding offset_of sum_of
returns c = rw (c.kept_in.ensures, c.array_at.ensures, body_taken 158 64 c.args.image.now (omega arith)) refl
