-- `c_records::large_images::write_large_image` meets its contract: each refusal is the first that applies.
use mathlib.Core.Path.{refl}
use borrow.Author.Rules.{rules}
use borrow.Author.Tests.{eq-eqb, ne_eqb}
use lib.ListN.{length, get_or}
use Rattle.octets.specs.Choice.{pick}
use Rattle.octets.specs.Number.{number_at}
use Rattle.c_records.specs.LargeFromC.{write_large_from_c}
use Rattle.c_records.proofs.large_images.write_large_image.Goals as goal

pub returns-then-number16_at-ne-FORM : goal.returns-then-number16_at-ne-FORM
unfolding write_large_from_c pick
returns-then-number16_at-ne-FORM c =
    rw (eq-eqb (length c.args.image.now) 2048 (search rules), eq-eqb (length c.args.fields.now) 164 (search rules), ne_eqb (number_at 162 2 c.args.fields.now) 2 (search rules)) refl

pub returns-then-byte_at-ne0 : goal.returns-then-byte_at-ne0
unfolding write_large_from_c pick
returns-then-byte_at-ne0 c =
    rw (eq-eqb (length c.args.image.now) 2048 (search rules), eq-eqb (length c.args.fields.now) 164 (search rules), eq-eqb (number_at 162 2 c.args.fields.now) 2 (search rules), ne_eqb (get_or c.args.fields.now 53 0) 0 (search rules)) refl
