-- `c_records::images::write_image` meets its contract: the zero byte is looked at after the sizes and the form.
use mathlib.Core.Path.{◌≡◌, refl}
use mathlib.Core.Bool.{true}
use borrow.Author.Rules.{rules}
use borrow.Author.Tests.{eq-eqb, ne_eqb}
use lib.ListN.{length, get_or}
use Rattle.octets.specs.Choice.{pick}
use Rattle.octets.specs.Number.{number_at}
use Rattle.c_records.specs.FieldsArea.{is_form_number}
use Rattle.c_records.specs.SettingsFromC.{write_from_c}
use Rattle.c_records.proofs.images.write_image.Goals as goal

pub returns-then-byte_at-ne0 : goal.returns-then-byte_at-ne0
unfolding write_from_c pick
returns-then-byte_at-ne0 c =
    let named : is_form_number (number_at 138 2 c.args.fields.now) ≡ true = search rules in
    rw (eq-eqb (length c.args.image.now) 1024 (search rules), eq-eqb (length c.args.fields.now) 140 (search rules), named, ne_eqb (get_or c.args.fields.now 53 0) 0 (search rules)) refl
