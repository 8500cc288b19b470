-- `c_records::fields::contents_in` meets its contract: the number names the form that was read, and the name takes the whole array.
use mathlib.Core.Path.{refl}
use borrow.Author.Rules.{rules}
use Rattle.octets.specs.Number.{number_at}
use Rattle.c_records.proofs.FieldsLaws.{form_named, name_taken}
use Rattle.c_records.proofs.fields.contents_in.Goals as goal

pub returns : goal.returns
returns c =
    let a = c.args in
    let form = form_named c.in_ok-try_from.field-0 (number_at 138 2 a.fields.now) (search rules) in
    (form.0, rw (form.1, c.read_fields.ensures, c.part_of.ensures, c.array_at.ensures, name_taken a.fields.now (search rules)) refl)
