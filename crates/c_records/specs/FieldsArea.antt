-- T-09, the fields area that C lends beside a settings image: the six bodies, the name and the form.
use Rattle.std.specs.Prelude.{◌≡◌, ℕ, Bool, true, false, List, ◌++◌, Result, MatchResult, eqb}
use Rattle.octets.specs.Choice.{pick}
use Rattle.octets.specs.Number.{bytes_of, part, number_at}
use Rattle.settings.specs.declared.Form.{Form}
use Rattle.settings.specs.declared.Form.TheVariants.{One, Two}
use Rattle.settings.specs.declared.UnknownForm.{UnknownForm}
use Rattle.settings.specs.Held.{Contents}
use Rattle.settings.specs.Layout.{form1, layout_of}
use Rattle.settings.specs.Bodies.{bodies_of}
use Rattle.settings.specs.Fields.{fields_read, kept_size}

-- it has 140 bytes: 74 of the six bodies, as a record keeps them, 64 of the name, and the form's number in two
abbrev pub fields_area_size : ℕ
fields_area_size = 140

abbrev pub name_at : ℕ
name_at = 74

abbrev pub name_size : ℕ
name_size = 64

abbrev pub form_at : ℕ
form_at = 138

unfoldable pub fields_of : Contents → List ℕ
fields_of contents = bodies_of contents.settings ++ (contents.name ++ bytes_of 2 (layout_of contents.form).form)

-- a form that is neither 1 nor 2 is none
unfoldable pub is_form_number : ℕ → Bool
is_form_number number = pick (eqb number 1) true (eqb number 2)

unfoldable pub form_numbered : ℕ → Form
form_numbered number = pick (eqb number 2) Two One

-- what such an area says
abbrev pub contents_read : List ℕ → Contents
contents_read fields = record {
  form = form_numbered (number_at form_at 2 fields);
  settings = fields_read form1 (part 0 kept_size fields);
  name = part name_at name_size fields;
}

-- what is told of an area: what it says, where its number names a form
abbrev pub Says : List ℕ → Result Contents UnknownForm → Type 0
Says fields told =
    MatchResult told (λ contents. (is_form_number (number_at form_at 2 fields) ≡ true) × (contents ≡ contents_read fields))
    (λ none. is_form_number (number_at form_at 2 fields) ≡ false)
