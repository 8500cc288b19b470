-- The fields area of C, with name and form: reading what was made gives the contents, making what was read gives the bytes.
use mathlib.Core.Path.{◌≡◌, refl, sym, ap, ap₂, ◌∙◌}
use mathlib.Core.Bool.{true}
use mathlib.Core.List.{List, ◌++◌}
use Prim.Native.Nat.{ℕ, ◌<◌, ◌^◌}
use native.Mathlib.Omega.{arith}
use borrow.Author.Tests.{eqb-true}
use lib.Dec.{eqb}
use lib.ListN.{length, get_or, drop, get_or-append}
use lib.Seq.{take_all, get_or-take}
use Rattle.octets.specs.Choice.{pick}
use Rattle.octets.specs.Number.{number_of, bytes_of, part, number_at}
use Rattle.octets.proofs.Numbers.{length-bytes_of, number_of_bytes}
use Rattle.octets.proofs.Parts.{length_part, part_there, from_next, parts_join, each_part}
use Rattle.octets.proofs.Searching.{pick_false, by_test}
use Rattle.settings.specs.declared.Form.{Form}
use Rattle.settings.specs.declared.Form.TheVariants.{One, Two}
use Rattle.settings.specs.Held.{Settings}
use Rattle.settings.specs.Held.{Contents}
use Rattle.settings.specs.Layout.{form1, layout_of}
use Rattle.settings.specs.Bodies.{bodies_of, contents_of}
use Rattle.settings.specs.Fields.{fields_read, zero_at}
use Rattle.settings.proofs.AgainLaws.{number_again, made_after_read}
use Rattle.c_records.specs.FieldsArea.{fields_area_size, name_at, form_at, fields_of, is_form_number, form_numbered, contents_read}
use Rattle.c_records.proofs.FieldsLaws.{length_fields}
use Rattle.claims.specs.Held.{HeldContents}
use Rattle.claims.proofs.Settings.FieldsRule.{fields_size_lem, read_after_made, made_unused}
use Rattle.claims.proofs.Settings.HeldSettings.{fields_held}

-- ---- the form's number

form_back : (form : Form) → form_numbered (layout_of form).form ≡ form
unfolding form_numbered pick
form_back One = refl
form_back Two = refl

number_names : (form : Form) → is_form_number (layout_of form).form ≡ true
unfolding is_form_number pick
number_names One = refl
number_names Two = refl

number_small : (form : Form) → (layout_of form).form < 256 ^ 2
number_small One = omega arith
number_small Two = omega arith

number_back : (number : ℕ) → is_form_number number ≡ true → (layout_of (form_numbered number)).form ≡ number
unfolding is_form_number form_numbered pick
number_back number names =
    by_test (eqb number 1)
    (λ one. let e : number ≡ 1 = eqb-true _ _ one in rw e)
    (λ other. let e : number ≡ 2 = eqb-true _ _ (sym (pick_false true (eqb number 2) other) ∙ names) in rw e)

-- ---- contents that can be held

module _ (c : Contents) (held : HeldContents c) where
  abbrev s : Settings
  s = c.settings

  number : List ℕ
  number = bytes_of 2 (layout_of c.form).form

  area : List ℕ
  area = fields_of c

  bodies_size : length (bodies_of s) ≡ 74
  bodies_size = fields_size_lem s held.settings

  pub area_size : length (fields_of c) ≡ fields_area_size
  area_size = length_fields c bodies_size held.name.size

  in_parts : drop 0 area ≡ bodies_of s ++ (c.name ++ number)
  unfolding area number fields_of
  in_parts = refl

  from_74 : drop 74 area ≡ c.name ++ number
  from_74 = from_next area 0 74 (bodies_of s) (c.name ++ number) in_parts bodies_size

  from_138 : drop 138 area ≡ number
  from_138 = from_next area 74 64 c.name number from_74 held.name.size

  form_there : number_at form_at 2 area ≡ (layout_of c.form).form
  unfolding number
  form_there =
      ap (λ (l : List ℕ). number_of (part 0 2 l)) from_138
      ∙ ap number_of (take_all 2 number (omega (arith, length-bytes_of 2 (layout_of c.form).form)))
      ∙ number_of_bytes 2 (layout_of c.form).form (number_small c.form)

  pub area_names : is_form_number (number_at form_at 2 (fields_of c)) ≡ true
  unfolding area
  area_names = rw form_there (number_names c.form)

  pub area_unused : get_or (fields_of c) zero_at 0 ≡ 0
  unfolding fields_of
  area_unused =
      get_or-append (bodies_of s) (c.name ++ bytes_of 2 (layout_of c.form).form) 0 53 (omega (arith, bodies_size)) ∙ made_unused s held.settings

  pub contents_after_made : contents_read (fields_of c) ≡ c
  unfolding area
  contents_after_made =
      let settings = ap (fields_read form1) (part_there area 0 74 (bodies_of s) (c.name ++ number) in_parts bodies_size) ∙ read_after_made s held.settings in
      let name = part_there area 74 64 c.name number from_74 held.name.size in
      let form = ap form_numbered form_there ∙ form_back c.form in
      ap (λ (form : Form). contents_of form (fields_read form1 (part 0 74 area)) (part name_at 64 area)) form ∙ ap₂ (contents_of c.form) settings name

-- ---- an area of bytes

module _ (fields : List ℕ) (size : length fields ≡ fields_area_size) (each : (k : ℕ) → get_or fields k 0 < 256) where
  six_size : length (part 0 74 fields) ≡ 74
  six_size = length_part 0 74 fields (omega arith)

  pub area_held : HeldContents (contents_read fields)
  area_held = record {
    settings = fields_held (part 0 74 fields) six_size (each_part 0 74 fields each);
    name = record { size = length_part 74 64 fields (omega arith); each = each_part 74 64 fields each };
  }

  pub made_after_contents : is_form_number (number_at form_at 2 fields) ≡ true → get_or fields zero_at 0 ≡ 0 → fields_of (contents_read fields) ≡ fields
  unfolding fields_of
  made_after_contents names zero =
      rw (
        made_after_read (part 0 74 fields) six_size (each_part 0 74 fields each) (get_or-take 74 fields 53 0 (omega arith) ∙ zero),
        number_back (number_at form_at 2 fields) names,
        number_again fields each 138 2 (omega arith),
        parts_join 74 64 2 fields,
        parts_join 0 74 66 fields,
      )
      (take_all 140 fields (omega arith))
