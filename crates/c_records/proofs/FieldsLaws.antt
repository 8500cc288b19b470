-- Settings, a name and its form's number: stored piece by piece, they make the fields beside a settings image, of either part.
use mathlib.Core.Path.{◌≡◌, refl, ◌∙◌}
use mathlib.Core.Bool.{true, false}
use mathlib.Core.List.{List, ◌++◌}
use Prim.Native.Nat.{ℕ, ◌+◌}
use native.Mathlib.Omega.{arith}
use lib.ListN.{length, replicate, length-append}
use lib.Seq.{sets}
use Rattle.octets.specs.Number.{bytes_of, part}
use Rattle.octets.proofs.Numbers.{length-bytes_of}
use Rattle.octets.proofs.StoreLaws.{sets_join, stored_whole}
use Rattle.settings.specs.Held.{Contents}
use Rattle.settings.specs.Layout.{layout_of}
use Rattle.settings.specs.Bodies.{bodies_of}
use Rattle.settings.specs.Kept.{kept_bodies}
use Rattle.settings.proofs.BodyLaws.{body_taken}
use Rattle.settings_large.specs.Contents.{LargeContents}
use Rattle.settings.specs.declared.Form.{Form}
use Rattle.settings.specs.declared.Form.TheVariants.{One, Two}
use Rattle.settings.specs.Forms as named
use Rattle.octets.specs.Choice.{pick}
use Rattle.c_records.specs.FieldsArea.{fields_of, is_form_number, form_numbered}
use Rattle.c_records.specs.LargeFromC.{large_fields_of}

module _ (bodies name : List ℕ) (number : ℕ) where
  named_size : length (bodies ++ (name ++ bytes_of 2 number)) ≡ length bodies + length name + 2
  named_size = omega (arith, length-append bodies (name ++ bytes_of 2 number), length-append name (bytes_of 2 number), length-bytes_of 2 number)

  module _ (area : List ℕ) where
    pub fields_joined : (name_at form_at : ℕ) → length bodies ≡ name_at → form_at ≡ name_at + length name
        → sets (sets (sets area 0 bodies) name_at name) form_at (bytes_of 2 number) ≡ sets area 0 (bodies ++ (name ++ bytes_of 2 number))
    fields_joined name_at form_at size end =
        sets_join (sets area 0 bodies) name_at form_at name (bytes_of 2 number) end
        ∙ sets_join area 0 name_at bodies (name ++ bytes_of 2 number) (omega arith)

    -- in an area of their size nothing else is left
    pub fields_stored : length area ≡ length bodies + length name + 2
        → sets area 0 (bodies ++ (name ++ bytes_of 2 number)) ≡ bodies ++ (name ++ bytes_of 2 number)
    fields_stored size = stored_whole area (bodies ++ (name ++ bytes_of 2 number)) (omega (arith, named_size))

pub length_fields : (contents : Contents) → length (bodies_of contents.settings) ≡ 74 → length contents.name ≡ 64 → length (fields_of contents) ≡ 140
unfolding fields_of
length_fields contents bodies name = omega (arith, named_size (bodies_of contents.settings) contents.name (layout_of contents.form).form)

pub length_large : (contents : LargeContents) → length (kept_bodies contents.settings) ≡ 98 → length contents.name ≡ 64 → length (large_fields_of contents) ≡ 164
unfolding large_fields_of
length_large contents bodies name = omega (arith, named_size (kept_bodies contents.settings) contents.name (layout_of contents.form).form)

-- a name that is taken from an area fills its array
pub name_taken : (fields : List ℕ) → length fields ≡ 140 → sets (replicate 64 0) 0 (part 74 64 fields) ≡ part 74 64 fields
name_taken fields size = body_taken 74 64 fields (omega arith)

pub large_name_taken : (fields : List ℕ) → length fields ≡ 164 → sets (replicate 64 0) 0 (part 98 64 fields) ≡ part 98 64 fields
large_name_taken fields size = body_taken 98 64 fields (omega arith)

-- a number that a form has names it, and one that no form has names none
pub form_named : (form : Form) (number : ℕ) → (layout_of form).form ≡ number → (is_form_number number ≡ true) × (form ≡ form_numbered number)
unfolding is_form_number form_numbered pick
form_named One number e = rw (← e) (refl, refl)
form_named Two number e = rw (← e) (refl, refl)

pub no_form_named : (number : ℕ) → named.is_form_number number ≡ false → is_form_number number ≡ false
unfolding is_form_number named.is_form_number
no_form_named number h = h
