-- Demand 2 as C sees it: "read after write gives the same settings, and write after read gives the same bytes unless the image was blank." On the
-- larger part, T-10. `read_large_from_c` and `write_large_from_c` are what `bhorelmu_am13e230x_settings_read` and `bhorelmu_am13e230x_settings_write` are
-- proved to do, for areas of every size.
use mathlib.Core.Path.{◌≡◌, refl, sym, ap, ap₂, subst, ◌∙◌}
use mathlib.Core.Bool.{true, false, not}
use mathlib.Core.List.{List, ◌++◌}
use Prim.Native.Nat.{ℕ, ◌<◌}
use native.Mathlib.Omega.{arith}
use borrow.Author.Tests.{eq-eqb, eqb-true, not-false}
use lib.Dec.{eqb}
use lib.ListN.{length, get_or, drop, replicate, length-append, get_or-append}
use lib.Seq.{take_all, drop_at, get_or-take}
use Rattle.octets.specs.Choice.{pick}
use Rattle.octets.specs.Number.{number_of, bytes_of, part, number_at}
use Rattle.octets.specs.Alike.{all_are}
use Rattle.octets.proofs.Parts.{length_part, part_there, from_next, parts_join, each_part, each_append, each_replicate}
use Rattle.octets.proofs.Searching.{by_pick}
use Rattle.parts.specs.Parts.{am13e230x}
use Rattle.settings.specs.declared.Form.{Form}
use Rattle.settings.specs.declared.Form.TheVariants.{Two}
use Rattle.settings.specs.Values.{is_allowed}
use Rattle.settings.specs.Fields.{zero_at}
use Rattle.settings.specs.Kept.{kept_read, kept_bodies}
use Rattle.settings.specs.Answers.{numbered, WriteLeft}
use Rattle.settings.proofs.AgainLaws.{number_again, long_again}
use Rattle.settings_large.specs.Contents.{LargeContents}
use Rattle.settings_large.specs.Contents.{contents_of}
use Rattle.settings_large.specs.Image.{large_size, image_of}
use Rattle.settings_large.specs.Reader.{LargeTold, read_of}
use Rattle.settings_large.specs.Writer.{write_of}
use Rattle.settings_large.proofs.LargeLaws.{kept_there}
use Rattle.c_records.specs.Stored.{Stored, stored, stored_by}
use Rattle.c_records.specs.SettingsFromC.{written_from_c}
use Rattle.c_records.specs.LargeFromC.{large_area_size, large_form_at, large_fields_of, large_contents_read, read_large_from_c, write_large_from_c}
use Rattle.c_records.proofs.FieldsLaws.{length_large}
use Rattle.claims.specs.Held.{HeldKept, HeldLarge}
use Rattle.claims.proofs.Settings.KeptRule.{all_size, whole_back, whole_unused}
use Rattle.claims.proofs.Settings.HeldSettings.{larger_held}
use Rattle.claims.proofs.Settings.SettingsRuleFromC.{fields_stored, bytes_stored}
use Rattle.claims.proofs.Settings.Larger.LargeRule.{record_is_long, large_image_reads, read_is_two, read_is_held, large_write_after_read}

-- ---- the fields area of contents that can be held

module _ (c : LargeContents) (held : HeldLarge c) (two : c.form ≡ Two) where
  abbrev area : List ℕ
  area = large_fields_of c

  bodies_size : length (kept_bodies c.settings) ≡ 98
  bodies_size = all_size c.settings held.settings.password held.settings.reset held.settings.protection

  area_size : length area ≡ large_area_size
  area_size = length_large c bodies_size held.name.size

  in_parts : drop 0 area ≡ kept_bodies c.settings ++ (c.name ++ bytes_of 2 2)
  unfolding large_fields_of
  in_parts = rw two

  from_98 : drop 98 area ≡ c.name ++ bytes_of 2 2
  from_98 = from_next area 0 98 (kept_bodies c.settings) (c.name ++ bytes_of 2 2) in_parts bodies_size

  form_there : number_at large_form_at 2 area ≡ 2
  unfolding bytes_of number_of
  form_there = ap (λ (l : List ℕ). number_of (part 0 2 l)) (from_next area 98 64 c.name (bytes_of 2 2) from_98 held.name.size)

  area_unused : get_or area zero_at 0 ≡ 0
  area_unused =
      ap (λ (l : List ℕ). get_or l 53 0) in_parts
      ∙ get_or-append (kept_bodies c.settings) (c.name ++ bytes_of 2 2) 0 53 (omega (arith, bodies_size)) ∙ whole_unused am13e230x c.settings held.settings

  contents_after_made : large_contents_read area ≡ c
  contents_after_made =
      ap₂ (contents_of Two)
      (ap kept_read (part_there area 0 98 (kept_bodies c.settings) (c.name ++ bytes_of 2 2) in_parts bodies_size) ∙ whole_back am13e230x c.settings held.settings)
      (part_there area 98 64 c.name (bytes_of 2 2) from_98 held.name.size)
      ∙ ap (λ (form : Form). contents_of form c.settings c.name) (sym two)

  -- they are written as those contents are
  pub fields_written : (image : List ℕ) → length image ≡ large_size → write_large_from_c (large_fields_of c) image ≡ written_from_c (write_of c image)
  unfolding write_large_from_c pick
  fields_written image size =
      rw (
        eq-eqb (length image) large_size size,
        eq-eqb (length area) large_area_size area_size,
        eq-eqb (number_at large_form_at 2 area) 2 form_there,
        eq-eqb (get_or area zero_at 0) 0 area_unused,
      )
      (ap (λ (said : LargeContents). written_from_c (write_of said image)) contents_after_made)

-- ---- an area of bytes

module _ (fields : List ℕ) (size : length fields ≡ large_area_size) (each : (k : ℕ) → get_or fields k 0 < 256) where
  -- its bodies, where an image has them
  abbrev placed : List ℕ
  placed = replicate 60 0 ++ fields

  bodies_placed : part 60 98 placed ≡ part 0 98 fields
  bodies_placed = ap (part 0 98) (drop_at (replicate 60 0) fields 60 refl)

  placed_long : length placed ≡ 224
  placed_long = length-append (replicate 60 0) fields ∙ omega (arith, size)

  settings_held : HeldKept am13e230x (kept_read (part 0 98 fields))
  settings_held =
      subst (HeldKept am13e230x) (sym (kept_there placed (omega (arith, placed_long))) ∙ ap kept_read bodies_placed)
      (larger_held am13e230x record_is_long placed (each_append (replicate 60 0) fields (each_replicate 60 0 (omega arith)) each) (omega (arith, placed_long)))

  pub area_held : HeldLarge (large_contents_read fields)
  area_held = record {
    settings = settings_held;
    name = record { size = length_part 98 64 fields (omega arith); each = each_part 98 64 fields each };
  }

  pub made_after_contents : number_at large_form_at 2 fields ≡ 2 → get_or fields zero_at 0 ≡ 0 → large_fields_of (large_contents_read fields) ≡ fields
  unfolding large_fields_of
  made_after_contents form zero =
      let number : bytes_of 2 2 ≡ part 162 2 fields = ap (bytes_of 2) (sym form) ∙ number_again fields each 162 2 (omega arith) in
      rw (
        long_again (part 0 98 fields) (each_part 0 98 fields each) (get_or-take 98 fields 53 0 (omega arith) ∙ zero) (length_part 0 98 fields (omega arith)),
        number,
        parts_join 98 64 2 fields,
        parts_join 0 98 66 fields,
      )
      (take_all 164 fields (omega arith))

-- ---- what an answer of 0 of the writer says

-- the fields that it was handed, and the image that it has left
record Taken (fields left : List ℕ) : Type 0 where
  size : length fields ≡ large_area_size
  form : number_at large_form_at 2 fields ≡ 2
  zero : get_or fields zero_at 0 ≡ 0
  allowed : is_allowed (large_contents_read fields).settings.shown ≡ true
  image : left ≡ image_of (large_contents_read fields)

fields_taken : (fields image : List ℕ) → (write_large_from_c fields image).answer ≡ 0 → Taken fields (write_large_from_c fields image).area
unfolding write_large_from_c write_of pick
fields_taken fields image =
    by_pick Promised (not (eqb (length image) large_size)) _ _ (λ y e. absurd (omega arith))
    (λ n. by_pick Promised (not (eqb (length fields) large_area_size)) _ _ (λ y e. absurd (omega arith))
    (λ m. by_pick Promised (not (eqb (number_at large_form_at 2 fields) 2)) _ _ (λ y e. absurd (omega arith))
    (λ f. by_pick Promised (not (eqb (get_or fields zero_at 0) 0)) _ _ (λ y e. absurd (omega arith))
    (λ o. by_pick Wrote (not (eqb (length image) large_size)) _ _ (λ y e. absurd (omega arith))
    (λ p. by_pick Wrote (not (is_allowed (large_contents_read fields).settings.shown)) _ _ (λ y e. absurd (omega arith))
    (λ q e. record {
      size = eqb-true _ _ (not-false _ m);
      form = eqb-true _ _ (not-false _ f);
      zero = eqb-true _ _ (not-false _ o);
      allowed = not-false _ q;
      image = refl;
    }))))))
  where
    Promised : Stored → Type 0
    Promised left = left.answer ≡ 0 → Taken fields left.area

    Wrote : WriteLeft → Type 0
    Wrote left = Promised (written_from_c left)

-- ---- the two rules

-- where the writer answers 0, the reader answers 0 for the image that it left, and stores the same fields
pub large_read_after_write_from_c : (fields image area : List ℕ) → ((k : ℕ) → get_or fields k 0 < 256) → (write_large_from_c fields image).answer ≡ 0
    → length area ≡ large_area_size → read_large_from_c (write_large_from_c fields image).area area ≡ stored 0 fields
large_read_after_write_from_c fields image area each e size =
    let taken = fields_taken fields image e in
    let contents = large_contents_read fields in
    ap (λ (written : List ℕ). read_large_from_c written area) taken.image
    ∙ ap (λ (told : LargeTold). stored_by (numbered told.number told.entry) large_area_size (large_fields_of told.contents) area)
    (large_image_reads contents (area_held fields taken.size each) refl taken.allowed)
    ∙ bytes_stored large_area_size (large_fields_of contents) area size
    ∙ ap (stored 0) (made_after_contents fields taken.size each taken.form taken.zero)

-- where the reader answers 0 for an image that is not blank, the writer answers 0 for the fields that it stored, and leaves the same image
pub large_write_after_read_from_c : (image fields area : List ℕ) → ((k : ℕ) → get_or image k 0 < 256) → (read_large_from_c image fields).answer ≡ 0
    → all_are 0xFF image ≡ false → length area ≡ large_size → write_large_from_c (read_large_from_c image fields).area area ≡ stored 0 image
unfolding pick
large_write_after_read_from_c image fields area each e written size =
    let read = read_of image in
    let kept = fields_stored (numbered read.number read.entry) large_area_size (large_fields_of read.contents) fields e in
    ap (λ (fields : List ℕ). write_large_from_c fields area) kept.1
    ∙ fields_written read.contents (read_is_held image each kept.0) (read_is_two image each) area size
    ∙ ap written_from_c (large_write_after_read image each area size kept.0 written)
