-- Demand 2 as C sees it: "read after write gives the same settings, and write after read gives the same bytes unless the image was blank."
-- In both forms, T-09. `read_from_c` and `write_from_c` are what `bhorelmu_settings_read` and `bhorelmu_settings_write` are proved to do, and
-- `to_two_from_c` and `to_one_from_c` what `bhorelmu_settings_to_form_2` and `bhorelmu_settings_to_form_1` are, for areas of every size.
use mathlib.Core.Path.{◌≡◌, refl, ap, ◌∙◌}
use mathlib.Core.Bool.{true, false, not}
use mathlib.Core.List.{List}
use Prim.Native.Nat.{ℕ, ◌<◌}
use native.Mathlib.Omega.{arith}
use borrow.Author.Tests.{eq-eqb, eqb-true, eqb-false, not-true, not-false}
use lib.Dec.{eqb}
use lib.ListN.{length, get_or}
use Rattle.octets.specs.Choice.{pick}
use Rattle.octets.specs.Number.{number_at}
use Rattle.octets.proofs.Searching.{by_pick}
use Rattle.settings.specs.declared.Form.{Form}
use Rattle.settings.specs.declared.Form.TheVariants.{One, Two}
use Rattle.settings.specs.Held.{Contents}
use Rattle.settings.specs.Values.{is_allowed}
use Rattle.settings.specs.Layout.{image_size}
use Rattle.settings.specs.Image.{image_of}
use Rattle.settings.specs.Answers.{Numbered, numbered, ReadTold, WriteLeft}
use Rattle.settings.specs.Reader.{is_blank, read_of}
use Rattle.settings.specs.Writer.{name_fits, write_of}
use Rattle.settings.specs.Fields.{zero_at}
use Rattle.c_records.specs.OneNumber.{refusal, refusal_of}
use Rattle.c_records.specs.Stored.{Stored, stored, stored_by}
use Rattle.c_records.specs.FieldsArea.{fields_area_size, form_at, fields_of, is_form_number, contents_read}
use Rattle.c_records.specs.SettingsFromC.{read_from_c, written_from_c, write_from_c, moved_from_c, to_two_from_c, to_one_from_c}
use Rattle.claims.specs.Held.{HeldContents}
use Rattle.claims.proofs.Settings.SettingsRule.{image_reads, write_after_read}
use Rattle.claims.proofs.Settings.HeldSettings.{read_is_held}
use Rattle.claims.proofs.Settings.MovesRule.{other, moved, move_returns}
use Rattle.claims.proofs.Settings.AreaRule.{area_size, area_names, area_unused, contents_after_made, area_held, made_after_contents}

-- ---- what an answer of 0 says

-- the writer was handed contents that are allowed, and has left their image
record Wrote (contents : Contents) (left : List ℕ) : Type 0 where
  allowed : is_allowed contents.settings.shown ≡ true
  fits : name_fits contents.form contents.name ≡ true
  image : left ≡ image_of contents

writer_wrote : (contents : Contents) (image : List ℕ) → refusal (write_of contents image).number ≡ 0 → Wrote contents (write_of contents image).image
unfolding write_of pick
writer_wrote contents image =
    by_pick Promised (not (eqb (length image) image_size)) _ _ (λ y e. absurd (omega arith))
    (λ n. by_pick Promised (not (is_allowed contents.settings.shown)) _ _ (λ y e. absurd (omega arith))
    (λ m. by_pick Promised (not (name_fits contents.form contents.name)) _ _ (λ y e. absurd (omega arith))
    (λ o e. record { allowed = not-false _ m; fits = not-false _ o; image = refl })))
  where
    Promised : WriteLeft → Type 0
    Promised left = refusal left.number ≡ 0 → Wrote contents left.image

record Taken (fields left : List ℕ) : Type 0 where
  size : length fields ≡ fields_area_size
  names : is_form_number (number_at form_at 2 fields) ≡ true
  zero : get_or fields zero_at 0 ≡ 0
  wrote : Wrote (contents_read fields) left

fields_taken : (fields image : List ℕ) → (write_from_c fields image).answer ≡ 0 → Taken fields (write_from_c fields image).area
unfolding write_from_c pick
fields_taken fields image =
    by_pick Promised (not (eqb (length image) image_size)) _ _ (λ y e. absurd (omega arith))
    (λ n. by_pick Promised (not (eqb (length fields) fields_area_size)) _ _ (λ y e. absurd (omega arith))
    (λ m. by_pick Promised (not (is_form_number (number_at form_at 2 fields))) _ _ (λ y e. absurd (omega arith))
    (λ f. by_pick Promised (not (eqb (get_or fields zero_at 0) 0)) _ _ (λ y e. absurd (omega arith))
    (λ o e. record {
      size = eqb-true _ _ (not-false _ m);
      names = not-false _ f;
      zero = eqb-true _ _ (not-false _ o);
      wrote = writer_wrote (contents_read fields) image e;
    }))))
  where
    Promised : Stored → Type 0
    Promised left = left.answer ≡ 0 → Taken fields left.area

-- the reader has stored the fields of what it read, in an area of their size
pub fields_stored : (told : Numbered) (size : ℕ) (bytes area : List ℕ) → (stored_by told size bytes area).answer ≡ 0
    → (told.number ≡ 0) × ((stored_by told size bytes area).area ≡ bytes)
unfolding stored_by pick
fields_stored told size bytes area =
    by_pick Promised (not (eqb (refusal_of told) 0)) _ _
    (λ y e. absurd (eqb-false _ _ (not-true _ y) e))
    (λ n. by_pick Promised (not (eqb (length area) size)) _ _ (λ y e. absurd (omega arith))
    (λ m e. let none : refusal_of told ≡ 0 = eqb-true _ _ (not-false _ n) in (omega arith, refl)))
  where
    Promised : Stored → Type 0
    Promised left = left.answer ≡ 0 → (told.number ≡ 0) × (left.area ≡ bytes)

-- ---- read after write

-- of contents that are accepted the bytes are stored, in any area of their size
pub bytes_stored : (size : ℕ) (bytes area : List ℕ) → length area ≡ size → stored_by (numbered 0 0) size bytes area ≡ stored 0 bytes
unfolding stored_by pick
bytes_stored size bytes area there = rw (eq-eqb (length area) size there)

-- where the writer answers 0, the reader answers 0 for the image that it left, and stores the same fields
pub read_after_write_from_c : (fields image area : List ℕ) → ((k : ℕ) → get_or fields k 0 < 256) → (write_from_c fields image).answer ≡ 0
    → length area ≡ fields_area_size → read_from_c (write_from_c fields image).area area ≡ stored 0 fields
read_after_write_from_c fields image area each e size =
    let taken = fields_taken fields image e in
    let contents = contents_read fields in
    ap (λ (written : List ℕ). read_from_c written area) taken.wrote.image
    ∙ ap (λ (told : ReadTold). stored_by (numbered told.number told.entry) fields_area_size (fields_of told.contents) area)
    (image_reads contents (area_held fields taken.size each) taken.wrote.allowed taken.wrote.fits)
    ∙ bytes_stored fields_area_size (fields_of contents) area size
    ∙ ap (stored 0) (made_after_contents fields taken.size each taken.names taken.zero)

-- ---- write after read

-- the fields of contents that can be held are written as those contents are
written_from_c_lem : (contents : Contents) (area : List ℕ) → HeldContents contents → length area ≡ image_size
    → write_from_c (fields_of contents) area ≡ written_from_c (write_of contents area)
unfolding write_from_c pick
written_from_c_lem contents area held size =
    rw (
      eq-eqb (length area) image_size size,
      eq-eqb (length (fields_of contents)) fields_area_size (area_size contents held),
      area_names contents held,
      eq-eqb (get_or (fields_of contents) zero_at 0) 0 (area_unused contents held),
    )
    (ap (λ (said : Contents). written_from_c (write_of said area)) (contents_after_made contents held))

-- where the reader answers 0 for an image that is not blank, the writer answers 0 for the fields that it stored, and leaves the same image
pub write_after_read_from_c : (image fields area : List ℕ) → ((k : ℕ) → get_or image k 0 < 256) → (read_from_c image fields).answer ≡ 0
    → is_blank image ≡ false → length area ≡ image_size → write_from_c (read_from_c image fields).area area ≡ stored 0 image
unfolding pick
write_after_read_from_c image fields area each e written size =
    let read = read_of image in
    let kept = fields_stored (numbered read.number read.entry) fields_area_size (fields_of read.contents) fields e in
    ap (λ (fields : List ℕ). write_from_c fields area) kept.1
    ∙ written_from_c_lem read.contents area (read_is_held image each kept.0) size
    ∙ ap written_from_c (write_after_read image each area size kept.0 written)

-- ---- the moves

-- where the one move answers 0, the other one answers 0 for the image that it left, and brings the first image back
moves_from_c : (form : Form) (image : List ℕ) → ((k : ℕ) → get_or image k 0 < 256) → (moved_from_c (moved form image)).answer ≡ 0
    → moved_from_c (moved (other form) (moved form image).image) ≡ stored 0 image
unfolding pick
moves_from_c form image each e = ap moved_from_c (move_returns form image each (omega arith))

pub forth_and_back_from_c : (image : List ℕ) → ((k : ℕ) → get_or image k 0 < 256) → (to_two_from_c image).answer ≡ 0 → to_one_from_c (to_two_from_c image).area ≡ stored 0 image
forth_and_back_from_c = moves_from_c One

pub back_and_forth_from_c : (image : List ℕ) → ((k : ℕ) → get_or image k 0 < 256) → (to_one_from_c image).answer ≡ 0 → to_two_from_c (to_one_from_c image).area ≡ stored 0 image
back_and_forth_from_c = moves_from_c Two
