-- Demand 2: "read after write gives the same settings, and write after read gives the same bytes unless the image was blank." On the larger part, T-10.
-- `read_of` and `write_of` are what `settings_large::read` and `settings_large::write` are proved to do.
use Rattle.settings.specs.Reader.{Checked}
use Rattle.std.specs.Prelude.{Some, None, Result, Ok, Err, IsErr}
use mathlib.Core.Path.{◌≡◌, refl, sym, ap, ◌∙◌}
use mathlib.Core.Bool.{true, false, true≢false, not}
use mathlib.Core.List.{List}
use Prim.Native.Nat.{ℕ, ◌<◌}
use native.Mathlib.Omega.{arith}
use borrow.Author.Tests.{eq-eqb, eqb-false}
use lib.Dec.{eqb}
use lib.ListN.{length, get_or, replicate}
use Rattle.octets.specs.Choice.{pick}
use Rattle.octets.specs.Alike.{all_are}
use Rattle.octets.proofs.Parts.{each_replicate}
use Rattle.octets.proofs.Searching.{by_pick}
use Rattle.octets.proofs.AlikeLaws.{replicate_all_are}
use Rattle.parts.specs.Parts.{am13e230x}
use Rattle.settings.specs.declared.Form.{Form}
use Rattle.settings.specs.declared.Form.TheVariants.{Two}
use Rattle.settings.specs.declared.Refusal.{Refusal}
use Rattle.settings.specs.Values.{is_allowed, no_name}
use Rattle.settings.specs.Layout.{offset_of, sum_of}
use Rattle.settings.specs.Answers.{WriteLeft, write_left}
use Rattle.settings.proofs.ReaderLaws.{refuses}
use Rattle.settings_large.specs.Contents.{LargeContents}
use Rattle.settings_large.specs.Contents.{contents_of, contents_in, blank_contents, no_contents}
use Rattle.settings_large.specs.Image.{large_size, image_of}
use Rattle.settings_large.specs.Reader.{accepted, read_told, checked_of, read_as, read_of}
use Rattle.settings_large.specs.Writer.{is_one, write_of}
use Rattle.settings_large.proofs.PassingLaws.{Passed, Good, checked_is_good, passes}
use Rattle.c_records.specs.Records.{record_size}
use Rattle.claims.specs.Held.{Bytes, HeldLarge}
use Rattle.claims.proofs.Settings.HeldSettings.{part_held, blank_kept_held, larger_found_is_held}
use Rattle.claims.proofs.Settings.Larger.LargeImage.{image_says, image_passes, read_is_allowed, written_again}

pub record_is_long : record_size am13e230x ≡ 118
unfolding record_size pick
record_is_long = refl

-- what is written, into any area of the right size
pub written_is : (c : LargeContents) (area : List ℕ) → length area ≡ large_size → c.form ≡ Two → is_allowed c.settings.shown ≡ true
    → write_of c area ≡ write_left 0 (image_of c)
unfolding write_of pick
written_is c area size form allowed = rw (eq-eqb (length area) large_size size, form, allowed)

-- what has passed the reader's tests is accepted
passed_reads : (image : List ℕ) → Passed image → read_of image ≡ accepted (contents_in image)
unfolding read_of
passed_reads image passed = ap (read_as image) (passes image passed)

module _ (c : LargeContents) (held : HeldLarge c) (form : c.form ≡ Two) (allowed : is_allowed c.settings.shown ≡ true) where
  pub large_image_reads : read_of (image_of c) ≡ accepted c
  large_image_reads =
      passed_reads (image_of c) (image_passes c held allowed) ∙ ap accepted (image_says c held allowed)
      ∙ ap (λ (two : Form). accepted (contents_of two c.settings c.name)) (sym form)

  -- reading what was written gives the same settings and name
  pub large_read_after_write : (area : List ℕ) → length area ≡ large_size → read_of (write_of c area).image ≡ accepted c
  large_read_after_write area size = ap (λ left. read_of left.image) (written_is c area size form allowed) ∙ large_image_reads

-- ---- an image that is accepted and not blank

module _ (image : List ℕ) (each : (k : ℕ) → get_or image k 0 < 256) where
  name_is_held : (found : Checked) → Good image found → (read_as image found).number ≡ 0 → Bytes 64 (read_as image found).contents.name
  unfolding Good no_name offset_of sum_of
  name_is_held (Ok None) good e = record { size = refl; each = each_replicate 64 0xFF (omega arith) }
  name_is_held (Ok (Some form)) passed e = part_held image each 158 64 (omega (arith, passed.size))
  name_is_held (Err refusal) good e = absurd (eqb-false _ _ (refuses refusal) e)

  -- what the reader gives has form 2, and can be held
  form_is_two : (found : Checked) → (read_as image found).contents.form ≡ Two
  form_is_two (Ok None) = refl
  form_is_two (Ok (Some form)) = refl
  form_is_two (Err refusal) = refl

  pub read_is_two : (read_of image).contents.form ≡ Two
  unfolding read_of
  read_is_two = form_is_two (checked_of image)

  pub read_is_held : (read_of image).number ≡ 0 → HeldLarge (read_of image).contents
  unfolding read_of
  read_is_held e = record {
    settings = larger_found_is_held am13e230x record_is_long image each (checked_of image) (checked_is_good image) e;
    name = name_is_held (checked_of image) (checked_is_good image) e;
  }

  module _ (area : List ℕ) (size : length area ≡ large_size) where
    passed_is_written : Passed image → write_of (contents_in image) area ≡ write_left 0 image
    passed_is_written passed =
        written_is (contents_in image) area size refl (read_is_allowed image passed each) ∙ ap (write_left 0) (written_again image passed each)

    found_is_written : (found : Checked) → Good image found → (read_as image found).number ≡ 0 → all_are 0xFF image ≡ false
        → write_of (read_as image found).contents area ≡ write_left 0 image
    unfolding Good
    found_is_written (Ok None) blank e written = absurd (true≢false (sym blank.1 ∙ written))
    found_is_written (Ok (Some form)) passed e written = passed_is_written passed
    found_is_written (Err refusal) good e written = absurd (eqb-false _ _ (refuses refusal) e)

    -- writing what was read gives the same bytes
    pub large_write_after_read : (read_of image).number ≡ 0 → all_are 0xFF image ≡ false → write_of (read_of image).contents area ≡ write_left 0 image
    unfolding read_of
    large_write_after_read = found_is_written (checked_of image) (checked_is_good image)

-- ---- a blank image

-- T-10: "blank is all of it 0xFF"
pub large_blank_reads : read_of (replicate large_size 0xFF) ≡ accepted blank_contents
unfolding read_of checked_of pick
large_blank_reads = rw (replicate_all_are 0xFF large_size)

blank_held : HeldLarge blank_contents
unfolding no_name
blank_held = record { settings = blank_kept_held am13e230x record_is_long; name = record { size = refl; each = each_replicate 64 0xFF (omega arith) } }

-- writing the contents of a blank image gives one that reads the same
pub large_blank_written_reads : (area : List ℕ) → length area ≡ large_size → read_of (write_of blank_contents area).image ≡ accepted blank_contents
unfolding is_allowed pick
large_blank_written_reads area size = large_read_after_write blank_contents blank_held refl refl area size

-- ---- what stands beside a refusal

-- no contents go to the caller
pub large_refused_reading_gives_none : (answer : Result LargeContents Refusal) → ((read_told answer).number ≡ 0 → ⊥) → IsErr answer
large_refused_reading_gives_none (Ok contents) refused = absurd (refused refl)
large_refused_reading_gives_none (Err refusal) refused = refl

-- what stands there in the definitions is refused in turn
pub large_no_contents_are_refused : (area : List ℕ) → length area ≡ large_size → write_of no_contents area ≡ write_left 8 area
unfolding write_of is_allowed pick
large_no_contents_are_refused area size = rw (eq-eqb (length area) large_size size)

-- a refused writer changes no byte
pub large_writer_keeps : (contents : LargeContents) (image : List ℕ) → ((write_of contents image).number ≡ 0 → ⊥) → (write_of contents image).image ≡ image
unfolding write_of
large_writer_keeps contents image =
    by_pick Same (not (eqb (length image) large_size)) (write_left 3 image) _ (λ y h. refl)
    (λ n. by_pick Same (is_one contents.form) (write_left 5 image) _ (λ y h. refl)
    (λ m. by_pick Same (not (is_allowed contents.settings.shown)) (write_left 8 image) (write_left 0 (image_of contents)) (λ y h. refl) (λ o h. absurd (h refl))))
  where
    Same : WriteLeft → Type 0
    Same left = (left.number ≡ 0 → ⊥) → left.image ≡ image
