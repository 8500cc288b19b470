-- Demand 2: "The settings image is read and written by one rule: read after write gives the same settings, and write after read gives the same
-- bytes unless the image was blank." In both forms, T-09.
-- `read_of` and `write_of` are what `settings::read` and `settings::write` are proved to do.
use Rattle.std.specs.Prelude.{Some, None, Result, Ok, Err, IsErr}
use mathlib.Core.Path.{◌≡◌, refl, sym, ap, ◌∙◌}
use mathlib.Core.Bool.{true, false, true≢false}
use mathlib.Core.List.{List}
use Prim.Native.Nat.{ℕ, ◌<◌}
use native.Mathlib.Omega.{arith}
use borrow.Author.Tests.{eq-eqb, eqb-false}
use lib.ListN.{length, get_or, replicate}
use Rattle.octets.specs.Choice.{pick}
use Rattle.octets.proofs.Parts.{each_replicate}
use Rattle.octets.proofs.AlikeLaws.{replicate_all_are}
use Rattle.settings.specs.declared.Form.{Form}
use Rattle.settings.specs.declared.Form.TheVariants.{One}
use Rattle.settings.specs.declared.Forms.TheVariants.{Both}
use Rattle.settings.specs.declared.Refusal.{Refusal}
use Rattle.settings.specs.Held.{Contents}
use Rattle.settings.specs.Layout.{image_size}
use Rattle.settings.specs.Bodies.{contents_in}
use Rattle.settings.specs.Values.{is_allowed, no_name, blank_settings, blank_contents, no_contents}
use Rattle.settings.specs.Image.{image_of}
use Rattle.settings.specs.Answers.{accepted, read_told, write_left}
use Rattle.settings.specs.Reader.{Checked, is_blank, checked_of, read_as, read_of}
use Rattle.settings.specs.Writer.{name_fits, write_of}
use Rattle.settings.proofs.ReaderLaws.{refuses}
use Rattle.claims.specs.Held.{Held, HeldContents}
use Rattle.settings.proofs.AgainLaws.{read_is_allowed}
use Rattle.settings.proofs.PassingLaws.{Passed, Good, checked_is_good, takes, passes}
use Rattle.claims.proofs.Settings.Written.{image_says, image_passes}
use Rattle.claims.proofs.Settings.Accepted.{read_name_fits, written_again}

-- what is written, into any area of the right size
pub written_is : (c : Contents) (area : List ℕ) → length area ≡ image_size → is_allowed c.settings.shown ≡ true → name_fits c.form c.name ≡ true
    → write_of c area ≡ write_left 0 (image_of c)
unfolding write_of pick
written_is c area size allowed fits = rw (eq-eqb (length area) image_size size, allowed, fits)

-- what has passed the reader's tests is accepted
pub passed_reads : (form : Form) (image : List ℕ) → Passed form image → read_of image ≡ accepted (contents_in form image)
unfolding read_of takes
passed_reads form image passed = ap (read_as image) (passes Both form image passed refl)

module _ (c : Contents) (held : HeldContents c) (allowed : is_allowed c.settings.shown ≡ true) (fits : name_fits c.form c.name ≡ true) where
  pub image_reads : read_of (image_of c) ≡ accepted c
  image_reads = passed_reads c.form (image_of c) (image_passes c held allowed fits) ∙ ap accepted (image_says c held allowed fits)

  -- reading what was written gives the same settings, name and form
  pub read_after_write : (area : List ℕ) → length area ≡ image_size → read_of (write_of c area).image ≡ accepted c
  read_after_write area size = ap (λ left. read_of left.image) (written_is c area size allowed fits) ∙ image_reads

-- ---- an image that is accepted and not blank

module _ (image : List ℕ) (each : (k : ℕ) → get_or image k 0 < 256) (area : List ℕ) (size : length area ≡ image_size) where
  pub passed_is_written : (form : Form) → Passed form image → write_of (contents_in form image) area ≡ write_left 0 image
  passed_is_written form passed =
      written_is (contents_in form image) area size (read_is_allowed form image passed.size passed.value) (read_name_fits image form)
      ∙ ap (write_left 0) (written_again form image passed each)

  found_is_written : (found : Checked) → Good Both image found → (read_as image found).number ≡ 0 → is_blank image ≡ false
      → write_of (read_as image found).contents area ≡ write_left 0 image
  unfolding Good
  found_is_written (Ok None) blank e written = absurd (true≢false (sym blank ∙ written))
  found_is_written (Ok (Some form)) good e written = passed_is_written form good.0
  found_is_written (Err refusal) good e written = absurd (eqb-false _ _ (refuses refusal) e)

  -- writing what was read gives the same bytes
  pub write_after_read : (read_of image).number ≡ 0 → is_blank image ≡ false → write_of (read_of image).contents area ≡ write_left 0 image
  unfolding read_of
  write_after_read = found_is_written (checked_of Both image) (checked_is_good image Both)

-- ---- a blank image

pub blank_reads : read_of (replicate image_size 0xFF) ≡ accepted blank_contents
unfolding read_of checked_of pick
blank_reads = rw (replicate_all_are 0xFF image_size)

pub blank_held : Held blank_settings
blank_held = record {
  shown = record { readout = omega arith; bcr = omega arith; bsl = omega arith; pointer = omega arith };
  protection = record { size = refl; each = each_replicate 8 0 (omega arith) };
  password = record { size = refl; each = each_replicate 32 0xFF (omega arith) };
  reset = record { size = refl; each = each_replicate 16 0xFF (omega arith) };
}

pub blank_contents_held : HeldContents blank_contents
unfolding no_name
blank_contents_held = record { settings = blank_held; name = record { size = refl; each = each_replicate 64 0xFF (omega arith) } }

-- no name fits form 1
pub no_name_fits : name_fits One no_name ≡ true
unfolding name_fits no_name
no_name_fits = replicate_all_are 0xFF 64

-- writing the contents of a blank image gives an image of form 1 that reads the same
pub blank_written_reads : (area : List ℕ) → length area ≡ image_size → read_of (write_of blank_contents area).image ≡ accepted blank_contents
unfolding is_allowed pick
blank_written_reads area size = read_after_write blank_contents blank_contents_held refl no_name_fits area size

-- ---- what stands beside a refusal

-- no contents go to the caller
pub refused_reading_gives_none : (answer : Result Contents Refusal) → ((read_told answer).number ≡ 0 → ⊥) → IsErr answer
refused_reading_gives_none (Ok contents) refused = absurd (refused refl)
refused_reading_gives_none (Err refusal) refused = refl

-- what stands there in the definitions is refused in turn
pub no_contents_are_refused : (area : List ℕ) → length area ≡ image_size → write_of no_contents area ≡ write_left 8 area
unfolding write_of is_allowed pick
no_contents_are_refused area size = rw (eq-eqb (length area) image_size size)
