-- T-10: "Refusals: the old numbers and order, with this part's limits; 3, settings area not 2,048 bytes; 7 covers the second half."
use Rattle.std.specs.Prelude.{ℕ, ◌-◌, Bool, true, false, not, List, eqb, length, get_or, Some, None, Result, Ok, Err}
use Rattle.octets.specs.Choice.{pick}
use Rattle.octets.specs.Number.{part}
use Rattle.octets.specs.Alike.{all_are}
use Rattle.settings.specs.declared.Form.TheVariants.{Two}
use Rattle.settings.specs.declared.Refusal.{Refusal}
use Rattle.settings.specs.declared.Refusal.TheVariants.{SizeWrong, ChecksumDiffers, FormUnknown, EntryDiffers, FillerDiffers, ValueNotAllowed}
use Rattle.settings.specs.Values.{is_allowed}
use Rattle.settings.specs.Layout.{large, image_size, checksum_at, bodies_end}
use Rattle.settings.specs.Entries.{differing_entry}
use Rattle.settings.specs.Bodies.{body_in, shown_in}
use Rattle.settings.specs.Answers.{Numbered, refusal_numbered, SettingsTold}
use Rattle.settings.specs.Reader.{Checked, checksum_differs, is_form}
use Rattle.settings_large.specs.Contents.{LargeContents, contents_in, blank_contents, no_contents}
use Rattle.settings_large.specs.Image.{large_size}

-- 7: a byte of 222..1,019 is not 0xFF, or one of 1,024..2,047
unfoldable pub filler_differs : List ℕ → Bool
filler_differs image =
    pick (all_are 0xFF (part (bodies_end large) (checksum_at - bodies_end large) image)) (not (all_are 0xFF (part image_size (large_size - image_size) image))) true

-- 8, 01: "a value in body 3 is not allowed", its zero byte among them
unfoldable pub value_not_allowed : List ℕ → Bool
value_not_allowed image = not (pick (is_allowed (shown_in large image)) (eqb (get_or (body_in large 3 image) 5 0) 0) false)

-- what an image of this part's form is found to be
unfoldable pub checked_in : List ℕ → Checked
checked_in image =
    pick (not (eqb (differing_entry large image) 0)) (Err (EntryDiffers (differing_entry large image)))
    (pick (filler_differs image) (Err FillerDiffers)
    (pick (value_not_allowed image) (Err ValueNotAllowed)
    (Ok (Some Two))))

-- 4: of bytes 0 to 1,019 at 1,020; 5: "form 2, no form 1", with its seven entries
unfoldable pub checked_written : List ℕ → Checked
checked_written image =
    pick (checksum_differs image) (Err ChecksumDiffers)
    (pick (not (is_form Two image)) (Err FormUnknown) (checked_in image))

-- "blank is all of it 0xFF"
unfoldable pub checked_of : List ℕ → Checked
checked_of image =
    pick (not (eqb (length image) large_size)) (Err SizeWrong)
    (pick (all_are 0xFF image) (Ok None) (checked_written image))

-- all that the reader tells
pub record LargeTold : Type 0 where
  pub number : ℕ
  pub entry : ℕ
  pub contents : LargeContents

abbrev pub accepted : LargeContents → LargeTold
accepted contents = record { number = 0; entry = 0; contents = contents }

abbrev pub refused : Numbered → LargeTold
refused told = record { number = told.number; entry = told.entry; contents = no_contents }

abbrev pub read_told : Result LargeContents Refusal → LargeTold
read_told (Ok contents) = accepted contents
read_told (Err refusal) = refused (refusal_numbered refusal)

-- what a session takes of it: neither form nor name
abbrev pub settings_only : LargeTold → SettingsTold
settings_only told = record { number = told.number; entry = told.entry; settings = told.contents.settings }

abbrev pub read_as : List ℕ → Checked → LargeTold
read_as image (Ok None) = accepted blank_contents
read_as image (Ok (Some form)) = accepted (contents_in image)
read_as image (Err refusal) = refused (refusal_numbered refusal)

-- the reader
unfoldable pub read_of : List ℕ → LargeTold
read_of image = read_as image (checked_of image)
