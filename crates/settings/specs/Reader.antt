-- 01, Numbers of refused calls: "Checked in this order .. the settings reader 3-8"; T-09, which form an image has.
use Rattle.std.specs.Prelude.{ℕ, ◌-◌, Bool, false, not, List, eqb, length, get_or, take, Option, Some, None, Result, Ok, Err}
use Rattle.octets.specs.Choice.{pick}
use Rattle.octets.specs.Number.{part, number_at}
use Rattle.octets.specs.Alike.{all_are}
use Rattle.checksum.specs.Checksum.{checksum_of}
use Rattle.settings.specs.declared.Form.{Form}
use Rattle.settings.specs.declared.Form.TheVariants.{One, Two}
use Rattle.settings.specs.declared.Forms.{Forms}
use Rattle.settings.specs.declared.Forms.TheVariants.{Both, OnlyOne, OnlyTwo}
use Rattle.settings.specs.declared.Refusal.{Refusal}
use Rattle.settings.specs.declared.Refusal.TheVariants.{SizeWrong, ChecksumDiffers, FormUnknown, EntryDiffers, FillerDiffers, ValueNotAllowed}
use Rattle.settings.specs.Layout.{layout_of, image_size, checksum_at, count_of, bodies_end}
use Rattle.settings.specs.Entries.{differing_entry}
use Rattle.settings.specs.Bodies.{body_in, shown_in, contents_in}
use Rattle.settings.specs.Values.{is_allowed, blank_contents}
use Rattle.settings.specs.Answers.{ReadTold, refusal_numbered, accepted, refused}

-- "An image of 1,024 bytes 0xFF is blank"
abbrev pub is_blank : List ℕ → Bool
is_blank image = pick (eqb (length image) image_size) (all_are 0xFF image) false

-- 4: "checksum differs"
unfoldable pub checksum_differs : List ℕ → Bool
checksum_differs image = not (eqb (number_at checksum_at 4 image) (checksum_of (take checksum_at image)))

-- 5, T-09: "5 allows form 1 with 6 and form 2 with 7"
unfoldable pub is_form : Form → List ℕ → Bool
is_form form image =
    pick (eqb (number_at 0 2 image) (layout_of form).form) (eqb (number_at 2 2 image) (count_of (layout_of form))) false

-- the form of an image, among those that are taken: by the reader both, by a move the one that it starts from
unfoldable pub found_in : Forms → List ℕ → Option Form
found_in Both image = pick (is_form One image) (Some One) (pick (is_form Two image) (Some Two) None)
found_in OnlyOne image = pick (is_form One image) (Some One) None
found_in OnlyTwo image = pick (is_form Two image) (Some Two) None

-- 7: "a byte of 126..1,019 is not 0xFF"; T-09: "0xFF fills the rest up to the checksum"
unfoldable pub filler_differs : Form → List ℕ → Bool
filler_differs form image =
    not (all_are 0xFF (part (bodies_end (layout_of form)) (checksum_at - bodies_end (layout_of form)) image))

-- 8: "a value in body 3 is not allowed", its zero byte among them
unfoldable pub value_not_allowed : Form → List ℕ → Bool
value_not_allowed form image =
    not (pick (is_allowed (shown_in (layout_of form) image)) (eqb (get_or (body_in (layout_of form) 3 image) 5 0) 0) false)

-- what an image is found to be: refused, blank, or written in a form
abbrev pub Checked : Type 0
Checked = Result (Option Form) Refusal

-- what an image of a form is found to be
unfoldable pub checked_in : Form → List ℕ → Checked
checked_in form image =
    pick (not (eqb (differing_entry (layout_of form) image) 0)) (Err (EntryDiffers (differing_entry (layout_of form) image)))
    (pick (filler_differs form image) (Err FillerDiffers)
    (pick (value_not_allowed form image) (Err ValueNotAllowed)
    (Ok (Some form))))

abbrev pub checked_found : List ℕ → Option Form → Checked
checked_found image (Some form) = checked_in form image
checked_found image None = Err FormUnknown

-- what an image that is not blank is found to be
unfoldable pub checked_written : Forms → List ℕ → Checked
checked_written forms image =
    pick (checksum_differs image) (Err ChecksumDiffers) (checked_found image (found_in forms image))

-- what an image is found to be: blank, written in one of the forms that are taken, or refused
unfoldable pub checked_of : Forms → List ℕ → Checked
checked_of forms image =
    pick (not (eqb (length image) image_size)) (Err SizeWrong)
    (pick (is_blank image) (Ok None) (checked_written forms image))

abbrev pub read_as : List ℕ → Checked → ReadTold
read_as image (Ok None) = accepted blank_contents
read_as image (Ok (Some form)) = accepted (contents_in form image)
read_as image (Err refusal) = refused (refusal_numbered refusal)

-- the reader
unfoldable pub read_of : List ℕ → ReadTold
read_of image = read_as image (checked_of Both image)

-- whether it accepts an image
unfoldable pub is_accepted : List ℕ → Bool
is_accepted image = eqb (read_of image).number 0
