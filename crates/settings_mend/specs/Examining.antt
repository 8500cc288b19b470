-- T-11: "A tool takes a form 1 image of 1,024 bytes". Which images it refuses, which it leaves as they are, and which it mends.
use Rattle.std.specs.Prelude.{not, List, ℕ, eqb, length, Result, Ok, Err}
use Rattle.octets.specs.Choice.{pick}
use Rattle.settings.specs.declared.Form.TheVariants.{Two}
use Rattle.settings.specs.Layout.{image_size}
use Rattle.settings.specs.Reader.{is_form, is_accepted}
use Rattle.settings_mend.specs.declared.Examined.{Examined}
use Rattle.settings_mend.specs.declared.Examined.TheVariants.{Accepted, Damaged}
use Rattle.settings_mend.specs.declared.MendError.{MendError}
use Rattle.settings_mend.specs.declared.MendError.TheVariants.{SizeWrong, FormTwo}

-- "An image the reader accepts, blank included, comes back unchanged", and so does one of form 2; "Refusals: 3; then 5 for an image not accepted whose first four bytes read form 2 and count 7."
unfoldable pub examined_of : List ℕ → Result Examined MendError
examined_of image =
    pick (not (eqb (length image) image_size)) (Err SizeWrong)
    (pick (is_accepted image) (Ok Accepted)
    (pick (is_form Two image) (Err FormTwo)
    (Ok Damaged)))

-- the number of each: one that is not refused has 0
abbrev pub examined_number : Result Examined MendError → ℕ
examined_number (Ok examined) = 0
examined_number (Err SizeWrong) = 3
examined_number (Err FormTwo) = 5
