-- T-10: "Refusals: the old numbers and order, with this part's limits; 3, settings area not 2,048 bytes". Ours: a form that the part has not is 5,
-- after 3 and before 8. 41 never arises, for every name has a place. A refused call changes no byte.
use Rattle.std.specs.Prelude.{Bool, true, false, not, List, ℕ, eqb, length, Result, Ok, Err}
use Rattle.octets.specs.Choice.{pick}
use Rattle.settings.specs.declared.Form.{Form}
use Rattle.settings.specs.declared.Form.TheVariants.{One, Two}
use Rattle.settings.specs.Values.{is_allowed}
use Rattle.settings.specs.Answers.{WriteLeft, write_left}
use Rattle.settings_large.specs.Contents.{LargeContents}
use Rattle.settings_large.specs.declared.LargeWriteError.{LargeWriteError}
use Rattle.settings_large.specs.declared.LargeWriteError.TheVariants as write
use Rattle.settings_large.specs.Image.{large_size, image_of}

abbrev pub write_number : Result Unit LargeWriteError → ℕ
write_number (Ok done) = 0
write_number (Err write.SizeWrong) = 3
write_number (Err write.FormUnknown) = 5
write_number (Err write.ValueNotAllowed) = 8

-- "no form 1"
abbrev pub is_one : Form → Bool
is_one One = true
is_one Two = false

-- the writer, into a lent area
unfoldable pub write_of : LargeContents → List ℕ → WriteLeft
write_of contents area =
    pick (not (eqb (length area) large_size)) (write_left 3 area)
    (pick (is_one contents.form) (write_left 5 area)
    (pick (not (is_allowed contents.settings.shown)) (write_left 8 area)
    (write_left 0 (image_of contents))))
