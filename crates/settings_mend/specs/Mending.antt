-- T-11, Mend a settings image: what a damaged one becomes, and how many bytes that changes.
use Rattle.std.specs.Prelude.{List, [], ◌∷◌, ◌++◌, ℕ, leb, get_or, Result, Ok, Err}
use Rattle.octets.specs.Choice.{pick}
use Rattle.octets.specs.Number.{part}
use Rattle.octets.specs.Alike.{differing}
use Rattle.settings.specs.declared.Form.TheVariants.{One}
use Rattle.settings.specs.Layout.{form1, table_of, pairs_of}
use Rattle.settings.specs.Values.{blank_settings}
use Rattle.settings.specs.Image.{filler_of, sealed}
use Rattle.settings_mend.specs.declared.Examined.{Examined}
use Rattle.settings_mend.specs.declared.Examined.TheVariants as examined
use Rattle.settings_mend.specs.declared.Changes.{Changes}
use Rattle.settings_mend.specs.declared.MendError.{MendError}
use Rattle.settings_mend.specs.declared.MendError.TheVariants.{SizeWrong, FormTwo}
use Rattle.settings_mend.specs.Examining.{examined_of}

-- ---- the mended image

-- a value, or the blank default where it is above the greatest that is allowed
unfoldable pub allowed_or : ℕ → ℕ → ℕ → ℕ
allowed_or value most blank = pick (leb value most) value blank

-- "sets values of body 3 that aren't allowed to the blank defaults": reset mode, alert, readout in two bytes, of which any is allowed, settings
-- protected, and the zero byte
unfoldable pub mended_values : List ℕ → List ℕ
mended_values body =
    allowed_or (get_or body 0 0) 2 blank_settings.shown.reset_mode
    ∷ allowed_or (get_or body 1 0) 2 blank_settings.shown.alert
    ∷ (part 2 2 body ++ (allowed_or (get_or body 4 0) 1 blank_settings.shown.settings_protected ∷ 0 ∷ []))

-- "keeps bodies 1, 2, 4, 5 and 6": bytes 52 to 99 and 106 to 125
abbrev pub mended_bodies : List ℕ → List ℕ
mended_bodies image = part 52 48 image ++ (mended_values (part 100 6 image) ++ part 106 20 image)

-- "puts the table and the filler right, .. writes the checksum"
unfoldable pub mended : List ℕ → List ℕ
mended image = sealed (pairs_of (table_of form1) ++ (mended_bodies image ++ filler_of One))

-- ---- what was changed

-- "Each number equals the count of differing places there."
abbrev pub changed : ℕ → ℕ → List ℕ → List ℕ → ℕ
changed at count before after = differing (part at count before) (part at count after)

-- "reports, for table (bytes 0 to 51), filler, values and checksum, how many bytes changed"; the filler is bytes 126 to 1,019, the values are body 3,
-- bytes 100 to 105
unfoldable pub changes_of : List ℕ → List ℕ → Changes
changes_of before after = record {
  table = changed 0 52 before after;
  filler = changed 126 894 before after;
  values = changed 100 6 before after;
  checksum = changed 1020 4 before after;
}

-- "four zeros"
abbrev pub no_changes : Changes
no_changes = record { table = 0; filler = 0; values = 0; checksum = 0 }

-- ---- the tool

-- an answer's number, and the four counts that go with it
pub record MendTold : Type 0 where
  pub number : ℕ
  pub changes : Changes

abbrev pub told : ℕ → Changes → MendTold
told number changes = record { number = number; changes = changes }

abbrev pub mend_told : Result Changes MendError → MendTold
mend_told (Ok changes) = told 0 changes
mend_told (Err SizeWrong) = told 3 no_changes
mend_told (Err FormTwo) = told 5 no_changes

-- all that the tool leaves: what it tells, and the image
pub record MendLeft : Type 0 where
  pub told : MendTold
  pub image : List ℕ

abbrev pub mend_left : MendTold → List ℕ → MendLeft
mend_left told image = record { told = told; image = image }

-- "An image the reader accepts, blank included, comes back unchanged with four zeros."; a refused one keeps every byte
abbrev pub mend_as : List ℕ → Result Examined MendError → MendLeft
mend_as image (Err SizeWrong) = mend_left (told 3 no_changes) image
mend_as image (Ok examined.Accepted) = mend_left (told 0 no_changes) image
mend_as image (Err FormTwo) = mend_left (told 5 no_changes) image
mend_as image (Ok examined.Damaged) = mend_left (told 0 (changes_of image (mended image))) (mended image)

unfoldable pub mend_of : List ℕ → MendLeft
mend_of image = mend_as image (examined_of image)
