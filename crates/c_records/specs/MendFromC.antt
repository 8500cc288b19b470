-- T-11 from C: an image is mended where it lies, and the four counts go into an area of their own.
use Rattle.std.specs.Prelude.{ℕ, not, List, ◌++◌, eqb, length}
use Rattle.octets.specs.Choice.{pick}
use Rattle.octets.specs.Number.{bytes_of}
use Rattle.settings_mend.specs.declared.Changes.{Changes}
use Rattle.settings_mend.specs.Mending.{mend_of}
use Rattle.c_records.specs.OneNumber.{refusal}

-- the area has 8 bytes: table, filler, values and checksum, two for each
abbrev pub counts_size : ℕ
counts_size = 8

unfoldable pub counts_of : Changes → List ℕ
counts_of changes = bytes_of 2 changes.table ++ (bytes_of 2 changes.filler ++ (bytes_of 2 changes.values ++ bytes_of 2 changes.checksum))

-- all that is left: the answer, the image, the area
pub record MendStored : Type 0 where
  pub answer : ℕ
  pub image : List ℕ
  pub counts : List ℕ

abbrev pub mend_stored : ℕ → List ℕ → List ℕ → MendStored
mend_stored answer image counts = record { answer = answer; image = image; counts = counts }

-- T-11: "Refusals: 3; then 5 for an image not accepted whose first four bytes read form 2 and count 7."; after them 10, for an area of another size.
-- A refused call changes no byte of either.
unfoldable pub mend_from_c : List ℕ → List ℕ → MendStored
mend_from_c image area =
    pick (not (eqb (mend_of image).told.number 0)) (mend_stored (refusal (mend_of image).told.number) image area)
    (pick (not (eqb (length area) counts_size)) (mend_stored (refusal 10) image area)
    (mend_stored 0 (mend_of image).image (counts_of (mend_of image).told.changes)))
