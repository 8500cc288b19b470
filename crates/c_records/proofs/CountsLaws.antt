-- The counts of a mended image: stored piece by piece, and beside the answers of the tool.
use mathlib.Core.Path.{◌≡◌, refl, sym, ap, ◌∙◌}
use mathlib.Core.Bool.{not}
use mathlib.Core.List.{List}
use Prim.Native.Nat.{ℕ}
use borrow.Author.Tests.{eq-eqb, ne_eqb, eqb-false}
use lib.Dec.{eqb}
use lib.ListN.{length, replicate}
use lib.Seq.{sets}
use Rattle.octets.specs.Choice.{pick}
use Rattle.octets.specs.Number.{bytes_of}
use Rattle.octets.proofs.Searching.{by_test}
use Rattle.octets.proofs.StoreLaws.{stored_whole}
use Rattle.settings_mend.specs.declared.Changes.{Changes}
use Rattle.settings_mend.specs.Mending.{MendLeft, mend_of}
use Rattle.settings_mend.specs.Examining.{examined_of, examined_number}
use Rattle.settings_mend.proofs.MendLaws.{mend_has_number, refused_mend_keeps}
use Rattle.c_records.specs.OneNumber.{refusal}
use Rattle.c_records.specs.Stored.{Stored, stored}
use Rattle.c_records.specs.MendFromC.{counts_of, mend_stored, mend_from_c}

-- four numbers of two bytes each, stored into zeros one after the other
pub counts_joined : (changes : Changes)
    → sets (sets (sets (sets (replicate 8 0) 0 (bytes_of 2 changes.table)) 2 (bytes_of 2 changes.filler)) 4 (bytes_of 2 changes.values)) 6 (bytes_of 2 changes.checksum)
    ≡ counts_of changes
unfolding counts_of bytes_of
counts_joined changes = refl

pub length_counts : (changes : Changes) → length (counts_of changes) ≡ 8
unfolding counts_of bytes_of
length_counts changes = refl

-- what is stored beside the tool's answer, in an area of the right size
pub stored_beside : (image area : List ℕ) → length area ≡ 8 → (left : MendLeft) → left ≡ mend_of image → (after : Stored)
    → after ≡ pick (not (eqb left.told.number 0)) (stored (refusal left.told.number) area) (stored 0 (sets area 0 (counts_of left.told.changes)))
    → mend_stored after.answer left.image after.area ≡ mend_from_c image area
unfolding mend_from_c pick
stored_beside image area size left is after e =
    rw (e, is, stored_whole area (counts_of (mend_of image).told.changes) (size ∙ sym (length_counts (mend_of image).told.changes)))
    (by_test (eqb (mend_of image).told.number 0)
    (λ y. rw (y, eq-eqb (length area) 8 size))
    (λ n. rw n (ap (λ (l : List ℕ). mend_stored (refusal (mend_of image).told.number) l area) (refused_mend_keeps image (eqb-false _ _ n)))))

-- in an area of another size nothing is stored, and the image's own refusal is told first
pub told_alone : (image area : List ℕ) → (length area ≡ 8 → ⊥)
    → mend_stored (pick (not (eqb (examined_number (examined_of image)) 0)) (refusal (examined_number (examined_of image))) (refusal 10)) image area ≡ mend_from_c image area
unfolding mend_from_c pick
told_alone image area other =
    rw (← mend_has_number image)
    (by_test (eqb (mend_of image).told.number 0)
    (λ y. rw (y, ne_eqb (length area) 8 other))
    (λ n. rw n))
