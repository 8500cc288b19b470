-- What the reader tells.
use Rattle.std.specs.Prelude.{Some, None, Result, Ok, Err, is_ok}
use mathlib.Core.Path.{◌≡◌, refl, sym}
use Prim.Native.Nat.{ℕ, ◌≤◌}
use mathlib.Core.Bool.{false}
use mathlib.Core.List.{List}
use native.Mathlib.Omega.{arith}
use borrow.Author.Tests.{ne_eqb}
use lib.Dec.{eqb}
use lib.ListN.{length}
use Rattle.octets.specs.Choice.{pick}
use Rattle.octets.proofs.Searching.{by_search}
use Rattle.settings.specs.Layout.{Layout, image_size, count_of}
use Rattle.settings.specs.Entries.{entry_differs, differing_entry}
use Rattle.settings.specs.declared.Refusal.{Refusal}
use Rattle.settings.specs.declared.Refusal.TheVariants.{SizeWrong, ChecksumDiffers, FormUnknown, EntryDiffers, FillerDiffers, ValueNotAllowed}
use Rattle.settings.specs.declared.Forms.TheVariants.{Both}
use Rattle.settings.specs.Held.{Contents}
use Rattle.settings.specs.Answers.{refusal_numbered, read_numbered, read_told}
use Rattle.settings.specs.Reader.{Checked, checked_of, read_as, read_of, is_accepted}

-- every refusal has a number
pub refuses : (refusal : Refusal) → eqb (refusal_numbered refusal).number 0 ≡ false
refuses SizeWrong = refl
refuses ChecksumDiffers = refl
refuses FormUnknown = refl
refuses (EntryDiffers entry) = refl
refuses FillerDiffers = refl
refuses ValueNotAllowed = refl

-- what is told of an image has the number and the entry of the answer
pub told_as_numbered : (answer : Result Contents Refusal)
    → ((read_told answer).number ≡ (read_numbered answer).number) × ((read_told answer).entry ≡ (read_numbered answer).entry)
told_as_numbered (Ok contents) = (refl, refl)
told_as_numbered (Err refusal) = (refl, refl)

-- what is not refused has number 0
ok_has_0 : (image : List ℕ) (found : Checked) → is_ok found ≡ eqb (read_as image found).number 0
ok_has_0 image (Ok None) = refl
ok_has_0 image (Ok (Some form)) = refl
ok_has_0 image (Err refusal) = sym (refuses refusal)

pub ok_is_accepted : (image : List ℕ) → is_ok (checked_of Both image) ≡ is_accepted image
unfolding read_of is_accepted
ok_is_accepted image = ok_has_0 image (checked_of Both image)

-- one of another size is refused
pub other_size : (image : List ℕ) → (length image ≡ image_size → ⊥) → is_accepted image ≡ false
unfolding read_of is_accepted checked_of pick
other_size image h = rw (ne_eqb (length image) image_size h)

-- an entry is told by a number that one of them has, or by 0
pub differing_entry_there : (layout : Layout) (image : List ℕ) → differing_entry layout image ≤ count_of layout
unfolding differing_entry
differing_entry_there layout image =
    by_search (λ n. n) 0 (entry_differs layout image) (λ n. n ≤ count_of layout) 1 (count_of layout) (omega arith) (λ k l u. omega arith)
