-- What is found of an image in a layout, and what is written in it, whichever: both forms and the larger part's share it.
use Rattle.std.specs.Prelude.{ℕ, ◌-◌, Bool, true, false, not, List, Result, Ok, Err, eqb, get_or, length, replicate, take}
use Rattle.std.proofs.lemmas.List.Edits.{sets}
use Rattle.octets.specs.Choice.{pick}
use Rattle.octets.specs.Number.{part, bytes_of, number_at}
use Rattle.octets.specs.Alike.{all_are}
use Rattle.checksum.specs.Checksum.{checksum_of}
use Rattle.settings.specs.declared.Refusal.{Refusal}
use Rattle.settings.specs.declared.Refusal.TheVariants.{ChecksumDiffers, FormUnknown, EntryDiffers, FillerDiffers, ValueNotAllowed}
use Rattle.settings.specs.Layout.{Layout, image_size, checksum_at, count_of, table_end, bodies_end, table_of, pairs_of}
use Rattle.settings.specs.Entries.{differing_entry}
use Rattle.settings.specs.Bodies.{body_in, shown_in}
use Rattle.settings.specs.Values.{is_allowed}
use Rattle.settings.specs.Reader.{checksum_differs}

-- 5: the layout's form and its count of entries
unfoldable pub is_laid_out : Layout → List ℕ → Bool
is_laid_out layout image = pick (eqb (number_at 0 2 image) layout.form) (eqb (number_at 2 2 image) (count_of layout)) false

-- 7: a byte from the bodies' end up to the checksum is not 0xFF, or one of the 1,024 bytes after the first 1,024, where there are any
unfoldable pub rest_differs : Layout → List ℕ → Bool
rest_differs layout image =
    pick (all_are 0xFF (part (bodies_end layout) (checksum_at - bodies_end layout) image)) (not (all_are 0xFF (part image_size image_size image))) true

-- 8: "a value in body 3 is not allowed", its zero byte among them
unfoldable pub value_wrong : Layout → List ℕ → Bool
value_wrong layout image = not (pick (is_allowed (shown_in layout image)) (eqb (get_or (body_in layout 3 image) 5 0) 0) false)

-- 6, then 7, then 8
unfoldable pub checked_parts : Layout → List ℕ → Result Unit Refusal
checked_parts layout image =
    pick (not (eqb (differing_entry layout image) 0)) (Err (EntryDiffers (differing_entry layout image)))
    (pick (rest_differs layout image) (Err FillerDiffers)
    (pick (value_wrong layout image) (Err ValueNotAllowed)
    (Ok tt)))

-- 4, then 5, then those
unfoldable pub checked_laid_out : Layout → List ℕ → Result Unit Refusal
checked_laid_out layout image =
    pick (checksum_differs image) (Err ChecksumDiffers)
    (pick (not (is_laid_out layout image)) (Err FormUnknown) (checked_parts layout image))

-- table, six bodies and a name in so many bytes 0xFF, as far as there is room: the name ends where the bodies do
abbrev pub front_laid_out : Layout → List ℕ → List ℕ → ℕ → List ℕ
front_laid_out layout six name size =
    sets (sets (sets (replicate size 0xFF) 0 (pairs_of (table_of layout))) (table_end layout) six) (bodies_end layout - length name) name

-- and their checksum
unfoldable pub laid_out : Layout → List ℕ → List ℕ → ℕ → List ℕ
laid_out layout six name size =
    sets (front_laid_out layout six name size) checksum_at (bytes_of 4 (checksum_of (take checksum_at (front_laid_out layout six name size))))
