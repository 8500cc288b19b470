-- 01, Settings image: "Bytes 0-1 form number 1; 2-3 entry count 6; then six entries of kind, offset, length, zero (two bytes each); then the bodies."
-- A layout is a form number and the lengths of the bodies; all else is computed.
use Rattle.std.specs.Prelude.{ℕ, zero, suc, ◌+◌, ◌-◌, ◌*◌, List, [], ◌∷◌, ◌++◌, length, get_or, take}
use Rattle.octets.specs.Number.{bytes_of}
use Rattle.settings.specs.declared.Form.{Form}
use Rattle.settings.specs.declared.Form.TheVariants.{One, Two}

pub record Layout : Type 0 where
  pub form : ℕ
  pub lengths : List ℕ

-- form 1: the lengths of 01's six bodies
abbrev pub form1 : Layout
form1 = record { form = 1; lengths = 32 ∷ 16 ∷ 6 ∷ 8 ∷ 4 ∷ 8 ∷ [] }

-- form 2, T-09: "Settings form 2 has count 7; kind 7 is a 64-byte name.", "the bodies keep their order, the name comes last"
abbrev pub form2 : Layout
form2 = record { form = 2; lengths = 32 ∷ 16 ∷ 6 ∷ 8 ∷ 4 ∷ 8 ∷ 64 ∷ [] }

-- T-10, the larger part's form 2: "The protection body becomes 32 bytes for this part, so the name ends at 222."
abbrev pub large : Layout
large = record { form = 2; lengths = 32 ∷ 16 ∷ 6 ∷ 8 ∷ 4 ∷ 32 ∷ 64 ∷ [] }

abbrev pub layout_of : Form → Layout
layout_of One = form1
layout_of Two = form2

-- "An image of 1,024 bytes", "Bytes 1,020 to 1,023 are the checksum of bytes 0 to 1,019."
abbrev pub image_size : ℕ
image_size = 1024

abbrev pub checksum_at : ℕ
checksum_at = 1020

-- the lengths of some bodies together
unfoldable pub sum_of : List ℕ → ℕ
sum_of [] = 0
sum_of (number ∷ numbers) = number + sum_of numbers

-- "entry count"
abbrev pub count_of : Layout → ℕ
count_of layout = length layout.lengths

-- where the table ends, and the first body begins
abbrev pub table_end : Layout → ℕ
table_end layout = 4 + 8 * count_of layout

-- an entry's body, the entry counted from 1: "length"
abbrev pub length_of : Layout → ℕ → ℕ
length_of layout entry = get_or layout.lengths (entry - 1) 0

-- "offset": the bodies stand one after the other
unfoldable pub offset_of : Layout → ℕ → ℕ
offset_of layout entry = table_end layout + sum_of (take (entry - 1) layout.lengths)

-- where the bodies end, and the filler begins
abbrev pub bodies_end : Layout → ℕ
bodies_end layout = offset_of layout (count_of layout + 1)

-- "kind, offset, length, zero"
abbrev pub entry_of : Layout → ℕ → List ℕ
entry_of layout entry = entry ∷ offset_of layout entry ∷ length_of layout entry ∷ 0 ∷ []

-- the entries from one on, so many of them
unfoldable pub entries_from : Layout → ℕ → ℕ → List ℕ
entries_from layout entry zero = []
entries_from layout entry (suc count) = entry_of layout entry ++ entries_from layout (suc entry) count

-- the table as numbers of two bytes each: the form, the count, the entries
unfoldable pub table_of : Layout → List ℕ
table_of layout = layout.form ∷ count_of layout ∷ entries_from layout 1 (count_of layout)

-- "two bytes each"
unfoldable pub pairs_of : List ℕ → List ℕ
pairs_of [] = []
pairs_of (number ∷ numbers) = bytes_of 2 number ++ pairs_of numbers

-- the place in the table of an entry's field, the fields counted from 0
abbrev pub place_of : ℕ → ℕ → ℕ
place_of entry field = 2 + 4 * (entry - 1) + field
