-- 01, Settings image: "Entries are checked by entry and by field".
use Rattle.std.specs.Prelude.{ℕ, ◌*◌, Bool, not, List, eqb, get_or}
use Rattle.octets.specs.Number.{number_at}
use Rattle.octets.specs.Search.{first_from, some_from}
use Rattle.settings.specs.Layout.{Layout, count_of, table_of, place_of}

-- a field of an entry is not the table's
unfoldable pub field_differs : Layout → List ℕ → ℕ → ℕ → Bool
field_differs layout image entry field =
    not (eqb (number_at (2 * place_of entry field) 2 image) (get_or (table_of layout) (place_of entry field) 0))

-- "Entries are checked by entry and by field"
unfoldable pub entry_differs : Layout → List ℕ → ℕ → Bool
entry_differs layout image entry = some_from (field_differs layout image entry) 0 4

-- 6: "the search ends at the first that differs; that entry's number, counted from 1"; 0 where none does
unfoldable pub differing_entry : Layout → List ℕ → ℕ
differing_entry layout image = first_from (entry_differs layout image) 1 (count_of layout)
