-- `settings::table::differing_entry` meets its contract: what the search says of the entries and fields left, it says of all.
use mathlib.Core.Path.{◌≡◌}
use Prim.Native.Nat.{◌+◌, ◌-◌}
use Rattle.octets.specs.Search.{first_from, some_from}
use Rattle.settings.specs.Entries.{field_differs, entry_differs, differing_entry}
use Rattle.settings.proofs.table.differing_entry.Given as goal

abbrev pub invariant-loop-field : goal.invariant-loop-field
invariant-loop-field g l =
    let layout = g.L.ImageLayout.layout in some_from (field_differs layout l.image l.entry) l.field (4 - l.field) ≡ entry_differs layout l.image l.entry

abbrev pub invariant-loop-entry : goal.invariant-loop-entry
invariant-loop-entry g l =
    let layout = g.L.ImageLayout.layout in first_from (entry_differs layout l.image) l.entry (l.entries + 1 - l.entry) ≡ differing_entry layout l.image
