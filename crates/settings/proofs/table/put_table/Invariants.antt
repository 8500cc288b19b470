-- `settings::table::put_table` meets its contract: storing the numbers left makes the whole table.
use mathlib.Core.Path.{◌≡◌}
use Prim.Native.Nat.{◌*◌}
use lib.ListN.{length, drop}
use lib.Seq.{sets}
use Rattle.settings.specs.Layout.{table_of, pairs_of}
use Rattle.settings.proofs.table.put_table.Given as goal

abbrev pub invariant-loop-place : goal.invariant-loop-place
invariant-loop-place g l =
    (length (table_of g.L.ImageLayout.layout) ≡ l.count)
    × (sets l.image (2 * l.place) (pairs_of (drop l.place (table_of g.L.ImageLayout.layout))) ≡ sets l.initial.image 0 (pairs_of (table_of g.L.ImageLayout.layout)))
