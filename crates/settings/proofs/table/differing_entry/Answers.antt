-- `settings::table::differing_entry` meets its contract: what the search says of the entries and fields left, it says of all.
use mathlib.Core.Path.{◌≡◌, sym, ap, ◌∙◌}
use mathlib.Core.Bool.{true, false}
use Prim.Native.Nat.{ℕ, ◌+◌, ◌-◌}
use native.Mathlib.Omega.{arith}
use borrow.Author.Tests.{eq-eqb, ne_eqb}
use Rattle.octets.specs.Search.{first_from}
use Rattle.octets.proofs.Searching.{search_here, search_later, search_of_none}
use Rattle.settings.specs.Layout.{count_of}
use Rattle.settings.specs.Entries.{field_differs, entry_differs, differing_entry}
use Rattle.settings.proofs.table.differing_entry.Goals as goal

pub loop-entry-init : goal.loop-entry-init
unfolding differing_entry entry_differs field_differs
loop-entry-init g c =
    let layout = g.L.ImageLayout.layout in
    let n : c.entries_of-entries.result + 1 - 1 ≡ count_of layout = omega (arith, c.entries_of-entries.ensures) in
    ap (λ (n : ℕ). first_from (entry_differs layout c.args.image.now) 1 n) n

pub loop-field-preserved : goal.loop-field-preserved
unfolding differing_entry entry_differs field_differs
loop-field-preserved g c =
    let differs = field_differs g.L.ImageLayout.layout c.args.image.now c.loop-entry.entry in
    let l = c.loop-field in
    let same : differs l.field ≡ false = rw (← c.number16_at.ensures, ← c.table_number.ensures, eq-eqb _ _ c.if-number16_at-table_number.false) in
    let n : 4 - l.field - 1 ≡ 4 - (l.field + 1) = omega arith in
    rw (← n) (sym (search_later (λ n. true) false differs l.field (4 - l.field) (omega arith) same) ∙ l.invariant)

pub loop-entry-preserved : goal.loop-entry-preserved
unfolding differing_entry entry_differs field_differs
loop-entry-preserved g c =
    let differs = entry_differs g.L.ImageLayout.layout c.args.image.now in
    let o = c.loop-entry in
    let l = c.loop-field in
    let left = c.entries_of-entries.result + 1 - o.entry in
    let m : 4 - l.field ≡ 0 = omega arith in
    let same : differs o.entry ≡ false =
    sym l.invariant ∙ rw m (search_of_none (λ n. true) false (field_differs g.L.ImageLayout.layout c.args.image.now o.entry) l.field) in
    let n : left - 1 ≡ c.entries_of-entries.result + 1 - (o.entry + 1) = omega arith in
    rw (← n) (sym (search_later (λ n. n) 0 differs o.entry left (omega arith) same) ∙ o.invariant)

pub returns-then-number16_at-table_number-clause-number :
    goal.returns-then-number16_at-table_number-clause-number
unfolding differing_entry entry_differs field_differs
returns-then-number16_at-table_number-clause-number g c =
    let layout = g.L.ImageLayout.layout in
    let image = c.args.image.now in
    let o = c.loop-entry in
    let l = c.loop-field in
    let other : field_differs layout image o.entry l.field ≡ true =
    rw (← c.number16_at.ensures, ← c.table_number.ensures, ne_eqb _ _ c.if-number16_at-table_number.true) in
    let differs : entry_differs layout image o.entry ≡ true =
    sym l.invariant ∙ search_here (λ n. true) false (field_differs layout image o.entry) l.field (4 - l.field) (omega arith) other in
    sym (search_here (λ n. n) 0 (entry_differs layout image) o.entry (c.entries_of-entries.result + 1 - o.entry) (omega arith) differs) ∙ o.invariant

pub returns-2-clause-number : goal.returns-2-clause-number
unfolding differing_entry entry_differs field_differs
returns-2-clause-number g c =
    let differs = entry_differs g.L.ImageLayout.layout c.args.image.now in
    let o = c.loop-entry in
    let l = c.loop-field in
    let left = c.entries_of-entries.result + 1 - o.entry in
    let m : 4 - l.field ≡ 0 = omega arith in
    let same : differs o.entry ≡ false =
    sym l.invariant ∙ rw m (search_of_none (λ n. true) false (field_differs g.L.ImageLayout.layout c.args.image.now o.entry) l.field) in
    let n : left - 1 ≡ 0 = omega arith in
    sym (search_of_none (λ n. n) 0 differs (o.entry + 1)) ∙ rw n at (sym (search_later (λ n. n) 0 differs o.entry left (omega arith) same) ∙ o.invariant)
