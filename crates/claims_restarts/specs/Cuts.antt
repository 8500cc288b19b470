-- A cut of the power within the erase of both regions, which a strike orders, and a Factory reset. The board that carries the order out erases
-- MAIN first and the settings last (docs/RECORD.md, D180).
use Rattle.std.specs.Prelude.{ℕ, ◌/◌, Bool, true, false, List}
use Rattle.octets.specs.Choice.{pick}
use Rattle.parts.specs.declared.Part.{Part}
use Rattle.settings.specs.Held.{Kept}
use Rattle.flash.specs.Memory.{Memory, memory}
use Rattle.flash.specs.Protection.{changed}
use Rattle.session_act.specs.declared.Order.{Order}
use Rattle.session_act.specs.declared.Order.TheVariants.{Keep, EraseBetween, EraseMain, EraseBoth, ProgramMain, ProgramSettings, StoreWindow}
use Rattle.session_act.specs.Orders.{carried_out}

-- each sector of a region that is not protected is as before or 0xFF; the order of the sectors is free
unfoldable pub some_erased : ℕ → List ℕ → (ℕ → Bool) → List ℕ → List ℕ
some_erased sector_size protection erased region =
    changed sector_size protection (λ place old. pick (erased (place / sector_size)) 0xFF old) region

-- the settings come last: while a sector of MAIN is left, they are as before. Where none is left the erase is done whole, as by a call.
abbrev pub cut_in_main : Part → List ℕ → (ℕ → Bool) → Memory → Memory
cut_in_main part protection erased before =
    memory (some_erased part.sector_size protection erased before.main) before.settings before.window

abbrev pub is_erase_both : Order → Bool
is_erase_both Keep = false
is_erase_both (EraseBetween start end) = false
is_erase_both EraseMain = false
is_erase_both EraseBoth = true
is_erase_both (ProgramMain offset size) = false
is_erase_both (ProgramSettings offset size) = false
is_erase_both (StoreWindow offset size) = false

-- what the power leaves of an order: every other one is done whole
unfoldable pub cut_within : Part → Kept → List ℕ → (ℕ → Bool) → Memory → Order → Memory
cut_within part settings packet erased before order =
    pick (is_erase_both order) (cut_in_main part settings.protection erased before)
    (carried_out part settings.shown settings.protection packet before order)
