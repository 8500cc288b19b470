-- All that can be done to memory: 01, Commands, the sentences on what becomes of bytes.
-- "Protected places keep their bytes in every erase and program": that stands in erase_of, erase_all_of and program_of.
use Rattle.std.specs.Prelude.{ℕ, ◌/◌, List}
use Rattle.std.proofs.lemmas.List.Edits.{sets}
use Rattle.parts.specs.declared.Part.{Part}
use Rattle.line.specs.Packet.{data_in}
use Rattle.settings.specs.declared.Shown.{Shown}
use Rattle.flash.specs.Memory.{Memory, memory}
use Rattle.flash.specs.Erasing.{erase_of, erase_all_of}
use Rattle.flash.specs.Programming.{program_of}
use Rattle.session_act.specs.declared.Order.{Order}
use Rattle.session_act.specs.declared.Order.TheVariants.{Keep, EraseBetween, EraseMain, EraseBoth, ProgramMain, ProgramSettings, StoreWindow}
use Rattle.session_act.specs.Board.{settings_protection}

-- what an order leaves; the data of a program are those of the packet
abbrev pub carried_out : Part → Shown → List ℕ → List ℕ → Memory → Order → Memory
carried_out part shown protection packet before Keep = before
-- "Every sector from start's to end's becomes 0xFF"
carried_out part shown protection packet before (EraseBetween start end) =
    memory (erase_of part.sector_size protection (start / part.sector_size) (end / part.sector_size) before.main)
    before.settings before.window
-- "all MAIN"
carried_out part shown protection packet before EraseMain =
    memory (erase_all_of part.sector_size protection before.main) before.settings before.window
-- "MAIN and settings become 0xFF"
carried_out part shown protection packet before EraseBoth =
    memory (erase_all_of part.sector_size protection before.main) (erase_all_of part.sector_size (settings_protection shown) before.settings) before.window
-- "Each byte becomes old AND new"; by T-02 the old ones are all 0xFF wherever that is ordered
carried_out part shown protection packet before (ProgramMain offset size) =
    memory (program_of part.sector_size protection offset (data_in size packet) before.main) before.settings before.window
carried_out part shown protection packet before (ProgramSettings offset size) =
    memory before.main (program_of part.sector_size (settings_protection shown) offset (data_in size packet) before.settings) before.window
-- T-05: "Program stores bytes plainly there"; "No erase touches it": the window changes by this order alone
carried_out part shown protection packet before (StoreWindow offset size) =
    memory before.main before.settings (sets before.window offset (data_in size packet))
