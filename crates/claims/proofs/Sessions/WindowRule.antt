-- T-05: what Program, Read back, Verify and the erases do in the SRAM window.
use mathlib.Core.Path.{◌≡◌, refl, ap, ◌∙◌}
use mathlib.Core.Bool.{Bool, true, false, true≢false}
use mathlib.Core.List.{List, ◌++◌, append_assoc}
use Prim.Native.Nat.{ℕ, ◌+◌, ◌-◌, ◌≤◌, ◌<◌}
use native.Mathlib.Omega.{arith}
use borrow.Author.Tests.{ne_eqb, le-ltb}
use lib.Dec.{ltb}
use lib.ListN.{length, take, drop, length-take}
use lib.Seq.{sets, sets-eq, drop_at}
use Rattle.octets.specs.Choice.{pick}
use Rattle.octets.specs.Number.{part}
use Rattle.octets.proofs.Parts.{part_there}
use Rattle.octets.proofs.Searching.{pick_true, pick_false, by_pick}
use Rattle.line.specs.Codes as codes
use Rattle.line.specs.declared.Reply.TheVariants.{Message, Bytes}
use Rattle.line.specs.Replies.{read_back_most}
use Rattle.parts.specs.declared.Part.{Part}
use Rattle.parts.specs.Parts.{mspm0}
use Rattle.settings.specs.declared.Shown.{Shown}
use Rattle.flash.specs.declared.Place.{Place}
use Rattle.flash.specs.declared.Region.TheVariants.{Window}
use Rattle.flash.specs.Memory.{Memory}
use Rattle.flash.specs.Regions.{is_main_size, window_place, nowhere, place_of}
use Rattle.flash.proofs.RegionLaws.{main_size_is_small, range_before, range_past, window_is_located, outside_is_told}
use Rattle.session_act.specs.declared.Order.{Order}
use Rattle.session_act.specs.declared.Order.TheVariants.{Keep, EraseBetween, EraseMain, EraseBoth, ProgramMain, ProgramSettings, StoreWindow}
use Rattle.session_act.specs.declared.Planned.{Planned}
use Rattle.session_act.specs.Orders.{carried_out}
use Rattle.session_act.specs.Plans.{planned, tells, orders}
use Rattle.session_act.specs.Erasing.{range_erase_at, range_erase}
use Rattle.session_act.specs.Programming.{program_at, program}
use Rattle.session_act.specs.Showing.{readout_on, read_back_at, read_back, verify_at}

-- ---- what changes it

abbrev is_store : Order → Bool
is_store Keep = false
is_store (EraseBetween start end) = false
is_store EraseMain = false
is_store EraseBoth = false
is_store (ProgramMain offset size) = false
is_store (ProgramSettings offset size) = false
is_store (StoreWindow offset size) = true

-- "No erase touches it", nor does a program of flash: it changes by a store alone
pub only_stores_change_window : (board : Part) (shown : Shown) (protection packet : List ℕ) (before : Memory) (order : Order) → is_store order ≡ false
    → (carried_out board shown protection packet before order).window ≡ before.window
only_stores_change_window board shown protection packet before Keep h = refl
only_stores_change_window board shown protection packet before (EraseBetween start end) h = refl
only_stores_change_window board shown protection packet before EraseMain h = refl
only_stores_change_window board shown protection packet before EraseBoth h = refl
only_stores_change_window board shown protection packet before (ProgramMain offset size) h = refl
only_stores_change_window board shown protection packet before (ProgramSettings offset size) h = refl
only_stores_change_window board shown protection packet before (StoreWindow offset size) h = absurd (true≢false h)

-- "Program stores bytes plainly there": where they were stored stand the bytes themselves, whatever stood there
pub stored_bytes_stand : (window : List ℕ) (offset : ℕ) (bytes : List ℕ) → offset + length bytes ≤ length window
    → part offset (length bytes) (sets window offset bytes) ≡ bytes
stored_bytes_stand window offset bytes room =
    let front = take offset window in
    let after = drop (offset + length bytes) window in
    let size : length front ≡ offset = simp length-take (omega arith) in
    ap (part offset (length bytes)) (sets-eq bytes window offset room ∙ append_assoc front bytes after)
    ∙ part_there (front ++ (bytes ++ after)) offset (length bytes) bytes after (drop_at front (bytes ++ after) offset size) refl

-- ---- a range in it, on a part whose window lies after every MAIN and before the settings

module _ (board : Part) (after : board.most_main ≤ board.window_start) (before : board.window_start + board.window_size ≤ board.settings_start)
    (main_size : ℕ) (allowed : is_main_size board main_size ≡ true) (protection : List ℕ) (settings_bit address size : ℕ) where
  abbrev place : Place
  place = place_of board main_size protection settings_bit address size

  small : main_size ≤ board.most_main
  small = main_size_is_small board main_size allowed

  -- a range over an edge of it lies in no region
  pub over_lower_edge : address < board.window_start → board.window_start < address + size → place ≡ nowhere
  over_lower_edge l u =
      outside_is_told board main_size protection settings_bit address size (omega (arith, small, after, u))
      (range_before _ _ address size (omega (arith, before, l))) (range_before _ _ address size l)

  pub over_upper_edge : address < board.window_start + board.window_size → board.window_start + board.window_size < address + size → place ≡ nowhere
  over_upper_edge l u =
      outside_is_told board main_size protection settings_bit address size (omega (arith, small, after, u))
      (range_before _ _ address size (omega (arith, before, l))) (range_past _ _ address size u)

  module _ (some : 0 < size) (from : board.window_start ≤ address) (upto : address + size ≤ board.window_start + board.window_size) where
    abbrev there : Place
    there = window_place board.window_start address

    in_window : place ≡ there
    in_window =
        window_is_located board main_size protection settings_bit address size (omega (arith, small, after, from, some))
        (range_before _ _ address size (omega (arith, before, upto, some))) from upto

    -- "at any alignment, with neither 0A nor T-02", and protected or not
    pub program_stores : (memory : Memory)
        → program board main_size protection settings_bit address size memory ≡ orders codes.success (StoreWindow (address - board.window_start) size)
    unfolding program_at
    program_stores memory = ap (program_at board protection settings_bit address size memory) in_window ∙ pick_false _ _ refl ∙ pick_true _ _ refl

    -- "Read back works under the readout rule"
    pub read_back_shows : size ≤ read_back_most
        → read_back board readout_on main_size protection settings_bit address size ≡ planned Bytes Keep Window (address - board.window_start) size
    unfolding read_back_at pick
    read_back_shows few =
        ap (read_back_at readout_on size) in_window ∙ rw (ne_eqb size 0 (λ e. omega (arith, e, some)), le-ltb read_back_most size few)

    -- "Verify still answers 05", and 0B below its least size
    pub verify_never_sums : (memory : Memory)
        → verify_at board size memory place ≡ pick (ltb size board.least_verify) (Message codes.too_small) (Message codes.invalid_range)
    unfolding verify_at
    verify_never_sums memory =
        ap (verify_at board size memory) in_window
        ∙ ap (pick (ltb size board.least_verify) (Message codes.too_small)) (pick_false _ _ refl ∙ pick_true _ _ refl)

    -- and a Range erase is told 05
    pub erase_is_refused : (end : ℕ) → end - address + 1 ≡ size → range_erase board main_size protection settings_bit address end ≡ tells codes.invalid_range
    unfolding range_erase
    erase_is_refused end e =
        by_pick (λ (planned : Planned). planned ≡ tells codes.invalid_range) (ltb end address) _ _ (λ y. refl)
        (λ n. ap (λ (count : ℕ). range_erase_at address end (place_of board main_size protection settings_bit address count)) e ∙ ap (range_erase_at address end) in_window)

-- ---- the MSPM0

-- 004's example of Verify, 0x20000000 with 1,024 bytes, crosses the window's lower edge
pub example_of_004_is_outside : (main_size : ℕ) → is_main_size mspm0 main_size ≡ true → (protection : List ℕ) (settings_bit : ℕ)
    → place_of mspm0 main_size protection settings_bit 0x20000000 1024 ≡ nowhere
example_of_004_is_outside main_size allowed protection settings_bit =
    over_lower_edge mspm0 (omega arith) (omega arith) main_size allowed protection settings_bit 0x20000000 1024 (omega arith) (omega arith)

-- 1,024 bytes from its start on, and all of it
pub window_is_not_verified : (main_size : ℕ) → is_main_size mspm0 main_size ≡ true → (protection : List ℕ) (settings_bit : ℕ) (memory : Memory)
    → (verify_at mspm0 1024 memory (place_of mspm0 main_size protection settings_bit 0x20000160 1024) ≡ Message codes.invalid_range)
    × (verify_at mspm0 3456 memory (place_of mspm0 main_size protection settings_bit 0x20000160 3456) ≡ Message codes.invalid_range)
window_is_not_verified main_size allowed protection settings_bit memory = (sized 1024 (omega arith) (omega arith), sized 3456 (omega arith) (omega arith))
  where
    sized : (size : ℕ) → 1024 ≤ size → size ≤ 3456 → verify_at mspm0 size memory (place_of mspm0 main_size protection settings_bit 0x20000160 size) ≡ Message codes.invalid_range
    sized size least most =
        verify_never_sums mspm0 (omega arith) (omega arith) main_size allowed protection settings_bit 0x20000160 size (omega (arith, least)) (omega arith) (omega (arith, most)) memory
        ∙ pick_false _ _ (le-ltb size 1024 least)
