-- 01, The loader and its edges: "MAIN flash starts at 0x00000000 .. Settings flash starts at 0x41C00000 and has 1,024 bytes."
-- T-05: "Add 3,456 bytes at 0x20000160 as a third region"
use Rattle.std.specs.Prelude.{ℕ, ◌+◌, ◌-◌, Bool, false, List, [], ◌∷◌, leb, None}
use Rattle.std.specs.Option.{is_some, option_map}
use Rattle.octets.specs.Choice.{pick}
use Rattle.octets.specs.Number.{is_multiple}
use Rattle.parts.specs.declared.Part.{Part}
use Rattle.flash.specs.declared.Place.{Place}
use Rattle.flash.specs.declared.Region.{Region}
use Rattle.flash.specs.declared.Region.TheVariants.{Main, Settings, Window, Outside}
use Rattle.flash.specs.Protection.{first_kept, found_before}

-- "MAIN flash starts at 0x00000000"
abbrev pub main_start : ℕ
main_start = 0

-- "MAIN flash .., 1,024 to 65,536 bytes, a multiple of 1,024.": whole sectors, at least one
unfoldable pub is_main_size : Part → ℕ → Bool
is_main_size part size =
    pick (leb part.sector_size size) (pick (leb size part.most_main) (is_multiple size part.sector_size) false) false

-- "wholly in one region": from the region's start on, and not past its end. These are numbers of any size, so nothing wraps.
-- A range of 0 bytes lies in a region from its start up to and including the address after its end.
unfoldable pub lies_within : ℕ → ℕ → ℕ → ℕ → Bool
lies_within start size first count = pick (leb start first) (leb (first + count) (start + size)) false

-- T-04: "the range check now also tells whether the range has a protected place and the first such address". A place in a region is counted
-- from the region's start on, and its address is that start and it; none where no place is protected.
abbrev pub place_from : Region → ℕ → ℕ → ℕ → ℕ → Place
place_from region start offset end kept =
    record { region = region; offset = offset; first_protected = option_map (λ found. start + found) (found_before end kept) }

-- T-04: "tells whether the range has a protected place"
abbrev pub has_protected : Place → Bool
has_protected place = is_some place.first_protected

-- the place of so many bytes from the first address on, in a region with these sectors and protection bits
abbrev pub place_in : Region → ℕ → List ℕ → ℕ → ℕ → ℕ → Place
place_in region sector_size protection start first count =
    place_from region start (first - start) (first - start + count) (first_kept sector_size protection (first - start) (first - start + count))

-- T-05: the SRAM window has no sectors, and nothing of it is protected
abbrev pub window_place : ℕ → ℕ → Place
window_place start first = record { region = Window; offset = first - start; first_protected = None }

-- outside of every region the offset is 0, and nothing is protected; 01: "SRAM addresses are not in any region in the base." Since T-05 those of the
-- window are.
abbrev pub nowhere : Place
nowhere = record { region = Outside; offset = 0; first_protected = None }

-- the region that holds so many bytes from the first address on, under the protection bits of MAIN's sectors and that of the settings,
-- "settings protected (0 or 1)", which are one sector
unfoldable pub place_of : Part → ℕ → List ℕ → ℕ → ℕ → ℕ → Place
place_of part main_size protection settings_bit first count =
    pick (lies_within main_start main_size first count) (place_in Main part.sector_size protection main_start first count)
    (pick (lies_within part.settings_start part.settings_size first count)
    (place_in Settings part.sector_size (settings_bit ∷ []) part.settings_start first count)
    (pick (lies_within part.window_start part.window_size first count) (window_place part.window_start first)
    nowhere))
