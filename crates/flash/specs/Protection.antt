-- 01, Settings image, kind 6, and Commands: "Protected places keep their bytes in every erase and program".
-- A sector's size is any number here; 01 has "One sector is 1,024 bytes." The settings flash is one sector.
use Rattle.std.specs.Prelude.{ℕ, ◌-◌, ◌/◌, ◌%◌, ◌^◌, Bool, false, not, List, eqb, ltb, get_or, Option, Some, None}
use Rattle.octets.specs.Choice.{pick}
use Rattle.octets.specs.Search.{search_from}
use Rattle.flash.specs.Places.{by_place}

-- "one bit a sector, bit 0 of the first byte is sector 0, 1 = protected"; bits past the bytes are 0
unfoldable pub is_protected : List ℕ → ℕ → Bool
is_protected protection sector = eqb (get_or protection (sector / 8) 0 / 2 ^ (sector % 8) % 2) 1

-- a place may change where its sector is not protected; where a sector has 0 bytes, no place may
unfoldable pub may_change : ℕ → List ℕ → ℕ → Bool
may_change sector_size protection place =
    pick (eqb sector_size 0) false (not (is_protected protection (place / sector_size)))

-- "Protected places keep their bytes in every erase and program": the others become what the rule says.
-- "Bits for sectors beyond MAIN .. have no effect": no place there is looked at.
-- 01 goes on "and 00 is still sent."; since T-04 that is so of Mass erase and Factory reset alone.
unfoldable pub changed : ℕ → List ℕ → (ℕ → ℕ → ℕ) → List ℕ → List ℕ
changed sector_size protection rule memory =
    by_place (λ place old. pick (may_change sector_size protection place) (rule place old) old) memory

-- T-04: "a protected place", one that no erase and no program changes
abbrev pub is_kept : ℕ → List ℕ → ℕ → Bool
is_kept sector_size protection place = not (may_change sector_size protection place)

-- the first protected place from one on, up to an end; the end where there is none
unfoldable pub first_kept : ℕ → List ℕ → ℕ → ℕ → ℕ
first_kept sector_size protection at end = search_from (λ place. place) end (is_kept sector_size protection) at (end - at)

-- a place that was found before an end, and none where the end was
unfoldable pub found_before : ℕ → ℕ → Option ℕ
found_before end place = pick (ltb place end) (Some place) None
