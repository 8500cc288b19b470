-- T-04: "must refuse when any place they would touch is protected", and where none is, Range erase does not; of Program see WrittenRule.
use mathlib.Core.Path.{◌≡◌, refl, sym, ap, ◌∙◌}
use mathlib.Core.Bool.{Bool, true, false, true≢false}
use mathlib.Core.List.{List}
use mathlib.Core.Logic.{by_cases}
use Prim.Native.Nat.{ℕ, ◌+◌, ◌-◌, ◌/◌, ◌≤◌, ◌<◌}
use native.Mathlib.Decide.{dec_lt}
use native.Mathlib.Omega.{arith}
use lib.Dec.{ltb}
use borrow.Author.Tests.{lt-ltb, le-ltb}
use Rattle.octets.specs.Choice.{pick}
use Rattle.octets.proofs.Searching.{pick_true, pick_false}
use Rattle.line.specs.Codes as codes
use Rattle.parts.specs.declared.Part.{Part}
use Rattle.flash.specs.Memory.{Memory}
use Rattle.flash.specs.declared.Region.TheVariants.{Main}
use Rattle.flash.specs.Protection.{is_protected, may_change, first_kept}
use Rattle.flash.specs.Regions.{main_start, place_from, place_of}
use Rattle.flash.proofs.KeptLaws.{none_is_kept, protected_range_touches, open_range_touches_none}
use Rattle.flash.proofs.RegionLaws.{protected_is_told, main_is_located}
use Rattle.session_act.specs.declared.Order.TheVariants.{EraseBetween}
use Rattle.session_act.specs.Plans.{tells, orders}
use Rattle.session_act.specs.Erasing.{range_erase_at, range_erase}
use Rattle.session_act.specs.Programming.{is_aligned, program_at, program}

module _ (part : Part) (main_size : ℕ) (protection : List ℕ) (settings_bit : ℕ) where
  abbrev sector_size : ℕ
  sector_size = part.sector_size

  -- the place of a range of MAIN that ends before an address
  place_in_main : (first count end : ℕ) → first + count ≡ end → end ≤ main_size
      → place_of part main_size protection settings_bit first count ≡ place_from Main main_start first end (first_kept sector_size protection first end)
  place_in_main first count end e there =
      let f : first - main_start ≡ first = omega arith in
      main_is_located part main_size protection settings_bit first count (omega arith)
      ∙ ap (λ (at : ℕ). place_from Main main_start at (at + count) (first_kept sector_size protection at (at + count))) f
      ∙ ap (λ (upto : ℕ). place_from Main main_start first upto (first_kept sector_size protection first upto)) e

  -- ---- Range erase, of a range in MAIN

  module _ (start end : ℕ) (sized : 0 < sector_size) (ordered : start ≤ end) (there : end < main_size) where
    erase_at : (protected : Bool) → ltb (first_kept sector_size protection start (end + 1)) (end + 1) ≡ protected
        → range_erase part main_size protection settings_bit start end ≡ pick protected (tells codes.invalid_range) (orders codes.success (EraseBetween start end))
    unfolding range_erase
    erase_at protected e =
        pick_false _ _ (le-ltb end start ordered)
        ∙ ap (range_erase_at start end) (place_in_main start (end - start + 1) (end + 1) (omega arith) (omega arith))
        ∙ ap (λ (bit : Bool). pick bit (tells codes.invalid_range) (orders codes.success (EraseBetween start end)))
        (protected_is_told Main main_start start (end + 1) _ ∙ e)

    -- one protected sector among those that it would touch, from start's to end's, and nothing is done
    pub protected_erase_is_refused : (sector : ℕ) → start / sector_size ≤ sector → sector ≤ end / sector_size → is_protected protection sector ≡ true
        → range_erase part main_size protection settings_bit start end ≡ tells codes.invalid_range
    protected_erase_is_refused sector l u y =
        by_cases (dec_lt (first_kept sector_size protection start (end + 1)) (end + 1))
        (λ h. erase_at true (lt-ltb _ _ h) ∙ pick_true _ _ refl)
        (λ n. absurd (true≢false (sym y ∙ open_range_touches_none sector_size protection start end sized ordered (omega arith) sector l u)))

    pub open_erase_is_obeyed : ((sector : ℕ) → start / sector_size ≤ sector → sector ≤ end / sector_size → is_protected protection sector ≡ false)
        → range_erase part main_size protection settings_bit start end ≡ orders codes.success (EraseBetween start end)
    open_erase_is_obeyed opened =
        by_cases (dec_lt (first_kept sector_size protection start (end + 1)) (end + 1))
        (λ h.
        let touched = protected_range_touches sector_size protection start end sized h in
        absurd (true≢false (sym touched.1.1 ∙ opened _ touched.0 touched.1.0)))
        (λ n. erase_at false (le-ltb (first_kept sector_size protection start (end + 1)) (end + 1) (omega arith)) ∙ pick_false _ _ refl)

  -- ---- Program and its silent twin, of a range of whole words in MAIN

  module _ (address size : ℕ) (memory : Memory) (aligned : is_aligned part.word_size address size ≡ true) (there : address + size ≤ main_size) where
    pub protected_program_is_refused : (place : ℕ) → address ≤ place → place < address + size → may_change sector_size protection place ≡ false
        → program part main_size protection settings_bit address size memory ≡ tells codes.invalid_range
    unfolding program_at
    protected_program_is_refused place l u kept =
        by_cases (dec_lt (first_kept sector_size protection address (address + size)) (address + size))
        (λ h.
        ap (program_at part protection settings_bit address size memory) (place_in_main address size (address + size) refl there)
        ∙ pick_false _ _ refl ∙ pick_false _ _ refl ∙ pick_true _ _ aligned
        ∙ pick_true _ _ (protected_is_told Main main_start address (address + size) _ ∙ lt-ltb _ _ h))
        (λ n. absurd (true≢false (sym (none_is_kept sector_size protection address (address + size) (omega arith) place l u) ∙ kept)))
