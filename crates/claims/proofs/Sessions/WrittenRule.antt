-- T-02: "each word it would touch is all 0xFF; if not, nothing is written". Of a range of whole words that one region of flash holds, with no protected
-- place.
use mathlib.Core.Path.{◌≡◌, refl, ap, ◌∙◌}
use mathlib.Core.Bool.{Bool, true, false, not}
use mathlib.Core.List.{List, [], ◌∷◌}
use Prim.Native.Nat.{ℕ, ◌+◌, ◌-◌, ◌≤◌, ◌<◌}
use native.Mathlib.Omega.{arith}
use lib.ListN.{length, get_or}
use lib.Seq.{sets}
use Rattle.octets.specs.Alike.{all_are}
use Rattle.octets.specs.Choice.{pick}
use Rattle.octets.specs.Number.{part as octets}
use Rattle.octets.proofs.AlikeLaws.{each_is}
use Rattle.octets.proofs.Searching.{pick_true, pick_false, by_test, by_pick}
use Rattle.line.specs.Codes as codes
use Rattle.line.specs.Packet.{data_in}
use Rattle.line.specs.declared.Reply.TheVariants.{FlashError}
use Rattle.parts.specs.declared.Part.{Part}
use Rattle.settings.specs.declared.Shown.{Shown}
use Rattle.flash.specs.declared.Place.{Place}
use Rattle.flash.specs.declared.Region.{Region}
use Rattle.flash.specs.declared.Region.TheVariants.{Main, Settings, Window, Outside}
use Rattle.flash.specs.Memory.{Memory, memory, bytes_at}
use Rattle.flash.specs.Protection.{first_kept}
use Rattle.flash.specs.Programming.{program_of}
use Rattle.flash.specs.Regions.{main_start, lies_within, has_protected, place_of}
use Rattle.flash.proofs.KeptLaws.{none_is_kept}
use Rattle.flash.proofs.RegionLaws.{within_bounds, none_is_told}
use Rattle.flash.proofs.WordLaws.{program_on_blank}
use Rattle.session_act.specs.declared.Planned.{Planned}
use Rattle.session_act.specs.Orders.{carried_out}
use Rattle.session_act.specs.Plans.{says, orders}
use Rattle.session_act.specs.Programming.{is_outside, is_window, is_aligned, program_in, program_at, program}
use Rattle.session_act.proofs.WrittenLaws.{written_by_bytes}

module _ (part : Part) (main_size : ℕ) (protection : List ℕ) (settings_bit address size : ℕ) (before : Memory) where
  abbrev place : Place
  place = place_of part main_size protection settings_bit address size

  abbrev plans : Planned
  plans = program part main_size protection settings_bit address size before

  module _ (inside : is_outside place.region ≡ false) (flash : is_window place.region ≡ false) (aligned : is_aligned part.word_size address size ≡ true) (unprotected : has_protected place ≡ false) where
    -- every byte of the range is looked at, and nothing else: not the data, and no byte beside it
    pub program_looks_at_range : plans
        ≡ pick (not (all_are 0xFF (bytes_at place size before))) (says FlashError) (orders codes.success (program_in place.offset size place.region))
    unfolding program_at
    program_looks_at_range =
        pick_false _ _ inside ∙ pick_false _ _ flash ∙ pick_true _ _ aligned ∙ pick_false _ _ unprotected
        ∙ ap (λ (written : Bool). pick written (says FlashError) (orders codes.success (program_in place.offset size place.region)))
        (written_by_bytes part main_size protection settings_bit address size before aligned place refl flash unprotected)

    -- one byte of it that is not 0xFF, wherever it stands, and nothing is ordered
    pub written_program_is_refused : (k : ℕ) → k < length (bytes_at place size before) → (get_or (bytes_at place size before) k 0 ≡ 0xFF → ⊥) → plans ≡ says FlashError
    written_program_is_refused k there other =
        program_looks_at_range
        ∙ by_test (all_are 0xFF (bytes_at place size before))
        (λ y. absurd (other (each_is 0xFF (bytes_at place size before) k y there)))
        (λ n. pick_true _ _ (ap not n))

    pub blank_program_is_obeyed : all_are 0xFF (bytes_at place size before) ≡ true → plans ≡ orders codes.success (program_in place.offset size place.region)
    blank_program_is_obeyed blank = program_looks_at_range ∙ pick_false _ _ (ap not blank)

-- where all are 0xFF the bytes become the data, and no other byte changes; in the window they do so whatever they were
module _ (part : Part) (main_size : ℕ) (shown : Shown) (protection : List ℕ) (address size : ℕ) (packet : List ℕ) (before : Memory)
    (has : length (data_in size packet) ≡ size) (small : (k : ℕ) → get_or (data_in size packet) k 0 < 256) where
  -- the data stand in a region, from an offset on
  abbrev stored_in : ℕ → Region → Memory
  stored_in offset Main = memory (sets before.main offset (data_in size packet)) before.settings before.window
  stored_in offset Settings = memory before.main (sets before.settings offset (data_in size packet)) before.window
  stored_in offset Window = memory before.main before.settings (sets before.window offset (data_in size packet))
  stored_in offset Outside = before

  stored : (bits : List ℕ) (offset : ℕ) (bytes : List ℕ) → offset + size ≤ length bytes
      → offset + size ≤ first_kept part.sector_size bits offset (offset + size) → all_are 0xFF (octets offset size bytes) ≡ true
      → program_of part.sector_size bits offset (data_in size packet) bytes ≡ sets bytes offset (data_in size packet)
  stored bits offset bytes there opened blank =
      program_on_blank part.sector_size bits offset (data_in size packet) bytes (omega (arith, has, there)) small
      (λ place l u. none_is_kept part.sector_size bits offset (offset + size) opened place l (omega (arith, has, u)))
      (ap (λ (count : ℕ). all_are 0xFF (octets offset count bytes)) has ∙ blank)

  abbrev LeavesData : Place → Type 0
  LeavesData place =
      has_protected place ≡ false → all_are 0xFF (bytes_at place size before) ≡ true
      → carried_out part shown protection packet before (program_in place.offset size place.region) ≡ stored_in place.offset place.region

  pub blank_becomes_data : length before.main ≡ main_size → length before.settings ≡ part.settings_size
      → LeavesData (place_of part main_size protection shown.settings_protected address size)
  unfolding place_of
  blank_becomes_data main settings =
      let start = part.settings_start in
      by_pick LeavesData (lies_within main_start main_size address size) _ _
      (λ y unkept blank.
      let b = within_bounds main_start main_size address size y in
      ap (λ (bytes : List ℕ). memory bytes before.settings before.window) (stored protection (address - main_start) before.main (omega (arith, b, main)) (none_is_told Main main_start (address - main_start) _ _ unkept) blank))
      (λ n. by_pick LeavesData (lies_within start part.settings_size address size) _ _
      (λ y unkept blank.
      let b = within_bounds start part.settings_size address size y in
      ap (λ (bytes : List ℕ). memory before.main bytes before.window)
      (stored (shown.settings_protected ∷ []) (address - start) before.settings (omega (arith, b, settings)) (none_is_told Settings start (address - start) _ _ unkept) blank))
      (λ o. by_pick LeavesData (lies_within part.window_start part.window_size address size) _ _
      (λ y unkept blank. refl) (λ v unkept blank. refl)))
