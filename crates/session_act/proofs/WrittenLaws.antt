-- Whether a word of a range is written is told by its bytes.
use mathlib.Core.Path.{◌≡◌, refl, sym, subst}
use mathlib.Core.Bool.{true, false, not, true≢false}
use mathlib.Core.List.{List, [], ◌∷◌}
use Prim.Native.Nat.{ℕ, ◌-◌}
use Rattle.octets.specs.Alike.{all_are}
use Rattle.octets.specs.Number.{is_multiple}
use Rattle.octets.proofs.Searching.{by_pick, pick_both}
use Rattle.parts.specs.declared.Part.{Part}
use Rattle.flash.specs.declared.Place.{Place}
use Rattle.flash.specs.declared.Region.TheVariants.{Main, Settings}
use Rattle.flash.specs.Regions.{main_start, lies_within, has_protected, place_of}
use Rattle.flash.specs.Memory.{Memory, bytes_in}
use Rattle.flash.proofs.RegionLaws.{none_is_told}
use Rattle.flash.proofs.WordLaws.{words_of_open_range}
use Rattle.session_act.specs.Programming.{is_window, is_aligned, written_in}

module _ (part : Part) (main_size : ℕ) (protection : List ℕ) (settings_bit address size : ℕ) (memory : Memory) where
  abbrev ToldByBytes : Place → Type 0
  ToldByBytes place =
      is_window place.region ≡ false → has_protected place ≡ false
      → written_in part protection settings_bit place.offset size memory place.region
      ≡ not (all_are 0xFF (bytes_in place.offset size memory place.region))

  -- "each word it would touch": after 0A, and where the range check has found no protected place, the words of the range are its bytes
  pub written_by_bytes : is_aligned part.word_size address size ≡ true → (place : Place) → place ≡ place_of part main_size protection settings_bit address size
      → ToldByBytes place
  unfolding place_of is_aligned all_are
  written_by_bytes aligned place e =
      let whole = (pick_both (is_multiple address part.word_size) (is_multiple size part.word_size) aligned).1 in
      let start = part.settings_start in
      subst ToldByBytes (sym e)
      (by_pick ToldByBytes (lies_within main_start main_size address size) _ _
      (λ y flash opened. words_of_open_range part.sector_size protection part.word_size memory.main (address - main_start) size whole (none_is_told Main main_start (address - main_start) _ _ opened))
      (λ n. by_pick ToldByBytes (lies_within start part.settings_size address size) _ _
      (λ y flash opened. words_of_open_range part.sector_size (settings_bit ∷ []) part.word_size memory.settings (address - start) size whole (none_is_told Settings start (address - start) _ _ opened))
      (λ o. by_pick ToldByBytes (lies_within part.window_start part.window_size address size) _ _
      (λ y flash opened. absurd (true≢false flash)) (λ v flash opened. refl))))
