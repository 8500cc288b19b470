-- What an answer of the range check says of the range, and how many bytes a range has.
use mathlib.Core.Path.{◌≡◌, refl, sym, ap, ◌∙◌}
use mathlib.Core.Bool.{true, false}
use Prim.Native.Nat.{ℕ, ◌+◌, ◌-◌, ◌*◌, ◌/◌, ◌≤◌, ◌<◌}
use mathlib.Core.Logic.{by_cases}
use native.Mathlib.Nat.{sub-zero, div-mul-le_self}
use native.Mathlib.Decide.{dec_lt}
use native.Mathlib.Omega.{arith}
use mathlib.Core.List.{List, [], ◌∷◌}
use lib.Dec.{leb, ltb}
use lib.ListN.{length, length-take}
use borrow.Author.Tests.{leb-true, ltb-false, le-leb, lt-leb}
use Rattle.octets.specs.Choice.{pick}
use Rattle.octets.proofs.Searching.{pick_true, pick_false, pick_both, by_test}
use Rattle.parts.specs.declared.Part.{Part}
use Rattle.flash.specs.declared.Place.{Place}
use Rattle.flash.specs.declared.Region.{Region}
use Rattle.flash.specs.declared.Region.TheVariants.{Main, Settings, Window, Outside}
use Rattle.flash.specs.Regions.{main_start, is_main_size, lies_within, place_from, has_protected, place_in, window_place, nowhere, place_of}
use Rattle.flash.specs.Memory.{Memory, bytes_in}
use Rattle.flash.specs.Protection.{is_protected, found_before}
use Rattle.flash.proofs.KeptLaws.{kept_alike}

-- ---- sizes of MAIN

-- a size of MAIN is no more than the part's most
pub main_size_is_small : (part : Part) (size : ℕ) → is_main_size part size ≡ true → size ≤ part.most_main
unfolding is_main_size
main_size_is_small part size h = leb-true size part.most_main (pick_both _ _ (pick_both _ _ h).1).0

-- ---- a range within a region

module _ (start size first count : ℕ) where
  pub range_within : start ≤ first → first + count ≤ start + size → lies_within start size first count ≡ true
  unfolding lies_within pick
  range_within l u = rw (le-leb start first l, le-leb (first + count) (start + size) u)

  pub within_bounds : lies_within start size first count ≡ true → (start ≤ first) × (first + count ≤ start + size)
  unfolding lies_within
  within_bounds e =
      let both = pick_both (leb start first) (leb (first + count) (start + size)) e in
      (leb-true start first both.0, leb-true (first + count) (start + size) both.1)

  pub range_before : first < start → lies_within start size first count ≡ false
  unfolding lies_within pick
  range_before h = rw (lt-leb start first h)

  pub range_past : start + size < first + count → lies_within start size first count ≡ false
  unfolding lies_within pick
  range_past h = by_test (leb start first) (λ y. rw (y, lt-leb (first + count) (start + size) h)) (λ n. rw n)

-- ---- the answer

-- a protected place is told exactly where one was found before the end
module _ (region : Region) (start offset end kept : ℕ) where
  pub protected_is_told : has_protected (place_from region start offset end kept) ≡ ltb kept end
  unfolding found_before pick
  protected_is_told = by_test (ltb kept end) (λ y. rw y refl) (λ n. rw n refl)

  pub none_is_told : has_protected (place_from region start offset end kept) ≡ false → end ≤ kept
  none_is_told opened = ltb-false kept end (sym protected_is_told ∙ opened)

-- the regions by number, which tells them apart
abbrev number : Region → ℕ
number Main = 0
number Settings = 1
number Window = 2
number Outside = 3

module _ (part : Part) (main_size : ℕ) (protection : List ℕ) (settings_bit first count : ℕ) where
  -- the place that the check answers
  abbrev told_of : Place
  told_of = place_of part main_size protection settings_bit first count

  abbrev in_main : Place
  in_main = place_in Main part.sector_size protection main_start first count

  abbrev in_settings : Place
  in_settings = place_in Settings part.sector_size (settings_bit ∷ []) part.settings_start first count

  abbrev in_window : Place
  in_window = window_place part.window_start first

  -- the four answers, one after the other
  by_answer : {C : Type 0}
      → (lies_within main_start main_size first count ≡ true → told_of ≡ in_main → C)
      → (lies_within part.settings_start part.settings_size first count ≡ true → told_of ≡ in_settings → C)
      → (lies_within part.window_start part.window_size first count ≡ true → told_of ≡ in_window → C)
      → (told_of ≡ nowhere → C) → C
  unfolding place_of pick
  by_answer main_told settings_told window_told outside =
      by_test (lies_within main_start main_size first count)
      (λ m. main_told m (rw m))
      (λ n. by_test (lies_within part.settings_start part.settings_size first count)
      (λ s. settings_told s (rw (n, s)))
      (λ o. by_test (lies_within part.window_start part.window_size first count)
      (λ w. window_told w (rw (n, o, w)))
      (λ v. outside (rw (n, o, v)))))

  -- another answer than the one told
  other : {C : Type 0} (told : Region) (place : Place) → told_of.region ≡ told → told_of ≡ place
      → (number place.region ≡ number told → ⊥) → C
  other told place r e differ = absurd (differ (ap number (sym (ap (λ (q : Place). q.region) e) ∙ r)))

  pub located_in_main : told_of.region ≡ Main
      → (first + count ≤ main_size) × (told_of.offset ≡ first)
  located_in_main r =
      by_answer
      (λ m e. let b = within_bounds main_start main_size first count m in (omega arith, ap (λ (q : Place). q.offset) e ∙ sub-zero first))
      (λ s e. other Main _ r e (λ q. omega arith))
      (λ w e. other Main _ r e (λ q. omega arith))
      (λ e. other Main _ r e (λ q. omega arith))

  pub located_in_settings : told_of.region ≡ Settings
      → (first ≡ part.settings_start + told_of.offset)
      × (told_of.offset + count ≤ part.settings_size)
  located_in_settings r =
      by_answer
      (λ m e. other Settings _ r e (λ q. omega arith))
      (λ s e.
      let b = within_bounds part.settings_start part.settings_size first count s in
      let o : told_of.offset ≡ first - part.settings_start = ap (λ (q : Place). q.offset) e in
      (omega arith, omega arith))
      (λ w e. other Settings _ r e (λ q. omega arith))
      (λ e. other Settings _ r e (λ q. omega arith))

  pub located_in_window : told_of.region ≡ Window
      → (first ≡ part.window_start + told_of.offset)
      × (told_of.offset + count ≤ part.window_size)
  located_in_window r =
      by_answer
      (λ m e. other Window _ r e (λ q. omega arith))
      (λ s e. other Window _ r e (λ q. omega arith))
      (λ w e.
      let b = within_bounds part.window_start part.window_size first count w in
      let o : told_of.offset ≡ first - part.window_start = ap (λ (q : Place). q.offset) e in
      (omega arith, omega arith))
      (λ e. other Window _ r e (λ q. omega arith))

  pub located_outside : told_of.region ≡ Outside → told_of.offset ≡ 0
  located_outside r =
      by_answer
      (λ m e. other Outside _ r e (λ q. omega arith))
      (λ s e. other Outside _ r e (λ q. omega arith))
      (λ w e. other Outside _ r e (λ q. omega arith))
      (λ e. ap (λ (q : Place). q.offset) e)

  -- and back: what lies in a region is found there, and what lies in none is outside
  pub main_is_located : first + count ≤ main_size → told_of ≡ in_main
  unfolding place_of
  main_is_located h = pick_true _ _ (range_within main_start main_size first count (omega arith) (omega arith))

  pub settings_are_located : main_size < first + count → part.settings_start ≤ first → first + count ≤ part.settings_start + part.settings_size
      → told_of ≡ in_settings
  unfolding place_of
  settings_are_located n l u =
      pick_false _ _ (range_past main_start main_size first count (omega arith))
      ∙ pick_true _ _ (range_within part.settings_start part.settings_size first count l u)

  pub window_is_located : main_size < first + count → lies_within part.settings_start part.settings_size first count ≡ false
      → part.window_start ≤ first → first + count ≤ part.window_start + part.window_size → told_of ≡ in_window
  unfolding place_of
  window_is_located n o l u =
      pick_false _ _ (range_past main_start main_size first count (omega arith)) ∙ pick_false _ _ o
      ∙ pick_true _ _ (range_within part.window_start part.window_size first count l u)

  pub outside_is_told : main_size < first + count → lies_within part.settings_start part.settings_size first count ≡ false
      → lies_within part.window_start part.window_size first count ≡ false → told_of ≡ nowhere
  unfolding place_of
  outside_is_told n o v = pick_false _ _ (range_past main_start main_size first count (omega arith)) ∙ pick_false _ _ o ∙ pick_false _ _ v

  -- a part whose window has 0 bytes has none: no range of a byte or more lies there
  pub no_window : part.window_size ≡ 0 → 0 < count → told_of.region ≡ Window → ⊥
  no_window none some r = let b = located_in_window r in omega (arith, b.1, none, some)

-- protection bytes that agree on the sectors of MAIN give every range the same place
pub places_alike : (part : Part) (main_size : ℕ) (p q : List ℕ) (settings_bit first count : ℕ)
    → ((sector : ℕ) → sector * part.sector_size < main_size → is_protected p sector ≡ is_protected q sector)
    → place_of part main_size p settings_bit first count ≡ place_of part main_size q settings_bit first count
unfolding place_of
places_alike part main_size p q settings_bit first count alike =
    by_test (lies_within main_start main_size first count)
    (λ y.
    let b = within_bounds main_start main_size first count y in
    pick_true _ _ y
    ∙ ap (place_from Main main_start (first - main_start) (first - main_start + count))
    (kept_alike part.sector_size p q (first - main_start) (first - main_start + count)
    (λ place h. alike (place / part.sector_size) (omega (arith, div-mul-le_self place part.sector_size, h, b))))
    ∙ sym (pick_true _ _ y))
    (λ n. pick_false _ _ n ∙ sym (pick_false _ _ n))

-- a range that is larger than every region lies in none
pub too_large_is_outside : (part : Part) (main_size : ℕ) (protection : List ℕ) (settings_bit first count : ℕ) → main_size < count
    → part.settings_size < count → part.window_size < count → place_of part main_size protection settings_bit first count ≡ nowhere
too_large_is_outside part main_size protection settings_bit first count large larger largest =
    outside_is_told part main_size protection settings_bit first count (omega arith)
    (too_large part.settings_start part.settings_size larger) (too_large part.window_start part.window_size largest)
  where
    too_large : (start size : ℕ) → size < count → lies_within start size first count ≡ false
    too_large start size h = by_cases (dec_lt first start) (range_before start size first count) (λ n. range_past start size first count (omega arith))

-- 01, Marked cases, sides of limits: "Address 0xFFFFFFF8 with 16 bytes is 05 and never wraps."
pub last_addresses_are_outside : (part : Part) (main_size : ℕ) (protection : List ℕ) (settings_bit : ℕ) → main_size ≤ part.most_main
    → part.most_main ≤ 0xFFFFFFFF → part.settings_start + part.settings_size ≤ 0xFFFFFFFF → part.window_start + part.window_size ≤ 0xFFFFFFFF
    → place_of part main_size protection settings_bit 0xFFFFFFF8 16 ≡ nowhere
last_addresses_are_outside part main_size protection settings_bit h main settings window =
    outside_is_told part main_size protection settings_bit 0xFFFFFFF8 16 (omega arith)
    (range_past part.settings_start part.settings_size 0xFFFFFFF8 16 (omega arith))
    (range_past part.window_start part.window_size 0xFFFFFFF8 16 (omega arith))

-- ---- the bytes

-- no more of them than were asked for
pub most_asked : (offset size : ℕ) (memory : Memory) (region : Region) → length (bytes_in offset size memory region) ≤ size
most_asked offset size memory Main = simp length-take (omega arith)
most_asked offset size memory Settings = simp length-take (omega arith)
most_asked offset size memory Window = simp length-take (omega arith)
most_asked offset size memory Outside = omega arith
