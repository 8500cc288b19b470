-- A cut of the power within the erase of both regions: the version that is published then hangs on the version before, and on no other byte.
use mathlib.Core.Path.{◌≡◌, refl, sym, ap, ap₂, ◌∙◌}
use mathlib.Core.Bool.{Bool, true, false}
use mathlib.Core.List.{List}
use Prim.Native.Nat.{ℕ, ◌+◌, ◌%◌, ◌/◌, ◌≤◌, ◌<◌}
use native.Mathlib.Omega.{arith}
use borrow.Author.Tests.{eqb-true, leb-true}
use lib.Dec.{eqb, leb}
use lib.ListN.{length, replicate}
use Rattle.octets.specs.Choice.{pick}
use Rattle.octets.specs.Number.{part, number_of, number_at}
use Rattle.octets.proofs.Parts.{length_part}
use Rattle.octets.proofs.Searching.{pick_true, pick_false, by_test}
use Rattle.parts.specs.declared.Part.{Part}
use Rattle.parts.specs.Parts.{version_size, Sound}
use Rattle.settings.specs.declared.Shown.{Shown}
use Rattle.flash.specs.Memory.{Memory, memory}
use Rattle.flash.specs.Protection.{may_change, changed}
use Rattle.flash.specs.Erasing.{erase_all_of}
use Rattle.flash.proofs.PlaceLaws.{by_same_rule, by_keeping_rule, by_one_value, part_by_place}
use Rattle.flash.proofs.ProtectionLaws.{one_sector_lem, changed_keeps_length, changed_alike}
use Rattle.session_act.specs.declared.Order.TheVariants.{EraseBoth}
use Rattle.session_act.specs.Board.{settings_protection}
use Rattle.session_act.specs.Orders.{carried_out}
use Rattle.session_act.specs.Info.{version_at, version_of}
use Rattle.claims_restarts.specs.Cuts.{some_erased}

module _ (sector_size : ℕ) (protection : List ℕ) (erased : ℕ → Bool) where
  pub cut_keeps_length : (region : List ℕ) → length (some_erased sector_size protection erased region) ≡ length region
  unfolding some_erased
  cut_keeps_length region = changed_keeps_length sector_size protection _ region

  -- a place is gone where its sector is not protected, and was erased
  is_gone : ℕ → Bool
  is_gone place = pick (may_change sector_size protection place) (erased (place / sector_size)) false

  gone_is_ff : (place old : ℕ) → pick (may_change sector_size protection place) (pick (erased (place / sector_size)) 0xFF old) old ≡ pick (is_gone place) 0xFF old
  unfolding is_gone
  gone_is_ff place old =
      by_test (may_change sector_size protection place)
      (λ y. rw (pick_true (erased (place / sector_size)) false y, pick_true (pick (erased (place / sector_size)) 0xFF old) old y) refl)
      (λ n. rw (pick_false (erased (place / sector_size)) false n, pick_false (pick (erased (place / sector_size)) 0xFF old) old n) (sym (pick_false 0xFF old refl)))

  -- bytes of one sector are gone all together, or none
  module _ (region : List ℕ) (at count : ℕ) (inside : at % sector_size + count ≤ sector_size) (there : at + count ≤ length region) where
    one_bit : (k : ℕ) → k < count → is_gone (at + k) ≡ is_gone at
    unfolding is_gone may_change
    one_bit k h = rw (one_sector_lem sector_size at count (at + k) inside (omega arith) (omega arith))

    cut_in_one_sector : part at count (some_erased sector_size protection erased region) ≡ pick (is_gone at) (replicate count 0xFF) (part at count region)
    unfolding some_erased changed
    cut_in_one_sector =
        let size = length_part at count region there in
        part_by_place _ at count region
        ∙ by_same_rule _ _ (part at count region) (λ k x h. gone_is_ff (at + k) x)
        ∙ by_test (is_gone at)
        (λ y. by_same_rule _ _ (part at count region) (λ k x h. pick_true 0xFF x (one_bit k (omega arith) ∙ y))
        ∙ sym (by_one_value 0xFF (part at count region))
        ∙ ap (λ (n : ℕ). replicate n 0xFF) size
        ∙ sym (pick_true _ _ y))
        (λ n. by_keeping_rule _ (part at count region) (λ k x h. pick_false 0xFF x (one_bit k (omega arith) ∙ n)) ∙ sym (pick_false _ _ n))

  module _ (size pointer : ℕ) (fits : pointer % size ≡ 0 → pointer % sector_size + size ≤ sector_size) where
    cut_version : (main : List ℕ) → pointer % size ≡ 0 → pointer + size ≤ length main
        → number_at pointer size (some_erased sector_size protection erased main)
        ≡ pick (is_gone pointer) (number_of (replicate size 0xFF)) (number_at pointer size main)
    cut_version main aligned there =
        let bytes = cut_in_one_sector main pointer size (fits aligned) there in
        by_test (is_gone pointer)
        (λ y. ap number_of (bytes ∙ pick_true _ _ y) ∙ sym (pick_true _ _ y))
        (λ n. ap number_of (bytes ∙ pick_false _ _ n) ∙ sym (pick_false _ _ n))

    version_cut : ℕ → ℕ → ℕ
    version_cut main_size version =
        pick (eqb (pointer % size) 0)
        (pick (leb (pointer + size) main_size) (pick (is_gone pointer) (number_of (replicate size 0xFF)) version) 0) 0

    version_cut_lem : (main : List ℕ) → version_at size pointer (some_erased sector_size protection erased main) ≡ version_cut (length main) (version_at size pointer main)
    unfolding version_at version_cut pick
    version_cut_lem main =
        by_test (eqb (pointer % size) 0)
        (λ aligned.
        by_test (leb (pointer + size) (length main))
        (λ there. rw (aligned, cut_keeps_length main, there) (cut_version main (eqb-true _ _ aligned) (leb-true _ _ there)))
        (λ beyond. rw (aligned, cut_keeps_length main, beyond)))
        (λ odd. rw odd)

    cut_alike : (one other : List ℕ) → length one ≡ length other → version_at size pointer one ≡ version_at size pointer other
        → version_at size pointer (some_erased sector_size protection erased one) ≡ version_at size pointer (some_erased sector_size protection erased other)
    cut_alike one other whole same = version_cut_lem one ∙ ap₂ version_cut whole same ∙ sym (version_cut_lem other)

-- images of one length that publish the same version do so after the same cut
pub cut_versions_alike : (part : Part) → Sound part → (protection : List ℕ) (erased : ℕ → Bool) (shown : Shown) (one other : List ℕ) → length one ≡ length other
    → version_of part shown one ≡ version_of part shown other
    → version_of part shown (some_erased part.sector_size protection erased one) ≡ version_of part shown (some_erased part.sector_size protection erased other)
cut_versions_alike part sound protection erased shown =
    cut_alike part.sector_size protection erased (version_size part.long_version) shown.version_pointer (sound.version shown.version_pointer)

-- ---- a board that erases MAIN first, and the settings last

-- every sector of a region is erased: all of it is
pub all_erased_is_whole : (sector_size : ℕ) (protection : List ℕ) (erased : ℕ → Bool) (region : List ℕ)
    → ((place : ℕ) → place < length region → erased (place / sector_size) ≡ true) → some_erased sector_size protection erased region ≡ erase_all_of sector_size protection region
unfolding some_erased erase_all_of
all_erased_is_whole sector_size protection erased region all =
    changed_alike sector_size protection _ _ region (λ place old there may. pick_true 0xFF old (all place there))

-- so the step after MAIN's last, which erases the settings, does what the order says
pub last_step_is_whole : (part : Part) (shown : Shown) (protection packet : List ℕ) (erased : ℕ → Bool) (before : Memory)
    → ((place : ℕ) → place < length before.main → erased (place / part.sector_size) ≡ true)
    → memory (some_erased part.sector_size protection erased before.main) (erase_all_of part.sector_size (settings_protection shown) before.settings) before.window
    ≡ carried_out part shown protection packet before EraseBoth
last_step_is_whole part shown protection packet erased before all =
    ap (λ (main : List ℕ). memory main (erase_all_of part.sector_size (settings_protection shown) before.settings) before.window)
    (all_erased_is_whole part.sector_size protection erased before.main all)
