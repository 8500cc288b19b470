-- T-07: "Show that with the region rule the test never changes a reply".
use mathlib.Core.Path.{◌≡◌, refl, sym, ap, ◌∙◌}
use mathlib.Core.Bool.{true}
use mathlib.Core.List.{List}
use Prim.Native.Nat.{ℕ, ◌≤◌, ◌<◌}
use native.Mathlib.Omega.{arith}
use borrow.Author.Tests.{ltb-true}
use lib.Dec.{ltb}
use Rattle.octets.specs.Choice.{pick}
use Rattle.octets.proofs.Searching.{pick_true, pick_false, by_test}
use Rattle.checksum.specs.Checksum.{checksum_of}
use Rattle.line.specs.Codes as codes
use Rattle.line.specs.declared.Reply.{Reply}
use Rattle.line.specs.declared.Reply.TheVariants.{Message, Sum}
use Rattle.parts.specs.declared.Part.{Part}
use Rattle.parts.specs.Parts.{mspm0}
use Rattle.flash.specs.declared.Place.{Place}
use Rattle.flash.specs.Regions.{is_main_size, place_of}
use Rattle.flash.specs.Memory.{Memory, bytes_at}
use Rattle.flash.proofs.RegionLaws.{main_size_is_small, too_large_is_outside}
use Rattle.session_act.specs.Programming.{is_outside, is_window}
use Rattle.session_act.specs.Showing.{verify_at}
use Rattle.claims.specs.VerifyLimit.{verify_limited}

-- for every part whose settings and window are no larger than the largest MAIN, every size of MAIN that the rule allows, every address, size and memory
pub limit_changes_no_reply : (part : Part) (main_size : ℕ) (protection : List ℕ) (settings_bit address size : ℕ) (memory : Memory) → part.settings_size ≤ part.most_main
    → part.window_size ≤ part.most_main
    → is_main_size part main_size ≡ true
    → verify_limited part size memory (place_of part main_size protection settings_bit address size) ≡ verify_at part size memory (place_of part main_size protection settings_bit address size)
unfolding verify_limited verify_at
limit_changes_no_reply part main_size protection settings_bit address size memory settings window allowed =
    let small = main_size_is_small part main_size allowed in
    let by_region : Place → Reply = λ place. pick (is_outside place.region) (Message codes.invalid_range)
    (pick (is_window place.region) (Message codes.invalid_range) (Sum (checksum_of (bytes_at place size memory)))) in
    ap (pick (ltb size part.least_verify) (Message codes.too_small))
    (by_test (ltb part.most_main size)
    (λ y.
    let large : part.most_main < size = ltb-true _ _ y in
    pick_true _ _ y ∙ sym (ap by_region (too_large_is_outside part main_size protection settings_bit address size (omega arith) (omega arith) (omega arith)) ∙ pick_true _ _ refl))
    (λ n. pick_false _ _ n))

-- the same of the MSPM0
pub limit_changes_no_reply_of_mspm0 : (main_size : ℕ) (protection : List ℕ) (settings_bit address size : ℕ) (memory : Memory) → is_main_size mspm0 main_size ≡ true
    → verify_limited mspm0 size memory (place_of mspm0 main_size protection settings_bit address size) ≡ verify_at mspm0 size memory (place_of mspm0 main_size protection settings_bit address size)
limit_changes_no_reply_of_mspm0 main_size protection settings_bit address size memory = limit_changes_no_reply mspm0 main_size protection settings_bit address size memory (omega arith) (omega arith)
