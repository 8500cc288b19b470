-- What is found of an image in the layout of its form is what is found of it in the form.
use Rattle.std.specs.Prelude.{Some, Result, Ok, Err}
use mathlib.Core.Path.{◌≡◌, refl, ap, ◌∙◌}
use mathlib.Core.Bool.{Bool, true, false, not}
use mathlib.Core.List.{List, []}
use Prim.Native.Nat.{ℕ, ◌-◌}
use native.Mathlib.Omega.{arith}
use lib.ListN.{length, drop, take, drop_of_length-le}
use Rattle.octets.specs.Choice.{pick}
use Rattle.octets.specs.Number.{part}
use Rattle.octets.specs.Alike.{all_are}
use Rattle.settings.specs.declared.Form.{Form}
use Rattle.settings.specs.declared.Refusal.{Refusal}
use Rattle.settings.specs.declared.Refusal.TheVariants.{ChecksumDiffers, FormUnknown, FillerDiffers, ValueNotAllowed}
use Rattle.settings.specs.Layout.{layout_of, image_size, checksum_at, bodies_end}
use Rattle.settings.specs.Reader.{Checked, filler_differs}
use Rattle.settings.specs.Layouts.{rest_differs}

abbrev pub told : Form → Result Unit Refusal → Checked
told form (Ok nothing) = Ok (Some form)
told form (Err refusal) = Err refusal

pub told_picks : (form : Form) (entry : Refusal) (a b c : Bool)
    → pick a (Err entry) (pick b (Err FillerDiffers) (pick c (Err ValueNotAllowed) (Ok (Some form))))
    ≡ told form (pick a (Err entry) (pick b (Err FillerDiffers) (pick c (Err ValueNotAllowed) (Ok tt))))
unfolding pick
told_picks form entry true b c = refl
told_picks form entry false true c = refl
told_picks form entry false false true = refl
told_picks form entry false false false = refl

-- and before them the checksum and the form
pub told_tests : (form : Form) (a b : Bool) (found : Checked) (parts : Result Unit Refusal) → found ≡ told form parts
    → pick a (Err ChecksumDiffers) (pick b (Err FormUnknown) found) ≡ told form (pick a (Err ChecksumDiffers) (pick b (Err FormUnknown) parts))
unfolding pick
told_tests form true b found parts e = refl
told_tests form false true found parts e = refl
told_tests form false false found parts e = e

no_rest : (first : Bool) → pick first false true ≡ not first
unfolding pick
no_rest true = refl
no_rest false = refl

module _ (form : Form) (image : List ℕ) (size : length image ≡ image_size) where
  -- there is no second half
  pub rest_is_filler : rest_differs (layout_of form) image ≡ filler_differs form image
  unfolding rest_differs filler_differs all_are
  rest_is_filler =
      let gone : drop image_size image ≡ [] = drop_of_length-le image {i = image_size} (omega (arith, size)) in
      ap (λ (rest : List ℕ). pick (all_are 0xFF (part (bodies_end (layout_of form)) (checksum_at - bodies_end (layout_of form)) image)) (not (all_are 0xFF (take image_size rest))) true) gone
      ∙ no_rest (all_are 0xFF (part (bodies_end (layout_of form)) (checksum_at - bodies_end (layout_of form)) image))
