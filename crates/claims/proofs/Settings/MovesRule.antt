-- T-09: "We need the move from 1 to 2 and back: forth and back gives the first image byte for byte, and back and forth likewise. A blank image
-- moves to itself both ways."
-- `moved_to_two` and `moved_to_one` are what `settings::to_form_2` and `settings::to_form_1` are proved to do.
use Rattle.std.specs.Prelude.{Some, None, Ok, Err}
use mathlib.Core.Path.{◌≡◌, refl, sym, ap, subst, ◌∙◌}
use mathlib.Core.Bool.{Bool, true, false, true≢false, false≢true, not}
use mathlib.Core.List.{List}
use Prim.Native.Nat.{ℕ, ◌<◌}
use native.Mathlib.Omega.{arith}
use borrow.Author.Tests.{eq-eqb, eqb-true, eqb-false}
use lib.Dec.{eqb}
use lib.ListN.{length, get_or, replicate}
use Rattle.octets.specs.Choice.{pick}
use Rattle.octets.specs.Alike.{all_are}
use Rattle.octets.proofs.Searching.{pick_both, by_pick, by_test}
use Rattle.octets.proofs.AlikeLaws.{all_are_replicate, replicate_all_are}
use Rattle.settings.specs.declared.Form.{Form}
use Rattle.settings.specs.declared.Form.TheVariants.{One, Two}
use Rattle.settings.specs.declared.Forms.{Forms}
use Rattle.settings.specs.declared.Forms.TheVariants.{Both, OnlyOne, OnlyTwo}
use Rattle.settings.specs.Held.{Contents}
use Rattle.settings.specs.Layout.{image_size}
use Rattle.settings.specs.Values.{is_allowed, no_name}
use Rattle.settings.specs.Bodies.{name_in, contents_in}
use Rattle.settings.specs.Image.{image_of}
use Rattle.settings.specs.Answers.{numbered, WriteLeft, write_left, MoveLeft, move_left}
use Rattle.settings.specs.Reader.{Checked, is_blank, checked_of, read_as, read_of}
use Rattle.settings.specs.Writer.{name_fits, write_of}
use Rattle.settings.specs.Moves.{in_form, moved_by, move_as, move_of, moved_to_one, moved_to_two}
use Rattle.settings.proofs.ReaderLaws.{refuses}
use Rattle.claims.specs.Held.{HeldContents}
use Rattle.settings.proofs.PassingLaws.{Passed, Good, checked_is_good, takes, passes, other_is_refused}
use Rattle.claims.proofs.Settings.Written.{image_says, image_passes}
use Rattle.settings.proofs.AgainLaws.{read_is_allowed}
use Rattle.claims.proofs.Settings.SettingsRule.{written_is, passed_is_written, blank_reads, no_name_fits}
use Rattle.claims.proofs.Settings.HeldSettings.{contents_held}

-- ---- a blank image, and one that is refused

pub blank_moves_to_itself : (from : Forms) (to : Form) → move_of from to (replicate image_size 0xFF) ≡ move_left (numbered 0 0) (replicate image_size 0xFF)
unfolding move_of checked_of pick
blank_moves_to_itself from to = rw (replicate_all_are 0xFF image_size)

-- a refused writer changes no byte
pub writer_keeps : (contents : Contents) (image : List ℕ) → ((write_of contents image).number ≡ 0 → ⊥) → (write_of contents image).image ≡ image
unfolding write_of
writer_keeps contents image =
    by_pick Same (not (eqb (length image) image_size)) (write_left 3 image) _ (λ y h. refl)
    (λ n. by_pick Same (not (is_allowed contents.settings.shown)) (write_left 8 image) _ (λ y h. refl)
    (λ m. by_pick Same (not (name_fits contents.form contents.name)) (write_left 41 image) (write_left 0 (image_of contents)) (λ y h. refl) (λ o h. absurd (h refl))))
  where
    Same : WriteLeft → Type 0
    Same left = (left.number ≡ 0 → ⊥) → left.image ≡ image

-- a refused move changes no byte
pub refused_move_keeps : (from : Forms) (to : Form) (image : List ℕ) → ((move_of from to image).told.number ≡ 0 → ⊥) → (move_of from to image).image ≡ image
unfolding move_of
refused_move_keeps from to image = as_found (checked_of from image)
  where
    as_found : (found : Checked) → ((move_as to image found).told.number ≡ 0 → ⊥) → (move_as to image found).image ≡ image
    as_found (Ok None) h = refl
    as_found (Ok (Some form)) h = writer_keeps (in_form to (contents_in form image)) image h
    as_found (Err refusal) h = refl

-- an image that is blank is 1,024 times 0xFF
blank_is : (image : List ℕ) → is_blank image ≡ true → image ≡ replicate image_size 0xFF
blank_is image blank =
    let both = pick_both (eqb (length image) image_size) (all_are 0xFF image) blank in
    let size : length image ≡ image_size = eqb-true _ _ both.0 in
    all_are_replicate 0xFF image both.1 ∙ ap (λ (n : ℕ). replicate n 0xFF) size

-- ---- an image that is written

abbrev pub other : Form → Form
other One = Two
other Two = One

-- the move from a form to the other
abbrev pub starts : Form → Forms
starts One = OnlyOne
starts Two = OnlyTwo

abbrev pub moved : Form → List ℕ → MoveLeft
moved form image = move_of (starts form) (other form) image

own_form : (form : Form) → takes (starts form) form ≡ true
unfolding takes
own_form One = refl
own_form Two = refl

only_own : (form taken : Form) → takes (starts form) taken ≡ true → taken ≡ form
unfolding takes
only_own One One e = refl
only_own One Two e = absurd (false≢true e)
only_own Two One e = absurd (false≢true e)
only_own Two Two e = refl

from_other : (form : Form) → takes (starts (other form)) form ≡ false
unfolding takes
from_other One = refl
from_other Two = refl

twice : (form : Form) → other (other form) ≡ form
twice One = refl
twice Two = refl

module _ (form : Form) (image : List ℕ) (passed : Passed form image) where
  abbrev contents : Contents
  contents = contents_in form image

  -- what is written is moved by the writer
  moved_is_written : moved form image ≡ moved_by (write_of (in_form (other form) contents) image)
  unfolding move_of
  moved_is_written = ap (move_as (other form) image) (passes (starts form) form image passed (own_form form))

  -- "gives 5 to the form it does not start from"
  pub other_move_is_refused : moved (other form) image ≡ move_left (numbered 5 0) image
  unfolding move_of
  other_move_is_refused = ap (move_as (other (other form)) image) (other_is_refused (starts (other form)) form image passed (from_other form))

  -- a name for which the other form has no place
  pub named_is_refused : name_fits (other form) (name_in form image) ≡ false → moved form image ≡ move_left (numbered 41 0) image
  unfolding write_of pick
  named_is_refused none =
      moved_is_written ∙ rw (eq-eqb (length image) image_size passed.size, read_is_allowed form image passed.size passed.value, none)

  -- where it has one, the image is moved, and moved back it is as it was
  module _ (each : (k : ℕ) → get_or image k 0 < 256) (fits : name_fits (other form) (name_in form image) ≡ true) where
    abbrev there : Contents
    there = in_form (other form) contents

    allowed : is_allowed there.settings.shown ≡ true
    allowed = read_is_allowed form image passed.size passed.value

    held : HeldContents there
    held = let h = contents_held image each passed.size form in record { settings = h.settings; name = h.name }

    pub moves_over : moved form image ≡ move_left (numbered 0 0) (image_of there)
    moves_over = moved_is_written ∙ ap moved_by (written_is there image passed.size allowed fits)

    pub moves_back : moved (other form) (image_of there) ≡ move_left (numbered 0 0) image
    unfolding move_of
    moves_back =
        let passes_there = image_passes there held allowed fits in
        ap (move_as (other (other form)) (image_of there)) (passes (starts (other form)) (other form) (image_of there) passes_there (own_form (other form)))
        ∙ ap (λ (said : Contents). moved_by (write_of (in_form (other (other form)) said) (image_of there))) (image_says there held allowed fits)
        ∙ ap (λ (back : Form). moved_by (write_of (in_form back there) (image_of there))) (twice form)
        ∙ ap moved_by (passed_is_written image each (image_of there) passes_there.size form passed)

-- ---- where a move answers 0, the other one brings the image back byte for byte

module _ (form : Form) (image : List ℕ) (each : (k : ℕ) → get_or image k 0 < 256) where
  abbrev Returns : MoveLeft → Type 0
  Returns left = left.told.number ≡ 0 → moved (other form) left.image ≡ move_left (numbered 0 0) image

  passed_returns : Passed form image → Returns (moved form image)
  passed_returns passed e =
      by_test (name_fits (other form) (name_in form image))
      (λ fits. ap (λ left. moved (other form) left.image) (moves_over form image passed each fits) ∙ moves_back form image passed each fits)
      (λ none. absurd (omega (arith, ap (λ left. left.told.number) (named_is_refused form image passed none))))

  found_returns : (found : Checked) → Good (starts form) image found → checked_of (starts form) image ≡ found → Returns (moved form image)
  unfolding Good move_of
  found_returns (Ok None) blank is e =
      let whole = blank_is image blank in
      ap (λ (bytes : List ℕ). moved (other form) (moved form bytes).image) whole
      ∙ ap (λ left. moved (other form) left.image) (blank_moves_to_itself (starts form) (other form))
      ∙ blank_moves_to_itself (starts (other form)) (other (other form))
      ∙ ap (move_left (numbered 0 0)) (sym whole)
  found_returns (Ok (Some taken)) good is e = passed_returns (subst (λ (f : Form). Passed f image) (only_own form taken good.1) good.0) e
  found_returns (Err refusal) good is e =
      absurd (eqb-false _ _ (refuses refusal) (sym (ap (λ found. (move_as (other form) image found).told.number) is) ∙ e))

  pub move_returns : Returns (moved form image)
  move_returns = found_returns (checked_of (starts form) image) (checked_is_good image (starts form)) refl

-- ---- every image that the reader accepts

-- a name of which every byte is 0xFF is none
all_is_none : (name : List ℕ) → length name ≡ 64 → all_are 0xFF name ≡ true → name ≡ no_name
unfolding no_name
all_is_none name size all = all_are_replicate 0xFF name all ∙ ap (λ (n : ℕ). replicate n 0xFF) size

is_two : Form → Bool
is_two One = false
is_two Two = true

module _ (image : List ℕ) (each : (k : ℕ) → get_or image k 0 < 256) (accepted : (read_of image).number ≡ 0) where
  abbrev read : Contents
  read = (read_of image).contents

  -- one that is not blank is written in the form that the reader tells
  found_is_written : (form : Form) (found : Checked) → Good Both image found → (read_as image found).number ≡ 0 → is_blank image ≡ false
      → (read_as image found).contents.form ≡ form → Passed form image × ((read_as image found).contents ≡ contents_in form image)
  unfolding Good
  found_is_written form (Ok None) blank e written is = absurd (true≢false (sym blank ∙ written))
  found_is_written form (Ok (Some told)) good e written is =
      subst (λ (f : Form). Passed f image × (contents_in told image ≡ contents_in f image)) is (good.0, refl)
  found_is_written form (Err refusal) good e written is = absurd (eqb-false _ _ (refuses refusal) e)

  is_written_lem : (form : Form) → is_blank image ≡ false → read.form ≡ form → Passed form image × (read ≡ contents_in form image)
  unfolding read_of
  is_written_lem form written is = found_is_written form (checked_of Both image) (checked_is_good image Both) accepted written is

  -- "blank counts as form 1"
  two_is_written : read.form ≡ Two → is_blank image ≡ false
  unfolding is_two
  two_is_written two =
      by_test (is_blank image)
      (λ blank. absurd (true≢false (ap is_two (sym two ∙ ap (λ (bytes : List ℕ). (read_of bytes).contents.form) (blank_is image blank) ∙ ap (λ told. told.contents.form) blank_reads))))
      (λ written. written)

  -- forth and back, of every accepted form 1 image, a blank one among them
  pub forth_and_back : read.form ≡ One → ((moved_to_two image).told ≡ numbered 0 0) × (moved_to_one (moved_to_two image).image ≡ move_left (numbered 0 0) image)
  unfolding name_fits
  forth_and_back one = (told, move_returns One image each (ap (λ told. told.number) told))
    where
      told : (moved_to_two image).told ≡ numbered 0 0
      told =
          by_test (is_blank image)
          (λ blank. ap (λ (bytes : List ℕ). (moved_to_two bytes).told) (blank_is image blank) ∙ ap (λ left. left.told) (blank_moves_to_itself OnlyOne Two))
          (λ written. ap (λ left. left.told) (moves_over One image (is_written_lem One written one).0 each refl))

  -- back and forth, of every accepted form 2 image without a name
  pub back_and_forth : read.form ≡ Two → read.name ≡ no_name
      → ((moved_to_one image).told ≡ numbered 0 0) × (moved_to_two (moved_to_one image).image ≡ move_left (numbered 0 0) image)
  back_and_forth two none = (told, move_returns Two image each (ap (λ told. told.number) told))
    where
      told : (moved_to_one image).told ≡ numbered 0 0
      told =
          let so = is_written_lem Two (two_is_written two) two in
          let fits = ap (name_fits One) (sym (ap (λ (contents : Contents). contents.name) so.1) ∙ none) ∙ no_name_fits in
          ap (λ left. left.told) (moves_over Two image so.0 each fits)

  -- and one with a name gets 41, with every byte as it was
  pub name_stays : read.form ≡ Two → (read.name ≡ no_name → ⊥) → moved_to_one image ≡ move_left (numbered 41 0) image
  unfolding name_fits
  name_stays two some =
      let so = is_written_lem Two (two_is_written two) two in
      named_is_refused Two image so.0
      (by_test (all_are 0xFF (name_in Two image))
      (λ all. absurd (some (ap (λ (contents : Contents). contents.name) so.1 ∙ all_is_none (name_in Two image) (contents_held image each so.0.size Two).name.size all)))
      (λ none. none))

  -- "gives 5 to the form it does not start from, blank excepted"
  pub forth_refuses_form_2 : read.form ≡ Two → moved_to_two image ≡ move_left (numbered 5 0) image
  forth_refuses_form_2 two = other_move_is_refused Two image (is_written_lem Two (two_is_written two) two).0

  pub back_refuses_form_1 : read.form ≡ One → is_blank image ≡ false → moved_to_one image ≡ move_left (numbered 5 0) image
  back_refuses_form_1 one written = other_move_is_refused One image (is_written_lem One written one).0
