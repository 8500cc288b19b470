-- T-11, Mend a settings image: "The reader accepts every result. An image the reader accepts, blank included, comes back unchanged with four zeros.",
-- "Each number equals the count of differing places there."
-- `mend_of` is what `settings_mend::mend` is proved to do, `mend_from_c` what `c_records::mend_image` is.
use Rattle.std.specs.Prelude.{Result, Ok, Err}
use mathlib.Core.Path.{◌≡◌, refl, sym, ap, ap₂, ◌∙◌}
use mathlib.Core.Bool.{true, false, not}
use mathlib.Core.List.{List, [], ◌∷◌, ◌++◌, append_assoc, append-nil}
use Prim.Native.Nat.{ℕ, ◌≤◌, ◌<◌}
use native.Mathlib.Omega.{arith}
use borrow.Author.Tests.{eq-eqb, ne_eqb, eqb-true, not-false, le-leb}
use lib.Dec.{eqb, leb}
use lib.ListN.{length, get_or}
use Rattle.octets.specs.Choice.{pick}
use Rattle.octets.specs.Number.{part}
use Rattle.octets.proofs.Parts.{length_part, parts_join, part_of_part, each_part}
use Rattle.octets.proofs.Searching.{by_pick, by_test, pick_true}
use Rattle.octets.proofs.AlikeLaws.{same_differ_nowhere}
use Rattle.settings.specs.declared.Shown.{Shown}
use Rattle.settings.specs.Held.{Settings}
use Rattle.settings.specs.declared.Form.TheVariants.{One, Two}
use Rattle.settings.specs.Held.{Contents}
use Rattle.settings.specs.Layout.{form1, image_size, table_of, pairs_of, offset_of, sum_of}
use Rattle.settings.specs.Values.{is_allowed, no_name}
use Rattle.settings.specs.Bodies.{values_of, bodies_of, contents_of, shown_in, settings_in}
use Rattle.settings.specs.Image.{image_of, filler_of, sealed}
use Rattle.settings.specs.Answers.{accepted}
use Rattle.settings.specs.Reader.{is_form, checked_of, read_of, is_accepted}
use Rattle.settings.proofs.AgainLaws.{number_again, numbers_made, read_is_allowed}
use Rattle.settings.proofs.PassingLaws.{Passed}
use Rattle.settings_mend.specs.declared.Examined.{Examined}
use Rattle.settings_mend.specs.declared.Examined.TheVariants as examined
use Rattle.settings_mend.specs.declared.MendError.{MendError}
use Rattle.settings_mend.specs.declared.MendError.TheVariants as mending
use Rattle.settings_mend.specs.Examining.{examined_of}
use Rattle.settings_mend.specs.Mending.{allowed_or, mended_values, mended_bodies, mended, changes_of, no_changes, told, mend_left, mend_as, mend_of}
use Rattle.c_records.specs.OneNumber.{refusal}
use Rattle.c_records.specs.MendFromC.{MendStored, mend_stored, counts_size, counts_of, mend_from_c}
use Rattle.claims.specs.Held.{HeldContents}
use Rattle.claims.specs.MendedSettings.{mended_shown, mended_settings}
use Rattle.claims.proofs.Settings.Written.{allowed_values}
use Rattle.claims.proofs.Settings.Accepted.{written_again}
use Rattle.claims.proofs.Settings.SettingsRule.{image_reads, blank_contents_held, no_name_fits}
use Rattle.claims.proofs.Settings.HeldSettings.{settings_held}

-- ---- images that are left as they are

-- the reader accepts nothing of another size
not_read : (image : List ℕ) → eqb (length image) image_size ≡ false → (read_of image).number ≡ 3
unfolding read_of checked_of pick
not_read image other = rw other

accepted_has_size : (image : List ℕ) → (read_of image).number ≡ 0 → length image ≡ image_size
accepted_has_size image e =
    by_test (eqb (length image) image_size) (λ size. eqb-true _ _ size) (λ other. absurd (omega (arith, e, not_read image other)))

-- an accepted image comes back unchanged, with four zeros: a blank one, and one of form 2
pub accepted_is_unchanged : (image : List ℕ) → (read_of image).number ≡ 0 → mend_of image ≡ mend_left (told 0 no_changes) image
unfolding mend_of examined_of is_accepted pick
accepted_is_unchanged image e = rw (eq-eqb (length image) image_size (accepted_has_size image e), eq-eqb (read_of image).number 0 e)

-- "Refusals: 3"
pub other_size_is_refused : (image : List ℕ) → (length image ≡ image_size → ⊥) → mend_of image ≡ mend_left (told 3 no_changes) image
unfolding mend_of examined_of pick
other_size_is_refused image other = rw (ne_eqb (length image) image_size other)

-- "then 5 for an image not accepted whose first four bytes read form 2 and count 7"
pub damaged_form_2_is_refused : (image : List ℕ) → length image ≡ image_size → ((read_of image).number ≡ 0 → ⊥) → is_form Two image ≡ true
    → mend_of image ≡ mend_left (told 5 no_changes) image
unfolding mend_of examined_of is_accepted pick
damaged_form_2_is_refused image size not_accepted two = rw (eq-eqb (length image) image_size size, ne_eqb (read_of image).number 0 not_accepted, two)

-- any other image is mended
pub damaged_is_mended : (image : List ℕ) → length image ≡ image_size → ((read_of image).number ≡ 0 → ⊥) → is_form Two image ≡ false
    → mend_of image ≡ mend_left (told 0 (changes_of image (mended image))) (mended image)
unfolding mend_of examined_of is_accepted pick
damaged_is_mended image size not_accepted other = rw (eq-eqb (length image) image_size size, ne_eqb (read_of image).number 0 not_accepted, other)

-- ---- a mended image is accepted, with the kept bodies and the mended values

-- what is mended is at most the greatest that is allowed
at_most : (value most blank : ℕ) → blank ≤ most → leb (allowed_or value most blank) most ≡ true
unfolding allowed_or
at_most value most blank h = by_pick (λ n. leb n most ≡ true) (leb value most) value blank (λ y. y) (λ n. le-leb _ _ h)

mended_is_allowed : (shown : Shown) → is_allowed (mended_shown shown) ≡ true
unfolding is_allowed mended_shown pick
mended_is_allowed shown =
    rw (at_most shown.reset_mode 2 1 (omega arith), at_most shown.alert 2 0 (omega arith)) (at_most shown.settings_protected 1 0 (omega arith))

module _ (image : List ℕ) (each : (k : ℕ) → get_or image k 0 < 256) (size : length image ≡ image_size) where
  abbrev kept : Contents
  kept = contents_of One (mended_settings (settings_in form1 image)) no_name

  values_mended : values_of (mended_shown (shown_in form1 image)) ≡ mended_values (part 100 6 image)
  unfolding mended_shown shown_in mended_values offset_of sum_of
  values_mended =
      let body = part 100 6 image in
      ap (λ (two : List ℕ). allowed_or (get_or body 0 0) 2 1 ∷ allowed_or (get_or body 1 0) 2 0 ∷ (two ++ (allowed_or (get_or body 4 0) 1 0 ∷ 0 ∷ [])))
      (number_again body (each_part 100 6 image each) 2 2 (omega (arith, length_part 100 6 image (omega (arith, size)))))

  bodies_mended : bodies_of (mended_settings (settings_in form1 image)) ≡ mended_bodies image
  unfolding bodies_of mended_settings mended_shown settings_in offset_of sum_of
  bodies_mended =
      ap₂ (λ (values numbers : List ℕ). part 52 32 image ++ (part 84 16 image ++ (values ++ (numbers ++ part 118 8 image)))) values_mended
      (numbers_made image each (omega (arith, size)))
      ∙ rw (parts_join 106 12 8 image)
      (sym (append_assoc (part 52 32 image) (part 84 16 image) (mended_values (part 100 6 image) ++ part 106 20 image))
      ∙ ap (λ (l : List ℕ). l ++ (mended_values (part 100 6 image) ++ part 106 20 image)) (parts_join 52 32 16 image))

  -- it is the form 1 image of what its bodies say, mended
  pub mended_is_image_of_settings : mended image ≡ image_of kept
  unfolding mended image_of
  mended_is_image_of_settings =
      ap (λ (bodies : List ℕ). sealed (pairs_of (table_of form1) ++ (bodies ++ filler_of One))) (sym (append-nil (bodies_of (mended_settings (settings_in form1 image))) ∙ bodies_mended))

  kept_held : HeldContents kept
  unfolding mended_settings mended_shown
  kept_held =
      let held = settings_held image each (omega (arith, size)) in
      record {
        settings = record {
          shown = record { readout = held.shown.readout; bcr = held.shown.bcr; bsl = held.shown.bsl; pointer = held.shown.pointer };
          protection = held.protection;
          password = held.password;
          reset = held.reset;
        };
        name = blank_contents_held.name;
      }

  kept_allowed : is_allowed kept.settings.shown ≡ true
  unfolding mended_settings
  kept_allowed = mended_is_allowed (settings_in form1 image).shown

  pub mended_is_accepted : read_of (mended image) ≡ accepted kept
  mended_is_accepted = ap read_of mended_is_image_of_settings ∙ image_reads kept kept_held kept_allowed no_name_fits

-- ---- what holds of every image

module _ (image : List ℕ) where
  -- what is found of an image holds of it
  unfoldable So : Result Examined MendError → Type 0
  So (Err mending.SizeWrong) = Unit
  So (Ok examined.Accepted) = (read_of image).number ≡ 0
  So (Err mending.FormTwo) = Unit
  So (Ok examined.Damaged) = length image ≡ image_size

  examined_is_so : So (examined_of image)
  unfolding So examined_of is_accepted
  examined_is_so =
      by_pick So (not (eqb (length image) image_size)) _ _ (λ y. tt)
      (λ s. by_pick So (is_accepted image) _ _ (λ y. eqb-true _ _ y)
      (λ n. by_pick So (is_form Two image) _ _ (λ y. tt) (λ m. eqb-true _ _ (not-false _ s))))

  -- bytes that stay as they are differ nowhere
  none_changed : changes_of image image ≡ no_changes
  unfolding changes_of
  none_changed =
      rw (same_differ_nowhere (part 0 52 image), same_differ_nowhere (part 126 894 image), same_differ_nowhere (part 100 6 image), same_differ_nowhere (part 1020 4 image))

  found_counts : (found : Result Examined MendError) → (mend_as image found).told.changes ≡ changes_of image (mend_as image found).image
  found_counts (Err mending.SizeWrong) = sym none_changed
  found_counts (Ok examined.Accepted) = sym none_changed
  found_counts (Err mending.FormTwo) = sym none_changed
  found_counts (Ok examined.Damaged) = refl

  -- each of the four numbers is the count of the places that differ there
  pub counts_are_differences : (mend_of image).told.changes ≡ changes_of image (mend_of image).image
  unfolding mend_of
  counts_are_differences = found_counts (examined_of image)

  module _ (each : (k : ℕ) → get_or image k 0 < 256) where
    found_reads : (found : Result Examined MendError) → So found → (mend_as image found).told.number ≡ 0 → (read_of (mend_as image found).image).number ≡ 0
    unfolding So
    found_reads (Err mending.SizeWrong) so e = absurd (omega (arith, e))
    found_reads (Ok examined.Accepted) so e = so
    found_reads (Err mending.FormTwo) so e = absurd (omega (arith, e))
    found_reads (Ok examined.Damaged) so e = ap (λ told. told.number) (mended_is_accepted image each so)

    -- "The reader accepts every result."
    pub every_result_is_accepted : (mend_of image).told.number ≡ 0 → (read_of (mend_of image).image).number ≡ 0
    unfolding mend_of
    every_result_is_accepted = found_reads (examined_of image) examined_is_so

    -- mending twice is mending once
    pub mending_twice : (mend_of image).told.number ≡ 0 → mend_of (mend_of image).image ≡ mend_left (told 0 no_changes) (mend_of image).image
    mending_twice e = accepted_is_unchanged (mend_of image).image (every_result_is_accepted e)

-- ---- damage outside the bodies is undone

allowed_is_kept : (value most blank : ℕ) → value ≤ most → allowed_or value most blank ≡ value
unfolding allowed_or
allowed_is_kept value most blank h = pick_true _ _ (le-leb value most h)

allowed_shown_is_kept : (shown : Shown) → is_allowed shown ≡ true → mended_shown shown ≡ shown
unfolding mended_shown
allowed_shown_is_kept shown allowed =
    let within = allowed_values shown allowed in
    rw (allowed_is_kept shown.reset_mode 2 1 within.0, allowed_is_kept shown.alert 2 0 within.1, allowed_is_kept shown.settings_protected 1 0 within.2)

-- the bodies decide all
bodies_within : (image : List ℕ) → mended_bodies image ≡ part 0 48 (part 52 74 image) ++ (mended_values (part 48 6 (part 52 74 image)) ++ part 54 20 (part 52 74 image))
bodies_within image =
    rw (part_of_part 52 74 0 48 image (omega arith), part_of_part 52 74 48 6 image (omega arith), part_of_part 52 74 54 20 image (omega arith))

by_bodies : (one other : List ℕ) → part 52 74 one ≡ part 52 74 other → mended one ≡ mended other
unfolding mended
by_bodies one other alike =
    ap (λ (bodies : List ℕ). sealed (pairs_of (table_of form1) ++ (bodies ++ filler_of One)))
    (bodies_within one
    ∙ ap (λ (six : List ℕ). part 0 48 six ++ (mended_values (part 48 6 six) ++ part 54 20 six)) alike
    ∙ sym (bodies_within other))

-- bytes that have the bodies of an accepted form 1 image, and anything in table, filler and checksum, are mended to that image
module _ (image : List ℕ) (each : (k : ℕ) → get_or image k 0 < 256) (passed : Passed One image) where
  settings_kept : mended_settings (settings_in form1 image) ≡ settings_in form1 image
  unfolding mended_settings settings_in
  settings_kept = rw (allowed_shown_is_kept (shown_in form1 image) (read_is_allowed One image passed.size passed.value))

  pub damage_outside_the_bodies_is_undone : (bytes : List ℕ) → part 52 74 bytes ≡ part 52 74 image → mended bytes ≡ image
  damage_outside_the_bodies_is_undone bytes alike =
      by_bodies bytes image alike
      ∙ mended_is_image_of_settings image each passed.size
      ∙ ap (λ (settings : Settings). image_of (contents_of One settings no_name)) settings_kept
      ∙ written_again One image passed each

-- ---- from C

-- a refused call changes no byte of either area
pub refused_mend_from_c_keeps : (image area : List ℕ) → ((mend_from_c image area).answer ≡ 0 → ⊥) → ((mend_from_c image area).image ≡ image) × ((mend_from_c image area).counts ≡ area)
unfolding mend_from_c
refused_mend_from_c_keeps image area =
    by_pick Same (not (eqb (mend_of image).told.number 0)) (mend_stored (refusal (mend_of image).told.number) image area) _ (λ y h. (refl, refl))
    (λ n. by_pick Same (not (eqb (length area) counts_size)) (mend_stored (refusal 10) image area) (mend_stored 0 (mend_of image).image (counts_of (mend_of image).told.changes))
    (λ y h. (refl, refl)) (λ m h. absurd (h refl)))
  where
    Same : MendStored → Type 0
    Same left = (left.answer ≡ 0 → ⊥) → (left.image ≡ image) × (left.counts ≡ area)
