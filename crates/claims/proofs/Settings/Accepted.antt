-- What the reader's tests say of an accepted image: its parts are those that the writer would put there.
use mathlib.Core.Path.{◌≡◌, refl, sym, ap, ◌∙◌}
use mathlib.Core.Bool.{true}
use mathlib.Core.List.{List, ◌++◌}
use Prim.Native.Nat.{ℕ, ◌-◌, ◌<◌}
use native.Mathlib.Omega.{arith}
use borrow.Author.Tests.{eqb-true, not-false}
use lib.ListN.{length, get_or, take}
use lib.Seq.{take_all}
use Rattle.octets.specs.Number.{part, number_at}
use Rattle.octets.specs.Alike.{all_are}
use Rattle.octets.proofs.Parts.{length_part, parts_join}
use Rattle.octets.proofs.AlikeLaws.{all_are_replicate, replicate_all_are}
use Rattle.checksum.specs.Checksum.{checksum_of}
use Rattle.settings.specs.declared.Form.{Form}
use Rattle.settings.specs.declared.Form.TheVariants.{One, Two}
use Rattle.settings.specs.Layout.{layout_of, offset_of, sum_of, table_of, pairs_of}
use Rattle.settings.specs.Table.{bodies_at, table_ends, filler_at, bodies_end_lem}
use Rattle.settings.specs.Values.{no_name}
use Rattle.settings.specs.Bodies.{name_body, name_in, contents_in}
use Rattle.settings.specs.Image.{filler_of, front_of, image_of}
use Rattle.settings.specs.Reader.{checksum_differs, is_form, filler_differs}
use Rattle.settings.specs.Writer.{name_fits}
use Rattle.settings.proofs.BodyLaws.{bodies_begin}
use Rattle.settings.proofs.WriterLaws.{filler_there}
use Rattle.settings.proofs.AgainLaws.{number_again, bodies_made_again}
use Rattle.claims.proofs.Settings.Tables.TableRule.{table_was_put}
use Rattle.settings.proofs.PassingLaws.{Passed}

-- ---- form by form

-- the bodies of an image, and the image of its pieces
module _ (image : List ℕ) where
  bodies_joined : (form : Form) → part (bodies_at form) 74 image ++ name_body form (name_in form image) ≡ part (bodies_at form) (filler_at form - bodies_at form) image
  unfolding offset_of sum_of
  bodies_joined One = parts_join 52 74 0 image
  bodies_joined Two = parts_join 60 74 64 image

  pieces_joined : (form : Form)
      → part 0 (bodies_at form) image ++ (part (bodies_at form) (filler_at form - bodies_at form) image ++ part (filler_at form) (1020 - filler_at form) image)
      ≡ part 0 1020 image
  pieces_joined One = rw (parts_join 52 74 894 image, parts_join 0 52 968 image)
  pieces_joined Two = rw (parts_join 60 138 822 image, parts_join 0 60 960 image)

  -- the name that is read fits the form
  pub read_name_fits : (form : Form) → name_fits form (name_in form image) ≡ true
  unfolding name_fits no_name
  read_name_fits One = replicate_all_are 0xFF 64
  read_name_fits Two = refl

module _ (form : Form) (image : List ℕ) (passed : Passed form image) (each : (k : ℕ) → get_or image k 0 < 256) where
  table_there : pairs_of (table_of (layout_of form)) ≡ part 0 (bodies_at form) image
  unfolding is_form
  table_there =
      table_was_put (layout_of form) image each passed.known passed.entries (omega (arith, table_ends form, bodies_begin form, passed.size))
      ∙ ap (λ (end : ℕ). part 0 end image) (table_ends form)

  filler_is_there : filler_of form ≡ part (filler_at form) (1020 - filler_at form) image
  unfolding filler_differs
  filler_is_there =
      let all : all_are 255 (part (filler_at form) (1020 - filler_at form) image) ≡ true = not-false _ (rw (bodies_end_lem form) at passed.filler) in
      let n : length (part (filler_at form) (1020 - filler_at form) image) ≡ 1020 - filler_at form =
      length_part (filler_at form) (1020 - filler_at form) image (omega (arith, passed.size, (filler_there form).1)) in
      rw (bodies_end_lem form) (sym (rw n at (all_are_replicate 255 (part (filler_at form) (1020 - filler_at form) image) all)))

  front_there : front_of (contents_in form image) ≡ part 0 1020 image
  front_there = rw (table_there, bodies_made_again form image passed.size passed.value each, bodies_joined image form, filler_is_there, pieces_joined image form)

  pub written_again : image_of (contents_in form image) ≡ image
  unfolding image_of checksum_differs
  written_again =
      let sum : number_at 1020 4 image ≡ checksum_of (take 1020 image) = eqb-true _ _ (not-false _ passed.checksum) in
      rw (front_there, ← sum, number_again image each 1020 4 (omega (arith, passed.size)), parts_join 0 1020 4 image) (take_all 1024 image (omega (arith, passed.size)))
