-- The bodies found where an image has them, and the image made of its pieces.
use mathlib.Core.Path.{◌≡◌, sym, ap, ap₂, ◌∙◌}
use mathlib.Core.Bool.{not}
use mathlib.Core.List.{List, ◌++◌}
use Prim.Native.Nat.{ℕ, ◌+◌, ◌-◌, ◌≤◌}
use native.Mathlib.Omega.{arith}
use borrow.Author.Tests.{eq-eqb, ne_eqb}
use lib.Dec.{eqb}
use lib.ListN.{length, get_or, replicate, length-append, length-replicate}
use lib.Seq.{sets}
use Rattle.octets.specs.Number.{part}
use Rattle.octets.proofs.Parts.{length_part, part_of_part}
use Rattle.octets.proofs.Searching.{pick_true, pick_false}
use Rattle.octets.proofs.StoreLaws.{stored_whole}
use Rattle.settings.specs.declared.Shown.{Shown}
use Rattle.settings.specs.declared.Form.TheVariants.{Two}
use Rattle.settings.specs.declared.Refusal.TheVariants.{EntryDiffers}
use Rattle.settings.specs.Layout.{form1, large, checksum_at, bodies_end, table_of, pairs_of, offset_of, sum_of}
use Rattle.settings.specs.Table.{large_bodies_end}
use Rattle.settings.specs.Bodies.{body_in, shown_in}
use Rattle.settings.specs.Fields.{fields_read}
use Rattle.settings.specs.Kept.{kept_of, no_kept, kept_said, kept_read}
use Rattle.settings.specs.Entries.{differing_entry}
use Rattle.settings.specs.Reader.{checksum_differs, is_form}
use Rattle.settings.specs.Layouts.{is_laid_out, rest_differs, value_wrong, checked_parts, checked_laid_out, laid_out}
use Rattle.settings.proofs.BodyLaws.{sixth}
use Rattle.settings.proofs.TableLaws.{length_table, length_pairs}
use Rattle.settings.proofs.WriterLaws.{laid_out_made}
use Rattle.settings.proofs.CheckLaws.{told, told_picks, told_tests}
use Rattle.settings_large.specs.Contents.{kept_in}
use Rattle.settings_large.specs.Reader.{filler_differs, value_not_allowed, checked_in, checked_written}
use Rattle.settings_large.specs.Image.{large_filler, front_with, image_with}

-- ---- the bodies of an image, taken out of it

module _ (image : List ℕ) where
  within : (first count : ℕ) → first + count ≤ 98 → part first count (part 60 98 image) ≡ part (60 + first) count image
  within first count h = part_of_part 60 98 first count image h

  shown_there : shown_in form1 (replicate 52 0 ++ part 60 98 image) ≡ shown_in large image
  unfolding shown_in offset_of sum_of
  shown_there = rw (← within 48 6 (omega arith), ← within 54 8 (omega arith), ← within 62 4 (omega arith))

  -- what the six bodies say by themselves, they say in the image
  pub kept_there : 158 ≤ length image → kept_read (part 60 98 image) ≡ kept_in image
  unfolding kept_read kept_in offset_of sum_of
  kept_there h =
      let size = length_part 60 98 image (omega arith) in
      pick_false (kept_of (fields_read form1 (part 60 98 image))) _ (ne_eqb (length (part 60 98 image)) 74 (λ e. omega arith))
      ∙ pick_true (kept_said (part 60 98 image)) no_kept (eq-eqb (length (part 60 98 image)) 98 size)
      ∙ ap₂ (λ (shown : Shown) (protection : List ℕ). record {
        shown = shown;
        protection = protection;
        password = part 0 32 (part 60 98 image);
        reset_password = part 32 16 (part 60 98 image);
      }) shown_there (within 66 32 (omega arith))
      ∙ ap₂ (λ (password reset : List ℕ). record {
        shown = shown_in large image;
        protection = part 126 32 image;
        password = password;
        reset_password = reset;
      }) (within 0 32 (omega arith)) (within 32 16 (omega arith))

  -- and so does the last byte of body 3
  pub zero_there : get_or (part 60 98 image) 53 0 ≡ get_or (body_in large 3 image) 5 0
  unfolding offset_of sum_of
  zero_there = sixth (part 60 98 image) ∙ ap (λ (l : List ℕ). get_or l 5 0) (within 48 6 (omega arith))

-- what is found of an image in this part's layout
pub large_checked : (image : List ℕ) → checked_written image ≡ told Two (checked_laid_out large image)
unfolding checked_written checked_in filler_differs value_not_allowed is_form checked_laid_out checked_parts is_laid_out rest_differs value_wrong
large_checked image =
    told_tests Two (checksum_differs image) (not (is_form Two image)) _ _
    (told_picks Two (EntryDiffers (differing_entry large image)) (not (eqb (differing_entry large image) 0)) (filler_differs image) (value_not_allowed image))

-- ---- the pieces of an image

pub length_filler : length large_filler ≡ 798
unfolding large_filler
length_filler = length-replicate (checksum_at - bodies_end large) 0xFF ∙ ap (λ (end : ℕ). checksum_at - end) large_bodies_end

pub table_size : length (pairs_of (table_of large)) ≡ 60
table_size = omega (arith, length_pairs (table_of large), length_table large)

module _ (bodies name : List ℕ) (six : length bodies ≡ 98) (size : length name ≡ 64) where
  pub length_front : length (front_with bodies name) ≡ 1020
  length_front =
      simp (length-append (pairs_of (table_of large)), length-append (bodies ++ name), length-append bodies) (omega (arith, length_filler, table_size))

  -- the bodies are put into an array of their own size
  pub image_made : laid_out large (sets (replicate 98 0) 0 bodies) name 2048 ≡ image_with bodies name
  unfolding large_filler
  image_made =
      rw (stored_whole (replicate 98 0) bodies (length-replicate {A = ℕ} 98 0 ∙ sym six))
      (laid_out_made large bodies name 2048 (omega (arith, large_bodies_end)) (omega (arith, large_bodies_end, six, size)) (omega arith))
