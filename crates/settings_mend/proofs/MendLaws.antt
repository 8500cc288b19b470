-- What is put right where it lies is the mended image; and how many bytes can have changed.
use Rattle.std.specs.Prelude.{Result, Ok, Err, ◌==◌, cond, count_by}
use Rattle.std.proofs.lemmas.List.Recursion.{is_count_by}
use mathlib.Core.Path.{◌≡◌, refl, sym, ap, ◌∙◌}
use mathlib.Core.Bool.{Bool, true, false, not}
use mathlib.Core.List.{List, [], ◌∷◌, ◌++◌, append_assoc}
use Prim.Native.Nat.{ℕ, suc, ◌+◌, ◌-◌, ◌/◌, ◌≤◌, ◌<◌}
use native.Mathlib.Omega.{arith}
use borrow.Author.Tests.{eq-eqb, eqb-true, not-false}
use borrow.Rule.Slice.PartMut.{put_mid, same_len_mid}
use lib.Dec.{eqb}
use lib.Bits.{bit_xor, xor_lt}
use lib.ListN.{length, get_or, set, take, drop, drop_of_length-le, replicate, length-append, length-take, length-replicate, get_or-replicate}
use lib.Seq.{drop-drop, length-take-le}
use Rattle.octets.specs.Choice.{pick}
use Rattle.octets.specs.Number.{part}
use Rattle.octets.specs.Alike.{differing}
use Rattle.octets.proofs.Parts.{length_part, part_there, from_next, parts_join, part_of_part}
use Rattle.octets.proofs.Searching.{by_pick, pick_false}
use Rattle.octets.proofs.AlikeLaws.{counted_here, rest_differs, at_most_all_differ}
use Rattle.settings.specs.declared.Form.TheVariants.{One}
use Rattle.settings.specs.Layout.{form1, image_size, table_of, pairs_of}
use Rattle.settings.specs.Table.{bodies_end_lem}
use Rattle.settings.specs.Image.{filler_of, sealed, resealed}
use Rattle.settings.proofs.WriterLaws.{form_1_table}
use Rattle.settings_mend.specs.declared.Changes.{Changes}
use Rattle.settings_mend.specs.declared.Examined.{Examined}
use Rattle.settings_mend.specs.declared.Examined.TheVariants.{Accepted, Damaged}
use Rattle.settings_mend.specs.declared.MendError.{MendError}
use Rattle.settings_mend.specs.declared.MendError.TheVariants.{SizeWrong, FormTwo}
use Rattle.settings_mend.specs.Examining.{examined_of, examined_number}
use Rattle.settings_mend.specs.Mending.{allowed_or, mended_values, mended_bodies, mended, changed, mend_as, mend_of}

-- body 3 put right byte by byte
pub values_put : (body : List ℕ) (mode alert protected : ℕ) → length body ≡ 6
    → mode ≡ allowed_or (get_or body 0 0) 2 1
    → alert ≡ allowed_or (get_or (set body 0 mode) 1 0) 2 0
    → protected ≡ allowed_or (get_or (set (set body 0 mode) 1 alert) 4 0) 1 0
    → set (set (set (set body 0 mode) 1 alert) 4 protected) 5 0
    ≡ allowed_or (get_or body 0 0) 2 1 ∷ allowed_or (get_or body 1 0) 2 0 ∷ (part 2 2 body ++ (allowed_or (get_or body 4 0) 1 0 ∷ 0 ∷ []))
values_put (a ∷ b ∷ c ∷ d ∷ e ∷ f ∷ []) mode alert protected l m n p = rw (m, n, p)
values_put [] mode alert protected l m n p = absurd (omega arith)
values_put (a ∷ []) mode alert protected l m n p = absurd (omega arith)
values_put (a ∷ b ∷ []) mode alert protected l m n p = absurd (omega arith)
values_put (a ∷ b ∷ c ∷ []) mode alert protected l m n p = absurd (omega arith)
values_put (a ∷ b ∷ c ∷ d ∷ []) mode alert protected l m n p = absurd (omega arith)
values_put (a ∷ b ∷ c ∷ d ∷ e ∷ []) mode alert protected l m n p = absurd (omega arith)
values_put (a ∷ b ∷ c ∷ d ∷ e ∷ f ∷ g ∷ rest) mode alert protected l m n p = absurd (omega arith)

length-mended_values : (body : List ℕ) → length body ≡ 6 → length (mended_values body) ≡ 6
unfolding mended_values
length-mended_values body l = simp length-append (omega (arith, length_part 2 2 body (omega arith)))

-- the filler stands after table and bodies
filler_there : (bodies sum : List ℕ) → length bodies ≡ 74 → part 126 894 ((pairs_of (table_of form1) ++ (bodies ++ filler_of One)) ++ sum) ≡ replicate 894 0xFF
filler_there bodies sum size =
    let table = pairs_of (table_of form1) in
    let whole = (table ++ (bodies ++ filler_of One)) ++ sum in
    let joined : whole ≡ table ++ (bodies ++ (filler_of One ++ sum)) =
    append_assoc table (bodies ++ filler_of One) sum ∙ ap (λ (rest : List ℕ). table ++ rest) (append_assoc bodies (filler_of One) sum) in
    let from_52 : drop 52 whole ≡ bodies ++ (filler_of One ++ sum) = from_next whole 0 52 table (bodies ++ (filler_of One ++ sum)) joined form_1_table in
    let from_126 : drop 126 whole ≡ filler_of One ++ sum = from_next whole 52 74 bodies (filler_of One ++ sum) from_52 size in
    let filler : filler_of One ≡ replicate 894 0xFF = ap (λ (n : ℕ). replicate (1020 - n) 0xFF) (bodies_end_lem One) in
    part_there whole 126 894 (filler_of One) sum from_126 (ap length filler ∙ length-replicate {A = ℕ} 894 0xFF) ∙ filler

-- ---- an image of the right size, its body 3 put right where it stands, and then all around the bodies

module _ (image : List ℕ) (size : length image ≡ 1024) where
  abbrev values : List ℕ
  values = mended_values (part 100 6 image)

  values_size : length values ≡ 6
  values_size = length-mended_values (part 100 6 image) (length_part 100 6 image (omega arith))

  abbrev stored : List ℕ
  stored = put_mid 100 6 image values

  front_size : length (take 100 image) ≡ 100
  front_size = length-take-le 100 image (omega arith)

  front_stays : part 0 100 stored ≡ take 100 image
  front_stays = part_there stored 0 100 (take 100 image) (values ++ drop 6 (drop 100 image)) refl front_size

  from_values : drop 100 stored ≡ values ++ drop 6 (drop 100 image)
  from_values = from_next stored 0 100 (take 100 image) (values ++ drop 6 (drop 100 image)) refl front_size

  first_stay : part 52 48 stored ≡ part 52 48 image
  first_stay =
      sym (part_of_part 0 100 52 48 stored (omega arith)) ∙ ap (part 52 48) front_stays ∙ part_of_part 0 100 52 48 image (omega arith)

  last_stay : part 106 20 stored ≡ part 106 20 image
  last_stay = ap (take 20) (from_next stored 100 6 values (drop 6 (drop 100 image)) from_values values_size ∙ drop-drop 6 100 image)

  bodies_stored : part 52 74 stored ≡ part 52 48 image ++ (values ++ part 106 20 image)
  bodies_stored =
      sym (ap (λ (rest : List ℕ). part 52 48 stored ++ rest) (parts_join 100 6 20 stored) ∙ parts_join 52 48 26 stored)
      ∙ rw (first_stay, part_there stored 100 6 values (drop 6 (drop 100 image)) from_values values_size, last_stay)

  pub put_around : resealed stored ≡ sealed (pairs_of (table_of form1) ++ ((part 52 48 image ++ (values ++ part 106 20 image)) ++ filler_of One))
  unfolding resealed
  put_around =
      let same : length stored ≡ 1024 = same_len_mid 100 6 image values (values_size ∙ sym (length_part 100 6 image (omega arith))) ∙ size in
      pick_false _ _ (rw (eq-eqb (length stored) image_size same))
      ∙ ap (λ (bodies : List ℕ). sealed (pairs_of (table_of form1) ++ (bodies ++ filler_of One))) bodies_stored

  -- ---- what the four counts are of

  bodies_size : length (mended_bodies image) ≡ 74
  bodies_size =
      simp (length-append (part 52 48 image), length-append values)
      (omega (arith, values_size, length_part 52 48 image (omega arith), length_part 106 20 image (omega arith)))

  filler_right : part 126 894 (mended image) ≡ replicate 894 0xFF
  unfolding mended
  filler_right = filler_there (mended_bodies image) _ bodies_size

  pub counted : (told : Changes) (front sum after : List ℕ) (filler : ℕ) → front ≡ part 0 126 image → sum ≡ part 1020 4 image → after ≡ mended image
      → filler ≡ differing (part 126 894 image) (replicate 894 0xFF)
      → told ≡ record { table = changed 0 52 front after; filler = filler; values = changed 100 6 front after; checksum = changed 0 4 sum (part 1020 4 after) }
      → told
      ≡ record {
        table = changed 0 52 image (mended image);
        filler = changed 126 894 image (mended image);
        values = changed 100 6 image (mended image);
        checksum = changed 1020 4 image (mended image);
      }
  counted told front sum after filler f s a n e =
      e
      ∙ rw (
        f,
        s,
        a,
        n,
        part_of_part 0 126 0 52 image (omega arith),
        part_of_part 0 126 100 6 image (omega arith),
        filler_right,
        part_of_part 1020 4 0 4 image (omega arith),
        part_of_part 1020 4 0 4 (mended image) (omega arith),
      )

-- ---- the bytes that are not the filler's

counted_so : (same : Bool) (others : ℕ) → pick same others (suc others) ≡ cond (not same) (1 + others) others
unfolding pick
counted_so true others = refl
counted_so false others = omega arith

-- as many as differ from a filler that is right
pub filler_counted : (bytes : List ℕ) → differing bytes (replicate (length bytes) 0xFF) ≡ count_by (λ byte. not (byte == 0xFF)) bytes
unfolding differing
filler_counted =
    is_count_by (λ bytes. differing bytes (replicate (length bytes) 0xFF)) (λ byte. not (byte == 0xFF)) refl
    (λ byte bytes. counted_so (byte == 0xFF) (differing bytes (replicate (length bytes) 0xFF)))

-- counted up to the end
pub filler_all_counted : (bytes : List ℕ) (count i : ℕ) → i ≡ length bytes
    → count + count_by (λ byte. not (byte == 0xFF)) (drop i bytes) ≡ count_by (λ byte. not (byte == 0xFF)) bytes
    → count ≡ differing bytes (replicate (length bytes) 0xFF)
filler_all_counted bytes count i end counted =
    let left : drop i bytes ≡ [] = drop_of_length-le bytes {i = i} (omega (arith, end)) in
    omega (arith, (rw left at counted), filler_counted bytes)

-- no more bytes can have changed than both images have there
pub few_changed : (at count : ℕ) (before after : List ℕ) → count ≤ 1024 → changed at count before after < 65536
few_changed at count before after h =
    omega (arith, at_most_all_differ (part at count before) (part at count after), length-take count (drop at before), length-take count (drop at after))

-- what is found to be damaged has the size of an image
pub damaged_has_size : (image : List ℕ) → examined_of image ≡ Ok Damaged → length image ≡ image_size
unfolding examined_of
damaged_has_size image =
    by_pick (λ found. found ≡ Ok Damaged → length image ≡ image_size) (not (eqb (length image) image_size)) _ _
    (λ y e. cc e)
    (λ n e. eqb-true _ _ (not-false _ n))

-- what an image is found to be has its number; and one with a number keeps every byte
found_has_number : (image : List ℕ) (found : Result Examined MendError) → (mend_as image found).told.number ≡ examined_number found
found_has_number image (Err SizeWrong) = refl
found_has_number image (Ok Accepted) = refl
found_has_number image (Err FormTwo) = refl
found_has_number image (Ok Damaged) = refl

pub mend_has_number : (image : List ℕ) → (mend_of image).told.number ≡ examined_number (examined_of image)
unfolding mend_of
mend_has_number image = found_has_number image (examined_of image)

found_keeps : (image : List ℕ) (found : Result Examined MendError) → ((mend_as image found).told.number ≡ 0 → ⊥) → (mend_as image found).image ≡ image
found_keeps image (Err SizeWrong) h = refl
found_keeps image (Ok Accepted) h = refl
found_keeps image (Err FormTwo) h = refl
found_keeps image (Ok Damaged) h = absurd (h refl)

pub refused_mend_keeps : (image : List ℕ) → ((mend_of image).told.number ≡ 0 → ⊥) → (mend_of image).image ≡ image
unfolding mend_of
refused_mend_keeps image = found_keeps image (examined_of image)
