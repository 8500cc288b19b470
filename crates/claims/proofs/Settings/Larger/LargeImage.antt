-- What stands where in an image of the larger part: a written one passes the reader's tests and says what was written, and of one that
-- has passed them the parts are those that the writer would put there.
use mathlib.Core.Path.{◌≡◌, refl, sym, ap, ap₂, ◌∙◌}
use mathlib.Core.Bool.{Bool, true, false, true≢false, not}
use mathlib.Core.List.{List, ◌++◌, append_assoc}
use Prim.Native.Nat.{ℕ, ◌+◌, ◌-◌, ◌≤◌, ◌<◌}
use native.Mathlib.Omega.{arith}
use borrow.Author.Tests.{eqb-true, not-false}
use lib.ListN.{length, get_or, take, drop, replicate, length-append, length-replicate}
use lib.Seq.{take_all, drop_at}
use Rattle.octets.specs.Choice.{pick}
use Rattle.octets.specs.Number.{bytes_of, part, number_at}
use Rattle.octets.specs.Alike.{all_are}
use Rattle.octets.proofs.Numbers.{length-bytes_of, each_bytes_of}
use Rattle.octets.proofs.Parts.{length_part, part_there, from_next, parts_join, each_part, each_append, each_replicate}
use Rattle.octets.proofs.Searching.{pick_both}
use Rattle.octets.proofs.AlikeLaws.{all_are_replicate, replicate_all_are}
use Rattle.checksum.specs.Checksum.{checksum_of}
use Rattle.settings.specs.declared.Form.TheVariants.{Two}
use Rattle.settings.specs.Held.{Kept}
use Rattle.settings.specs.Values.{is_allowed}
use Rattle.settings.specs.Layout.{large, checksum_at, bodies_end, offset_of, sum_of, table_of, pairs_of}
use Rattle.settings.specs.Table.{large_bodies_end}
use Rattle.settings.specs.Entries.{differing_entry}
use Rattle.settings.specs.Bodies.{body_in, shown_in}
use Rattle.settings.specs.Kept.{kept_read, kept_bodies}
use Rattle.settings.specs.Image.{sealed}
use Rattle.settings.specs.Reader.{checksum_differs, is_form}
use Rattle.settings.proofs.AgainLaws.{number_again, long_again}
use Rattle.settings_large.specs.Contents.{LargeContents}
use Rattle.settings_large.specs.Contents.{contents_of, kept_in, contents_in}
use Rattle.settings_large.specs.Image.{large_filler, front_with, image_of}
use Rattle.settings_large.specs.Reader.{filler_differs, value_not_allowed}
use Rattle.settings_large.proofs.LargeLaws.{kept_there, zero_there, length_filler, table_size, length_front}
use Rattle.settings_large.proofs.PassingLaws.{Passed}
use Rattle.parts.specs.Parts.{am13e230x}
use Rattle.claims.specs.Held.{HeldLarge}
use Rattle.claims.proofs.Settings.Tables.Pairs.{each_pairs}
use Rattle.claims.proofs.Settings.Tables.TableRule.{large_fits, large_first_byte, form_and_count_there, no_entry_differs, table_was_put}
use Rattle.claims.proofs.Settings.KeptRule.{all_size, whole_back, whole_unused}
use Rattle.claims.proofs.Settings.Written.{bodies_each, checksum_there}

-- what comes after the first half
second : List ℕ
second = replicate 1024 0xFF

second_size : length second ≡ 1024
unfolding second
second_size = length-replicate {A = ℕ} 1024 0xFF

-- ---- an image that was written

module _ (c : LargeContents) (held : HeldLarge c) (allowed : is_allowed c.settings.shown ≡ true) where
  abbrev k : Kept
  k = c.settings

  bodies : List ℕ
  bodies = kept_bodies k

  front : List ℕ
  front = front_with (kept_bodies k) c.name

  sum : List ℕ
  sum = bytes_of 4 (checksum_of front)

  image : List ℕ
  image = image_of c

  bodies_size : length bodies ≡ 98
  unfolding bodies
  bodies_size = all_size k held.settings.password held.settings.reset held.settings.protection

  front_size : length front ≡ 1020
  unfolding front bodies
  front_size = length_front (kept_bodies k) c.name bodies_size held.name.size

  image_is : image ≡ (front ++ sum) ++ second
  unfolding image image_of front sum second
  image_is = refl

  with_sum : image ≡ front ++ (sum ++ second)
  with_sum = image_is ∙ append_assoc front sum second

  image_size_lem : length image ≡ 2048
  unfolding sum
  image_size_lem =
      ap length with_sum ∙ length-append front (sum ++ second)
      ∙ omega (arith, front_size, length-append sum second, length-bytes_of 4 (checksum_of front), second_size)

  -- ---- table and bodies

  table : List ℕ
  table = pairs_of (table_of large)

  in_parts : image ≡ table ++ (bodies ++ (c.name ++ (large_filler ++ (sum ++ second))))
  unfolding front table bodies
  in_parts =
      with_sum
      ∙ append_assoc table ((bodies ++ c.name) ++ large_filler) (sum ++ second)
      ∙ ap (λ (l : List ℕ). table ++ l)
      (append_assoc (bodies ++ c.name) large_filler (sum ++ second) ∙ append_assoc bodies c.name (large_filler ++ (sum ++ second)))

  abbrev after_table : List ℕ
  after_table = bodies ++ (c.name ++ (large_filler ++ (sum ++ second)))

  form_there : is_form Two image ≡ true
  unfolding is_form table
  form_there = form_and_count_there large large_fits image after_table in_parts

  entries_there : differing_entry large image ≡ 0
  unfolding table
  entries_there = no_entry_differs large large_fits image after_table in_parts

  not_blank : all_are 0xFF image ≡ false
  unfolding table
  not_blank = ap (all_are 0xFF) in_parts ∙ large_first_byte after_table

  from_60 : drop 60 image ≡ after_table
  unfolding table
  from_60 = ap (drop 60) in_parts ∙ drop_at table after_table 60 table_size

  from_158 : drop 158 image ≡ c.name ++ (large_filler ++ (sum ++ second))
  from_158 = from_next image 60 98 bodies (c.name ++ (large_filler ++ (sum ++ second))) from_60 bodies_size

  from_222 : drop 222 image ≡ large_filler ++ (sum ++ second)
  from_222 = from_next image 158 64 c.name (large_filler ++ (sum ++ second)) from_158 held.name.size

  six_there : part 60 98 image ≡ bodies
  six_there = part_there image 60 98 bodies (c.name ++ (large_filler ++ (sum ++ second))) from_60 bodies_size

  settings_back : kept_in image ≡ k
  unfolding bodies
  settings_back = sym (kept_there image (omega (arith, image_size_lem))) ∙ ap kept_read six_there ∙ whole_back am13e230x k held.settings

  name_back : body_in large 7 image ≡ c.name
  unfolding offset_of sum_of
  name_back = part_there image 158 64 c.name (large_filler ++ (sum ++ second)) from_158 held.name.size

  -- the image says what was written
  pub image_says : contents_in (image_of c) ≡ contents_of Two c.settings c.name
  unfolding image
  image_says = ap₂ (contents_of Two) settings_back name_back

  shown_back : shown_in large image ≡ k.shown
  unfolding kept_in
  shown_back = ap (λ (kept : Kept). kept.shown) settings_back

  unused_is_zero : get_or (body_in large 3 image) 5 0 ≡ 0
  unfolding bodies
  unused_is_zero = sym (zero_there image) ∙ ap (λ (l : List ℕ). get_or l 53 0) six_there ∙ whole_unused am13e230x k held.settings

  values_allowed : value_not_allowed image ≡ false
  unfolding value_not_allowed pick
  values_allowed = rw (shown_back, allowed, unused_is_zero)

  -- ---- filler and checksum

  filler_all : all_are 0xFF large_filler ≡ true
  unfolding large_filler
  filler_all = replicate_all_are 0xFF (checksum_at - bodies_end large)

  second_all : all_are 0xFF second ≡ true
  unfolding second
  second_all = replicate_all_are 0xFF 1024

  second_there : part 1024 1024 image ≡ second
  unfolding sum
  second_there =
      let from : drop 1020 image ≡ sum ++ second = from_next image 222 798 large_filler (sum ++ second) from_222 length_filler in
      ap (take 1024) (from_next image 1020 4 sum second from (length-bytes_of 4 (checksum_of front))) ∙ take_all 1024 second (omega (arith, second_size))

  filler_same : filler_differs image ≡ false
  unfolding filler_differs pick
  filler_same =
      rw (large_bodies_end, part_there image 222 798 large_filler (sum ++ second) from_222 length_filler, filler_all, second_there, second_all)

  six_each : (n : ℕ) → get_or (kept_bodies k) n 0 < 256
  unfolding kept_bodies
  six_each =
      let h = held.settings in
      bodies_each k.shown allowed k.password k.reset_password k.protection h.password.each h.reset.each h.protection.each

  front_each : (n : ℕ) → get_or front n 0 < 256
  unfolding front large_filler
  front_each =
      each_append (pairs_of (table_of large)) ((kept_bodies k ++ c.name) ++ large_filler) (each_pairs (table_of large))
      (each_append (kept_bodies k ++ c.name) large_filler (each_append (kept_bodies k) c.name six_each held.name.each)
      (each_replicate (checksum_at - bodies_end large) 0xFF (omega arith)))

  checksum_same : checksum_differs image ≡ false
  unfolding sum
  checksum_same = checksum_there image front second with_sum front_size front_each

  pub image_passes : Passed (image_of c)
  unfolding image
  image_passes = record {
    size = image_size_lem;
    written = not_blank;
    checksum = checksum_same;
    known = form_there;
    entries = entries_there;
    filler = filler_same;
    value = values_allowed;
  }

  -- it is made of bytes
  pub each_of_image : (n : ℕ) → get_or (image_of c) n 0 < 256
  unfolding image_of front second
  each_of_image =
      each_append (sealed front) second (each_append front (bytes_of 4 (checksum_of front)) front_each (each_bytes_of 4 (checksum_of front))) (each_replicate 1024 0xFF (omega arith))

-- ---- an image that has passed the tests

both_halves : (one two : Bool) → pick one (not two) true ≡ false → (one ≡ true) × (two ≡ true)
unfolding pick
both_halves true two h = (refl, not-false two h)
both_halves false two h = absurd (true≢false h)

module _ (image : List ℕ) (passed : Passed image) (each : (n : ℕ) → get_or image n 0 < 256) where
  table_put : pairs_of (table_of large) ≡ part 0 60 image
  unfolding is_form
  table_put = table_was_put large image each passed.known passed.entries (omega (arith, passed.size))

  allowed_and_zero : (is_allowed (shown_in large image) ≡ true) × (get_or (body_in large 3 image) 5 0 ≡ 0)
  unfolding value_not_allowed
  allowed_and_zero = let both = pick_both _ _ (not-false _ passed.value) in (both.0, eqb-true _ _ both.1)

  -- what its bodies say is allowed
  pub read_is_allowed : is_allowed (kept_in image).shown ≡ true
  unfolding kept_in
  read_is_allowed = allowed_and_zero.0

  bodies_again : kept_bodies (kept_in image) ≡ part 60 98 image
  bodies_again =
      ap kept_bodies (sym (kept_there image (omega (arith, passed.size))))
      ∙ long_again (part 60 98 image) (each_part 60 98 image each) (zero_there image ∙ allowed_and_zero.1) (length_part 60 98 image (omega (arith, passed.size)))

  both_are : (all_are 0xFF (part 222 798 image) ≡ true) × (all_are 0xFF (part 1024 1024 image) ≡ true)
  unfolding filler_differs
  both_are =
      rw large_bodies_end at
      (both_halves (all_are 0xFF (part (bodies_end large) (checksum_at - bodies_end large) image)) (all_are 0xFF (part 1024 1024 image)) passed.filler)

  all_there : (at count : ℕ) → at + count ≤ 2048 → all_are 0xFF (part at count image) ≡ true → replicate count 0xFF ≡ part at count image
  all_there at count h all =
      sym (rw (length_part at count image (omega (arith, passed.size))) at (all_are_replicate 0xFF (part at count image) all))

  filler_there : large_filler ≡ part 222 798 image
  unfolding large_filler
  filler_there = ap (λ (end : ℕ). replicate (checksum_at - end) 0xFF) large_bodies_end ∙ all_there 222 798 (omega arith) both_are.0

  name_there : body_in large 7 image ≡ part 158 64 image
  unfolding offset_of sum_of
  name_there = refl

  front_again : front_with (kept_bodies (kept_in image)) (body_in large 7 image) ≡ part 0 1020 image
  front_again =
      rw (table_put, bodies_again, name_there, filler_there, parts_join 60 98 64 image, parts_join 60 162 798 image, parts_join 0 60 960 image)

  sealed_again : sealed (part 0 1020 image) ≡ part 0 1024 image
  unfolding checksum_differs
  sealed_again =
      let sum : number_at 1020 4 image ≡ checksum_of (take 1020 image) = eqb-true _ _ (not-false _ passed.checksum) in
      ap (λ (number : ℕ). part 0 1020 image ++ bytes_of 4 number) (sym sum)
      ∙ ap (λ (l : List ℕ). part 0 1020 image ++ l) (number_again image each 1020 4 (omega (arith, passed.size))) ∙ parts_join 0 1020 4 image

  pub written_again : image_of (contents_in image) ≡ image
  unfolding image_of second
  written_again =
      ap (λ (front : List ℕ). sealed front ++ second) front_again
      ∙ ap₂ (λ (one two : List ℕ). one ++ two) sealed_again (all_there 1024 1024 (omega arith) both_are.1)
      ∙ parts_join 0 1024 1024 image ∙ take_all 2048 image (omega (arith, passed.size))
