-- What stands where in a written image: it passes the reader's tests, and says what was written.
use mathlib.Core.Path.{◌≡◌, refl, sym, ap, ap₂, ◌∙◌}
use mathlib.Core.Bool.{true, false}
use mathlib.Core.List.{List, [], ◌∷◌, ◌++◌, append_assoc, append-nil}
use Prim.Native.Nat.{ℕ, ◌+◌, ◌-◌, ◌≤◌, ◌<◌}
use native.Mathlib.Omega.{arith}
use borrow.Author.Tests.{eq-eqb, leb-true}
use lib.Dec.{leb}
use lib.ListN.{length, get_or, take, drop, replicate, length-append, length-replicate}
use lib.Seq.{take_at, drop_at}
use Rattle.octets.specs.Choice.{pick}
use Rattle.octets.specs.Number.{number_of, bytes_of, part, number_at}
use Rattle.octets.specs.Alike.{all_are}
use Rattle.octets.proofs.Numbers.{length-bytes_of, number_of_bytes, each_bytes_of}
use Rattle.octets.proofs.Parts.{part_there, from_next, each_none, each_cons, each_append, each_replicate}
use Rattle.octets.proofs.Searching.{pick_both}
use Rattle.octets.proofs.AlikeLaws.{all_are_replicate, replicate_all_are}
use Rattle.checksum.specs.Checksum.{checksum_of}
use Rattle.checksum.proofs.Laws.{checksum_of_fits}
use Rattle.settings.specs.declared.Shown.{Shown}
use Rattle.settings.specs.Held.{Settings}
use Rattle.settings.specs.declared.Form.{Form}
use Rattle.settings.specs.declared.Form.TheVariants.{One, Two}
use Rattle.settings.specs.Held.{Contents}
use Rattle.settings.specs.Layout.{layout_of, bodies_end, offset_of, sum_of, table_of, pairs_of}
use Rattle.settings.specs.Table.{bodies_at, table_ends, filler_at, bodies_end_lem}
use Rattle.settings.specs.Entries.{differing_entry}
use Rattle.settings.specs.Bodies.{values_of, numbers_of, bodies_with, bodies_of, name_body, all_bodies_of, shown_in, settings_in, name_in, contents_of, contents_in}
use Rattle.settings.specs.Values.{is_allowed, no_name}
use Rattle.settings.specs.Image.{filler_of, front_of, image_of}
use Rattle.settings.specs.Reader.{checksum_differs, is_form, filler_differs, value_not_allowed}
use Rattle.settings.specs.Writer.{name_fits}
use Rattle.settings.proofs.TableLaws.{length_table, length_pairs}
use Rattle.settings.proofs.BodyLaws.{fields_there, zero_there}
use Rattle.settings.proofs.WriterLaws.{length_front}
use Rattle.claims.specs.Held.{HeldContents}
use Rattle.claims.proofs.Settings.Tables.Pairs.{each_pairs}
use Rattle.claims.proofs.Settings.Tables.TableRule.{form_fits, first_byte, form_and_count_there, no_entry_differs}
use Rattle.claims.proofs.Settings.FieldsRule.{fields_size_lem, read_after_made, made_unused}
use Rattle.settings.proofs.PassingLaws.{Passed}

-- values that are allowed are bytes
pub allowed_values : (shown : Shown) → is_allowed shown ≡ true → (shown.reset_mode ≤ 2) × (shown.alert ≤ 2) × (shown.settings_protected ≤ 1)
unfolding is_allowed
allowed_values shown h =
    let mode = pick_both (leb shown.reset_mode 2) (pick (leb shown.alert 2) (leb shown.settings_protected 1) false) h in
    let rest = pick_both (leb shown.alert 2) (leb shown.settings_protected 1) mode.1 in
    (leb-true shown.reset_mode 2 mode.0, leb-true shown.alert 2 rest.0, leb-true shown.settings_protected 1 rest.1)

-- the six bodies of allowed values are made of bytes
module _ (shown : Shown) (allowed : is_allowed shown ≡ true) where
  values_each : (k : ℕ) → get_or (values_of shown) k 0 < 256
  values_each =
      let v = allowed_values shown allowed in
      each_cons shown.reset_mode (shown.alert ∷ (bytes_of 2 shown.readout ++ (shown.settings_protected ∷ 0 ∷ []))) (omega arith)
      (each_cons shown.alert (bytes_of 2 shown.readout ++ (shown.settings_protected ∷ 0 ∷ [])) (omega arith)
      (each_append (bytes_of 2 shown.readout) (shown.settings_protected ∷ 0 ∷ []) (each_bytes_of 2 shown.readout)
      (each_cons shown.settings_protected (0 ∷ []) (omega arith) (each_cons 0 [] (omega arith) each_none))))

  numbers_each : (k : ℕ) → get_or (numbers_of shown) k 0 < 256
  numbers_each =
      each_append (bytes_of 4 shown.bcr_id) (bytes_of 4 shown.bsl_id ++ bytes_of 4 shown.version_pointer) (each_bytes_of 4 shown.bcr_id)
      (each_append (bytes_of 4 shown.bsl_id) (bytes_of 4 shown.version_pointer) (each_bytes_of 4 shown.bsl_id) (each_bytes_of 4 shown.version_pointer))

  pub bodies_each : (password reset protection : List ℕ) → ((k : ℕ) → get_or password k 0 < 256) → ((k : ℕ) → get_or reset k 0 < 256)
      → ((k : ℕ) → get_or protection k 0 < 256) → (k : ℕ) → get_or (bodies_with password reset shown protection) k 0 < 256
  bodies_each password reset protection p r q =
      each_append password (reset ++ (values_of shown ++ (numbers_of shown ++ protection))) p
      (each_append reset (values_of shown ++ (numbers_of shown ++ protection)) r
      (each_append (values_of shown) (numbers_of shown ++ protection) values_each (each_append (numbers_of shown) protection numbers_each q)))

-- bytes that are followed by their checksum, and whatever comes after it
pub checksum_there : (image front after : List ℕ) → image ≡ front ++ (bytes_of 4 (checksum_of front) ++ after) → length front ≡ 1020
    → ((k : ℕ) → get_or front k 0 < 256) → checksum_differs image ≡ false
unfolding checksum_differs
checksum_there image front after is size each =
    let sum : List ℕ = bytes_of 4 (checksum_of front) in
    let from : drop 1020 image ≡ sum ++ after = ap (drop 1020) is ∙ drop_at front (sum ++ after) 1020 size in
    let there : number_at 1020 4 image ≡ checksum_of front =
    ap number_of (part_there image 1020 4 sum after from (length-bytes_of 4 (checksum_of front))) ∙ number_of_bytes 4 (checksum_of front) (checksum_of_fits front each) in
    let taken : take 1020 image ≡ front = ap (take 1020) is ∙ take_at front (sum ++ after) 1020 size in
    rw (there, taken, eq-eqb (checksum_of front) (checksum_of front) refl)

-- ---- form by form

module _ (name image after : List ℕ) where
  -- what follows the six bodies: the name that the form has, and then the filler
  after_name : (form : Form) → length name ≡ 64 → drop (bodies_at form + 74) image ≡ name_body form name ++ after → drop (filler_at form) image ≡ after
  after_name One size there = there
  after_name Two size there = from_next image 134 64 name after there size

  name_back : (form : Form) → length name ≡ 64 → name_fits form name ≡ true → drop (bodies_at form + 74) image ≡ name_body form name ++ after → name_in form image ≡ name
  unfolding name_fits no_name offset_of sum_of
  name_back One size fits there = sym (all_are_replicate 0xFF name fits ∙ ap (λ (n : ℕ). replicate n 0xFF) size)
  name_back Two size fits there = part_there image 134 64 name after there size

  each_name : (form : Form) → ((k : ℕ) → get_or name k 0 < 256) → (k : ℕ) → get_or (name_body form name) k 0 < 256
  each_name One each = each_none
  each_name Two each = each

module _ (c : Contents) (held : HeldContents c) (allowed : is_allowed c.settings.shown ≡ true) (fits : name_fits c.form c.name ≡ true) where
  abbrev form : Form
  form = c.form

  abbrev s : Settings
  s = c.settings

  front : List ℕ
  front = front_of c

  image : List ℕ
  image = image_of c

  bodies_size : length (bodies_of s) ≡ 74
  bodies_size = fields_size_lem s held.settings

  front_size : length front ≡ 1020
  unfolding front
  front_size = length_front form (bodies_of s) c.name bodies_size held.name.size

  sum : List ℕ
  sum = bytes_of 4 (checksum_of front)

  image_is : image ≡ front ++ sum
  unfolding image image_of front sum
  image_is = refl

  image_size_lem : length image ≡ 1024
  unfolding sum
  image_size_lem = ap length image_is ∙ length-append front sum ∙ omega (arith, front_size, length-bytes_of 4 (checksum_of front))

  -- ---- the table

  table : List ℕ
  table = pairs_of (table_of (layout_of form))

  table_size : length table ≡ bodies_at form
  unfolding table
  table_size = omega (arith, length_pairs (table_of (layout_of form)), length_table (layout_of form), table_ends form)

  in_parts : image ≡ table ++ (bodies_of s ++ (name_body form c.name ++ (filler_of form ++ sum)))
  unfolding image image_of front sum table
  in_parts = simp append_assoc

  form_there : is_form form image ≡ true
  unfolding is_form table
  form_there = form_and_count_there (layout_of form) (form_fits form) image (bodies_of s ++ (name_body form c.name ++ (filler_of form ++ sum))) in_parts

  entries_there : differing_entry (layout_of form) image ≡ 0
  unfolding table
  entries_there = no_entry_differs (layout_of form) (form_fits form) image (bodies_of s ++ (name_body form c.name ++ (filler_of form ++ sum))) in_parts

  -- ---- the bodies

  from_bodies : drop (bodies_at form) image ≡ bodies_of s ++ (name_body form c.name ++ (filler_of form ++ sum))
  from_bodies = ap (drop (bodies_at form)) in_parts ∙ drop_at table (bodies_of s ++ (name_body form c.name ++ (filler_of form ++ sum))) (bodies_at form) table_size

  six_there : part (bodies_at form) 74 image ≡ bodies_of s
  six_there = part_there image (bodies_at form) 74 (bodies_of s) (name_body form c.name ++ (filler_of form ++ sum)) from_bodies bodies_size

  from_name : drop (bodies_at form + 74) image ≡ name_body form c.name ++ (filler_of form ++ sum)
  from_name = from_next image (bodies_at form) 74 (bodies_of s) (name_body form c.name ++ (filler_of form ++ sum)) from_bodies bodies_size

  settings_back : settings_in (layout_of form) image ≡ s
  settings_back = sym (fields_there image form (omega (arith, image_size_lem))) ∙ rw six_there (read_after_made s held.settings)

  shown_back : shown_in (layout_of form) image ≡ s.shown
  unfolding settings_in
  shown_back = ap (λ (settings : Settings). settings.shown) settings_back

  -- the image says what was written
  pub image_says : contents_in form (image_of c) ≡ c
  unfolding image
  image_says = ap₂ (contents_of form) settings_back (name_back c.name image (filler_of form ++ sum) form held.name.size fits from_name)

  values_allowed : value_not_allowed form image ≡ false
  unfolding value_not_allowed pick
  values_allowed = rw (shown_back, allowed, ← zero_there image form, six_there, made_unused s held.settings)

  -- ---- filler and checksum

  filler_same : filler_differs form image ≡ false
  unfolding filler_differs
  filler_same =
      let there = after_name c.name image (filler_of form ++ sum) form held.name.size from_name in
      let size : length (filler_of form) ≡ 1020 - filler_at form = length-replicate (1020 - bodies_end (layout_of form)) 0xFF ∙ omega (arith, bodies_end_lem form) in
      rw (bodies_end_lem form, part_there image (filler_at form) (1020 - filler_at form) (filler_of form) sum there size, bodies_end_lem form, replicate_all_are 0xFF (1020 - filler_at form))

  six_each : (k : ℕ) → get_or (bodies_of s) k 0 < 256
  unfolding bodies_of
  six_each =
      let h = held.settings in
      bodies_each s.shown allowed s.password s.reset_password s.protection h.password.each h.reset.each h.protection.each

  front_each : (k : ℕ) → get_or front k 0 < 256
  unfolding front
  front_each =
      each_append (pairs_of (table_of (layout_of form))) (all_bodies_of c ++ filler_of form) (each_pairs (table_of (layout_of form)))
      (each_append (all_bodies_of c) (filler_of form)
      (each_append (bodies_of s) (name_body form c.name) six_each (each_name c.name [] [] form held.name.each))
      (each_replicate (1020 - bodies_end (layout_of form)) 0xFF (omega arith)))

  checksum_same : checksum_differs image ≡ false
  unfolding sum
  checksum_same = checksum_there image front [] (image_is ∙ ap (λ (l : List ℕ). front ++ l) (sym (append-nil sum))) front_size front_each

  -- ---- the reader finds nothing wrong with it

  not_blank : all_are 0xFF image ≡ false
  unfolding table
  not_blank = ap (all_are 0xFF) in_parts ∙ first_byte form (bodies_of s ++ (name_body form c.name ++ (filler_of form ++ sum)))

  pub image_passes : Passed form (image_of c)
  unfolding image
  image_passes = record {
    size = image_size_lem;
    written = not_blank;
    checksum = checksum_same;
    known = form_there;
    entries = entries_there;
    filler = filler_same;
    value = values_allowed;
  }

  -- it is made of bytes
  pub each_of_image : (k : ℕ) → get_or (image_of c) k 0 < 256
  unfolding image_of front
  each_of_image = each_append front (bytes_of 4 (checksum_of front)) front_each (each_bytes_of 4 (checksum_of front))
