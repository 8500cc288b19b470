-- Settings that are read of bytes can be held by a struct of the code.
use Rattle.std.specs.Prelude.{Some, None, Ok, Err}
use mathlib.Core.Path.{◌≡◌, refl, sym, ap, subst, ◌∙◌}
use mathlib.Core.List.{List, ◌++◌}
use Prim.Native.Nat.{ℕ, ◌+◌, ◌^◌, ◌≤◌, ◌<◌}
use native.Mathlib.Omega.{arith}
use borrow.Author.Tests.{eq-eqb, eqb-false}
use lib.Dec.{eqb}
use lib.ListN.{length, get_or, drop, replicate, length-append, length-replicate, drop_of_length-le}
use lib.Seq.{drop_at, length-sets}
use Rattle.octets.specs.Number.{part, number_at}
use Rattle.octets.proofs.Numbers.{number_fits}
use Rattle.octets.proofs.Parts.{length_part, each_part, each_append, each_replicate}
use Rattle.octets.proofs.Searching.{pick_true, pick_false, by_pick}
use Rattle.octets.proofs.StoreLaws.{stored_front}
use Rattle.parts.specs.declared.Part.{Part}
use Rattle.settings.specs.Held.{Settings}
use Rattle.settings.specs.Held.{Kept}
use Rattle.settings.specs.declared.Form.{Form}
use Rattle.settings.specs.declared.Form.TheVariants.{One, Two}
use Rattle.settings.specs.declared.Forms.TheVariants.{Both}
use Rattle.settings.specs.Values.{no_settings, no_name}
use Rattle.settings.specs.Layout.{form1, image_size, offset_of, sum_of}
use Rattle.settings.specs.Table.{bodies_at, bodies_end_lem}
use Rattle.settings.specs.Bodies.{shown_in, settings_in, name_in, contents_in}
use Rattle.settings.specs.Fields.{fields_size, fields_read}
use Rattle.settings.specs.Kept.{filled_up, kept_of, blank_kept}
use Rattle.settings.specs.Answers.{SettingsTold}
use Rattle.settings_large.specs.Contents.{kept_in}
use Rattle.settings_large.specs.Image.{large_size}
use Rattle.settings_large.specs.Reader as larger
use Rattle.settings_large.proofs.PassingLaws as Larger
use Rattle.session.specs.Starting.{settings_read}
use Rattle.c_records.specs.Records.{record_size}
use Rattle.settings.specs.Reader.{Checked, checked_of, read_as, read_of}
use Rattle.settings.proofs.BodyLaws.{bodies_begin, fields_there}
use Rattle.settings.proofs.ReaderLaws.{refuses}
use Rattle.claims.specs.Held.{Bytes, HeldShown, Held, HeldKept, HeldContents}
use Rattle.settings.proofs.PassingLaws.{Good, checked_is_good}
use Rattle.claims.proofs.Settings.SettingsRule.{blank_contents_held}

-- a number of so many bytes, wherever they stand
pub number_held : (bytes : List ℕ) → ((k : ℕ) → get_or bytes k 0 < 256) → (at width : ℕ) → at + width ≤ length bytes → number_at at width bytes < 256 ^ width
number_held bytes each at width h =
    rw (length_part at width bytes h) at (number_fits (part at width bytes) (each_part at width bytes each))

module _ (image : List ℕ) (each : (k : ℕ) → get_or image k 0 < 256) where
  pub part_held : (at count : ℕ) → at + count ≤ length image → Bytes count (part at count image)
  part_held at count h = record { size = length_part at count image h; each = each_part at count image each }

  -- a number inside a body
  within_held : (at count first width : ℕ) → at + count ≤ length image → first + width ≤ count → number_at first width (part at count image) < 256 ^ width
  within_held at count first width h inside =
      number_held (part at count image) (each_part at count image each) first width (omega (arith, length_part at count image h))

  -- the bodies stand in the first 126 bytes
  pub settings_held : 126 ≤ length image → Held (settings_in form1 image)
  unfolding settings_in shown_in offset_of sum_of
  settings_held size = record {
    shown = record {
      readout = within_held 100 6 2 2 (omega arith) (omega arith);
      bcr = within_held 106 8 0 4 (omega arith) (omega arith);
      bsl = within_held 106 8 4 4 (omega arith) (omega arith);
      pointer = within_held 114 4 0 4 (omega arith) (omega arith);
    };
    protection = part_held 118 8 (omega arith);
    password = part_held 52 32 (omega arith);
    reset = part_held 84 16 (omega arith);
  }

-- fields of bytes can be held as settings
pub fields_held : (fields : List ℕ) → length fields ≡ 74 → ((k : ℕ) → get_or fields k 0 < 256) → Held (fields_read form1 fields)
unfolding fields_read
fields_held fields size each =
    let said : length fields ≡ fields_size form1 = omega (arith, bodies_end_lem One) in
    rw (eq-eqb (length fields) (fields_size form1) said, pick_true _ no_settings refl)
    (settings_held (replicate 52 0 ++ fields) (each_append (replicate 52 0) fields (each_replicate 52 0 (omega arith)) each)
    (omega (arith, length-append (replicate 52 0) fields)))

module _ (image : List ℕ) (each : (k : ℕ) → get_or image k 0 < 256) (size : length image ≡ image_size) where
  name_held : (form : Form) → Bytes 64 (name_in form image)
  unfolding no_name offset_of sum_of
  name_held One = record { size = refl; each = each_replicate 64 0xFF (omega arith) }
  name_held Two = part_held image each 134 64 (omega arith)

  pub contents_held : (form : Form) → HeldContents (contents_in form image)
  contents_held form = record {
    settings =
        subst Held (fields_there image form (omega (arith, size)))
        (fields_held (part (bodies_at form) 74 image) (length_part (bodies_at form) 74 image (omega (arith, size, bodies_begin form))) (each_part (bodies_at form) 74 image each));
    name = name_held form;
  }

-- what the reader gives can be held
module _ (image : List ℕ) (each : (k : ℕ) → get_or image k 0 < 256) where
  found_is_held : (found : Checked) → Good Both image found → (read_as image found).number ≡ 0 → HeldContents (read_as image found).contents
  unfolding Good
  found_is_held (Ok None) good e = blank_contents_held
  found_is_held (Ok (Some form)) good e = contents_held image each good.0.size form
  found_is_held (Err refusal) good e = absurd (eqb-false _ _ (refuses refusal) e)

  pub read_is_held : (read_of image).number ≡ 0 → HeldContents (read_of image).contents
  unfolding read_of
  read_is_held = found_is_held (checked_of Both image) (checked_is_good image Both)

-- ---- what a start takes, on either part

-- an MSPM0's, filled up
filled_is_held : (board : Part) (s : Settings) → Held s → record_size board ≡ 94 → HeldKept board (kept_of s)
filled_is_held board s held short =
    let eight = held.protection.size in
    let few : length s.protection ≤ length (replicate {A = ℕ} 32 0) = omega (arith, length-replicate {A = ℕ} 32 0) in
    let filled : filled_up s.protection ≡ s.protection ++ replicate 24 0 =
    stored_front (replicate 32 0) s.protection few ∙ ap (λ (n : ℕ). s.protection ++ drop n (replicate 32 0)) eight in
    record {
      shown = held.shown;
      protection = record {
        size = length-sets (replicate 32 0) 0 s.protection;
        each = subst (λ (l : List ℕ). (k : ℕ) → get_or l k 0 < 256) (sym filled) (each_append s.protection (replicate 24 0) held.protection.each (each_replicate 24 0 (omega arith)));
      };
      password = held.password;
      reset = held.reset;
      beyond = rw short (ap (drop 8) filled ∙ drop_at s.protection (replicate 24 0) 8 eight);
    }

-- the larger part's
module _ (board : Part) (long : record_size board ≡ 118) where
  whole_is_held : (k : Kept) → HeldShown k.shown → Bytes 32 k.protection → Bytes 32 k.password → Bytes 16 k.reset_password → HeldKept board k
  whole_is_held k shown protection password reset = record {
    shown = shown;
    protection = protection;
    password = password;
    reset = reset;
    beyond = rw long (drop_of_length-le k.protection {i = 32} (omega (arith, protection.size)));
  }

  module _ (image : List ℕ) (each : (k : ℕ) → get_or image k 0 < 256) (size : 158 ≤ length image) where
    pub larger_held : HeldKept board (kept_in image)
    unfolding kept_in shown_in offset_of sum_of
    larger_held =
        whole_is_held (kept_in image)
        (record {
          readout = within_held image each 108 6 2 2 (omega arith) (omega arith);
          bcr = within_held image each 114 8 0 4 (omega arith) (omega arith);
          bsl = within_held image each 114 8 4 4 (omega arith) (omega arith);
          pointer = within_held image each 122 4 0 4 (omega arith) (omega arith);
        })
        (part_held image each 126 32 (omega arith)) (part_held image each 60 32 (omega arith)) (part_held image each 92 16 (omega arith))

  pub blank_kept_held : HeldKept board blank_kept
  blank_kept_held =
      let held = blank_contents_held.settings in
      whole_is_held blank_kept held.shown (record { size = refl; each = each_replicate 32 0 (omega arith) }) held.password held.reset

  pub larger_found_is_held : (image : List ℕ) → ((k : ℕ) → get_or image k 0 < 256) → (found : Checked) → Larger.Good image found → (larger.read_as image found).number ≡ 0
      → HeldKept board (larger.read_as image found).contents.settings
  unfolding Larger.Good
  larger_found_is_held image each (Ok None) good e = blank_kept_held
  larger_found_is_held image each (Ok (Some form)) passed e = larger_held image each (omega (arith, passed.size))
  larger_found_is_held image each (Err refusal) good e = absurd (eqb-false _ _ (refuses refusal) e)

pub taken_is_held : (board : Part) (image : List ℕ) → ((k : ℕ) → get_or image k 0 < 256) → length image ≡ board.settings_size
    → (settings_read image).number ≡ 0 → HeldKept board (settings_read image).settings
unfolding settings_read larger.read_of record_size
taken_is_held board image each size =
    by_pick (λ (told : SettingsTold). told.number ≡ 0 → HeldKept board told.settings) (eqb (length image) large_size) _ _
    (λ y. larger_found_is_held board (pick_true 118 94 (ap (λ (n : ℕ). eqb n large_size) (sym size) ∙ y)) image each (larger.checked_of image) (Larger.checked_is_good image))
    (λ n e. filled_is_held board (read_of image).contents.settings (read_is_held image each e).settings (pick_false 118 94 (ap (λ (n : ℕ). eqb n large_size) (sym size) ∙ n)))
