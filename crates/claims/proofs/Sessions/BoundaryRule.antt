-- 01, Numbers of refused calls: "each changes nothing lent". From C, where the top byte of the answer is not 0, every area is as it was.
use mathlib.Core.Path.{◌≡◌, refl, sym, ap, ◌∙◌}
use mathlib.Core.Bool.{Bool, true≢false, not}
use mathlib.Core.List.{List}
use Prim.Native.Nat.{ℕ, ◌+◌, ◌*◌, ◌≤◌}
use native.Mathlib.Omega.{arith}
use borrow.Author.Tests.{eq-eqb}
use lib.Dec.{ltb, eqb}
use lib.ListN.{length, get_or}
use Rattle.octets.specs.Choice.{pick}
use Rattle.octets.specs.Number.{number_at}
use Rattle.octets.proofs.Searching.{by_pick}
use Rattle.parts.specs.declared.Part.{Part}
use Rattle.line.specs.Codes.{reply_limit}
use Rattle.settings.specs.declared.Form.{Form}
use Rattle.settings.specs.declared.Form.TheVariants.{One, Two}
use Rattle.settings.specs.declared.Forms.{Forms}
use Rattle.settings.specs.declared.Forms.TheVariants.{OnlyOne, OnlyTwo}
use Rattle.settings.specs.Layout.{image_size}
use Rattle.settings.specs.Answers.{Numbered, numbered}
use Rattle.settings.specs.Reader.{read_of}
use Rattle.settings.specs.Moves.{move_of}
use Rattle.settings.specs.Fields.{zero_at}
use Rattle.settings_large.specs.Image.{large_size}
use Rattle.settings_large.specs.Reader as larger
use Rattle.flash.specs.Memory.{Memory}
use Rattle.c_records.specs.OneNumber.{refusal_unit, burn_unit, one_number, refusal, refusal_of}
use Rattle.c_records.specs.Stored.{Stored, stored_by}
use Rattle.c_records.specs.FieldsArea.{fields_area_size, form_at, fields_of, is_form_number, contents_read}
use Rattle.c_records.specs.SettingsFromC.{read_from_c, write_from_c, moved_from_c, to_two_from_c, to_one_from_c}
use Rattle.c_records.specs.LargeFromC.{large_area_size, large_form_at, large_fields_of, large_contents_read, read_large_from_c, write_large_from_c}
use Rattle.session.specs.CallAnswers.{Left}
use Rattle.session.specs.Calling.{call_of}
use Rattle.session.proofs.CallLaws.{refused_changes_nothing, call_size_fits}
use Rattle.c_records.specs.Records.{record_size, record_of, session_in, is_record_area}
use Rattle.c_records.specs.Boundary.{start_by_fuse, start_from_c, Called, called, stored_after, called_from, called_after, call_from_c}
use Rattle.claims.proofs.Settings.MovesRule.{writer_keeps, refused_move_keeps}
use Rattle.claims.proofs.Settings.Larger.LargeRule.{large_writer_keeps}
use Rattle.claims.proofs.Sessions.NumberRule.{move_is_answered}

-- the top byte of eight is not 0
abbrev Refused : ℕ → Type 0
Refused answer = refusal_unit ≤ answer

-- an area is as it was, if the call was refused
abbrev Kept : List ℕ → Stored → Type 0
Kept area left = Refused left.answer → left.area ≡ area

-- ---- start, and the settings reader

storing_keeps : (told : Numbered) (size : ℕ) (bytes area : List ℕ) → Kept area (stored_by told size bytes area)
unfolding stored_by
storing_keeps told size bytes area =
    by_pick (Kept area) (not (eqb (refusal_of told) 0)) _ _ (λ y h. refl)
    (λ n. by_pick (Kept area) (not (eqb (length area) size)) _ _ (λ y h. refl) (λ m h. absurd (omega arith)))

pub refused_start_keeps : (part : Part) (fuse : ℕ) (main settings window area : List ℕ) → Kept area (start_from_c part fuse main settings window area)
refused_start_keeps part fuse main settings window area =
    storing_keeps (start_by_fuse part fuse main settings window).answer (record_size part) (record_of part (start_by_fuse part fuse main settings window).session) area

pub refused_read_keeps : (image area : List ℕ) → Kept area (read_from_c image area)
refused_read_keeps image area =
    storing_keeps (numbered (read_of image).number (read_of image).entry) fields_area_size (fields_of (read_of image).contents) area

pub refused_large_read_keeps : (image area : List ℕ) → Kept area (read_large_from_c image area)
refused_large_read_keeps image area =
    storing_keeps (numbered (larger.read_of image).number (larger.read_of image).entry) large_area_size (large_fields_of (larger.read_of image).contents) area

-- ---- the settings writer and the moves

pub refused_write_keeps : (fields image : List ℕ) → Kept image (write_from_c fields image)
unfolding write_from_c pick
refused_write_keeps fields image =
    by_pick (Kept image) (not (eqb (length image) image_size)) _ _ (λ y h. refl)
    (λ n. by_pick (Kept image) (not (eqb (length fields) fields_area_size)) _ _ (λ y h. refl)
    (λ n. by_pick (Kept image) (not (is_form_number (number_at form_at 2 fields))) _ _ (λ y h. refl)
    (λ n. by_pick (Kept image) (not (eqb (get_or fields zero_at 0) 0)) _ _ (λ y h. refl)
    (λ n h. writer_keeps (contents_read fields) image (λ e. omega arith)))))

pub refused_large_write_keeps : (fields image : List ℕ) → Kept image (write_large_from_c fields image)
unfolding write_large_from_c pick
refused_large_write_keeps fields image =
    by_pick (Kept image) (not (eqb (length image) large_size)) _ _ (λ y h. refl)
    (λ n. by_pick (Kept image) (not (eqb (length fields) large_area_size)) _ _ (λ y h. refl)
    (λ n. by_pick (Kept image) (not (eqb (number_at large_form_at 2 fields) 2)) _ _ (λ y h. refl)
    (λ n. by_pick (Kept image) (not (eqb (get_or fields zero_at 0) 0)) _ _ (λ y h. refl)
    (λ n h. large_writer_keeps (large_contents_read fields) image (λ e. omega arith)))))

moving_keeps : (from : Forms) (to : Form) (image : List ℕ) → Kept image (moved_from_c (move_of from to image))
unfolding pick
moving_keeps from to image h =
    refused_move_keeps from to image (λ e. absurd (omega (arith, (move_is_answered from to image).1)))

pub refused_to_two_keeps : (image : List ℕ) → Kept image (to_two_from_c image)
refused_to_two_keeps = moving_keeps OnlyOne Two

pub refused_to_one_keeps : (image : List ℕ) → Kept image (to_one_from_c image)
refused_to_one_keeps = moving_keeps OnlyTwo One

-- ---- a call

module _ (part : Part) (area : List ℕ) (before : Memory) (wait : ℕ) (packet reply : List ℕ) where
  -- all is as it was, if the call was refused
  abbrev AllKept : Called → Type 0
  AllKept left = Refused left.answer → left ≡ called left.answer area before reply

  abbrev left : Left
  left = call_of part (session_in area) before wait packet reply

  -- a call that is served answers with less
  served_is_small : (burn : Bool) → one_number 0 burn left.answer.size ≤ burn_unit + 1729
  served_is_small burn =
      by_pick (λ unit. 0 * refusal_unit + (unit + left.answer.size) ≤ burn_unit + 1729) burn burn_unit 0
      (λ y. omega (arith, call_size_fits part (session_in area) before wait packet reply))
      (λ n. omega (arith, call_size_fits part (session_in area) before wait packet reply))

  session_keeps : AllKept (called_after part area left)
  unfolding stored_after
  session_keeps =
      by_pick (λ after. AllKept (called_from after left)) (eqb left.answer.number 0) _ _
      (λ y h. absurd (omega (arith, served_is_small left.answer.burn)))
      (λ n h. ap (λ kept. called (refusal left.answer.number) area kept.memory kept.area)
      (refused_changes_nothing part (session_in area) before wait packet reply (λ e. true≢false (sym (eq-eqb _ _ e) ∙ n))))

  pub refused_call_keeps_all : AllKept (call_from_c part area before wait packet reply)
  unfolding call_from_c
  refused_call_keeps_all =
      by_pick AllKept (ltb (length reply) reply_limit) _ _ (λ y h. refl)
      (λ n. by_pick AllKept (not (eqb (length before.window) part.window_size)) _ _ (λ y h. refl)
      (λ n. by_pick AllKept (not (is_record_area part area)) _ _ (λ y h. refl) (λ m. session_keeps)))
