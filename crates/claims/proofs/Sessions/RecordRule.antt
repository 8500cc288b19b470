-- 01, The loader and its edges: "From C the record is a byte area". Decoding what was encoded gives the session, and encoding what was
-- decoded gives the bytes (`encode_after_decode`, which `c_records` needs itself and has among its own laws).
-- `record_of` is what `c_records` is proved to store, `session_in` and `is_record_area` what it is proved to read.
use mathlib.Core.Path.{◌≡◌, refl, sym, ap, ◌∙◌}
use mathlib.Core.Bool.{true, false}
use mathlib.Core.List.{List, ◌++◌}
use mathlib.Core.Logic.{⊎_elim}
use Prim.Native.Nat.{ℕ, ◌+◌, ◌-◌, ◌≤◌, ◌<◌}
use native.Mathlib.Omega.{arith}
use borrow.Author.Tests.{eq-eqb}
use lib.Dec.{eqb}
use lib.ListN.{length, get_or, take, drop}
use lib.Seq.{take_all, get_or-drop}
use Rattle.octets.specs.Choice.{pick}
use Rattle.octets.specs.Number.{bytes_of, number_at}
use Rattle.octets.proofs.Numbers.{number_of_bytes}
use Rattle.parts.specs.declared.Part.{Part}
use Rattle.parts.specs.Parts.{mspm0, am13e230x}
use Rattle.session_state.specs.declared.Phase.{Phase}
use Rattle.session_state.specs.declared.Phase.TheVariants.{Detect, Command, Standby, Ended, Disabled}
use Rattle.settings.specs.Layout.{form1, form2, large, length_of, offset_of, sum_of, table_end}
use Rattle.settings.specs.Fields as fields
use Rattle.settings.specs.Fields.{kept_size, zero_at}
use Rattle.settings.specs.Kept.{long_size, kept_bodies}
use Rattle.session.specs.declared.Session.{Session}
use Rattle.c_records.specs.FieldsArea.{fields_area_size, name_at, form_at}
use Rattle.c_records.specs.Records.{record_size, fields_at, phase_code, lock_code, sleep_of, standing_bytes, record_bytes, record_of, phase_in, standing_in, session_in, phase_fits, is_record_area}
use Rattle.c_records.specs.LargeFromC.{large_area_size, large_name_at, large_form_at}
use Rattle.c_records.proofs.RecordLaws.{two_sizes, record_sizes}
use Rattle.c_records.proofs.RecordAgain.{encode_after_decode}
use Rattle.claims.specs.Held.{HeldSession}
use Rattle.claims.proofs.Settings.KeptRule.{fields_in, kept_back, kept_unused, kept_size_lem}

-- ---- a session as bytes

phase_back : (phase : Phase) → phase_in (phase_code phase) (eqb (lock_code phase) 1) (sleep_of phase) ≡ phase
unfolding phase_in pick
phase_back Detect = refl
phase_back (Command true sleep) = refl
phase_back (Command false sleep) = refl
phase_back Standby = refl
phase_back Ended = refl
phase_back Disabled = refl

coded_phase_fits : (phase : Phase) → phase_fits (phase_code phase) (lock_code phase) (sleep_of phase) ≡ true
unfolding phase_fits pick
coded_phase_fits Detect = refl
coded_phase_fits (Command true sleep) = refl
coded_phase_fits (Command false sleep) = refl
coded_phase_fits Standby = refl
coded_phase_fits Ended = refl
coded_phase_fits Disabled = refl

-- ---- a record, by its pieces

module _ (board : Part) (session : Session) where
  abbrev made : List ℕ
  made = standing_bytes session.standing ++ (bytes_of 4 session.main_size ++ fields_in board session.settings)

  pub record_is : record_of board session ≡ made
  unfolding record_bytes bytes_of
  record_is =
      ⊎_elim
      (λ e. ap (λ (n : ℕ). take n (record_bytes session)) e
      ∙ sym (ap (λ (n : ℕ). standing_bytes session.standing ++ (bytes_of 4 session.main_size ++ take (n - 20) (kept_bodies session.settings))) e))
      (λ e. ap (λ (n : ℕ). take n (record_bytes session)) e
      ∙ sym (ap (λ (n : ℕ). standing_bytes session.standing ++ (bytes_of 4 session.main_size ++ take (n - 20) (kept_bodies session.settings))) e))
      (two_sizes board)

module _ (board : Part) (session : Session) (held : HeldSession board session) where
  sleep_back : number_at 4 4 (made board session) ≡ sleep_of session.standing.phase
  unfolding bytes_of
  sleep_back = number_of_bytes 4 (sleep_of session.standing.phase) held.sleep

  idle_back : number_at 8 4 (made board session) ≡ session.standing.idle
  unfolding bytes_of
  idle_back = number_of_bytes 4 session.standing.idle held.idle

  tries_back : number_at 12 4 (made board session) ≡ session.standing.tries
  unfolding bytes_of
  tries_back = number_of_bytes 4 session.standing.tries held.tries

  main_back : number_at 16 4 (made board session) ≡ session.main_size
  unfolding bytes_of
  main_back = number_of_bytes 4 session.main_size held.main

  fields_there : drop 20 (made board session) ≡ fields_in board session.settings
  unfolding bytes_of
  fields_there = refl

  standing_back : standing_in (made board session) ≡ session.standing
  unfolding standing_in
  standing_back = rw (sleep_back, idle_back, tries_back, phase_back session.standing.phase)

  few : length (fields_in board session.settings) ≤ 98
  few = omega (arith, kept_size_lem board session.settings held.settings, (record_sizes board).1)

  made_back : session_in (made board session) ≡ session
  unfolding session_in
  made_back =
      rw (standing_back, main_back, fields_there, take_all 98 (fields_in board session.settings) few, kept_back board session.settings held.settings)

  pub decode_after_encode : session_in (record_of board session) ≡ session
  decode_after_encode = ap session_in (record_is board session) ∙ made_back

  record_size_lem : length (made board session) ≡ record_size board
  unfolding bytes_of
  record_size_lem = omega (arith, kept_size_lem board session.settings held.settings, (record_sizes board).0)

  unused_there : get_or (made board session) 73 0 ≡ 0
  unused_there =
      sym (get_or-drop 20 (made board session) 53 0) ∙ ap (λ (l : List ℕ). get_or l 53 0) fields_there ∙ kept_unused board session.settings held.settings

  made_is_record : is_record_area board (made board session) ≡ true
  unfolding is_record_area pick
  made_is_record = rw (eq-eqb _ _ record_size_lem, sleep_back, coded_phase_fits session.standing.phase, unused_there)

  pub encoded_is_record : is_record_area board (record_of board session) ≡ true
  encoded_is_record = ap (is_record_area board) (record_is board session) ∙ made_is_record

-- for a session there is one area only
pub one_area_lem : (board : Part) (one other : List ℕ) → ((k : ℕ) → get_or one k 0 < 256) → ((k : ℕ) → get_or other k 0 < 256)
    → is_record_area board one ≡ true → is_record_area board other ≡ true → session_in one ≡ session_in other → one ≡ other
one_area_lem board one other each each₂ known known₂ e =
    sym (encode_after_decode board one each known) ∙ ap (record_of board) e ∙ encode_after_decode board other each₂ known₂

-- ---- the numbers of the record's layout, from those of the image's

-- the fields of a record are the six bodies
pub fields_are_bodies : kept_size ≡ fields.fields_size form1
unfolding offset_of sum_of
fields_are_bodies = refl

-- the zero byte of the fields is the last of body 3
pub zero_ends_body_3 : zero_at + 1 ≡ offset_of form1 3 - table_end form1 + length_of form1 3
unfolding offset_of sum_of
zero_ends_body_3 = refl

pub record_ends_with_fields : (record_size mspm0 ≡ fields_at + kept_size) × (record_size am13e230x ≡ fields_at + long_size)
unfolding record_size pick
record_ends_with_fields = (refl, refl)

-- the fields of an image are those of a record, then the name and the form's number
pub fields_go_on : (name_at ≡ kept_size) × (form_at ≡ name_at + length_of form2 7) × (fields_area_size ≡ form_at + 2)
fields_go_on = (refl, refl, refl)

pub large_fields_go_on : (large_name_at ≡ long_size) × (large_form_at ≡ large_name_at + length_of large 7) × (large_area_size ≡ large_form_at + 2)
large_fields_go_on = (refl, refl, refl)
