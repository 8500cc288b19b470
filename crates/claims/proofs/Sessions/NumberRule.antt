-- Demand 1: "A refused call has its number from the table". Every call has an answer, and it is one of these numbers; 0 stands for a call
-- that is not refused. Over the definitions that the functions are proved to meet, by value and from C.
use Rattle.std.specs.Prelude.{Result, Option, Some, None, Ok, Err}
use mathlib.Core.Path.{◌≡◌, refl, sym, subst}
use mathlib.Core.Bool.{Bool, true, false≢true, not}
use mathlib.Core.List.{List, [], ◌∷◌}
use Prim.Native.Nat.{ℕ, ◌+◌, ◌*◌, ◌/◌, ◌≤◌}
use native.Mathlib.Omega.{arith}
use lib.Dec.{ltb, eqb}
use lib.ListN.{length, get_or}
use Rattle.octets.specs.Choice.{pick}
use Rattle.octets.specs.Number.{number_at}
use Rattle.octets.proofs.Searching.{by_pick}
use Rattle.parts.specs.declared.Part.{Part}
use Rattle.parts.specs.Parts.{am13e230x}
use Rattle.line.specs.Codes.{reply_limit, is_one_of}
use Rattle.settings.specs.declared.Form.{Form}
use Rattle.settings.specs.declared.Form.TheVariants.{One, Two}
use Rattle.settings.specs.declared.Forms.{Forms}
use Rattle.settings.specs.declared.Forms.TheVariants.{Both, OnlyOne, OnlyTwo}
use Rattle.settings.specs.Held.{Contents}
use Rattle.settings.specs.Values.{is_allowed}
use Rattle.settings.specs.Layout.{large, layout_of, image_size}
use Rattle.settings.specs.Entries.{differing_entry}
use Rattle.settings.specs.Bodies.{contents_in}
use Rattle.settings.specs.Answers.{Numbered, numbered, refusal_numbered, WriteLeft, SettingsTold}
use Rattle.settings.specs.Reader.{Checked, is_blank, checksum_differs, is_form, found_in, filler_differs, value_not_allowed, checked_in, checked_found, checked_written, checked_of, read_as, read_of}
use Rattle.octets.specs.Alike.{all_are}
use Rattle.settings_large.specs.Contents.{LargeContents}
use Rattle.settings_large.specs.Image.{large_size}
use Rattle.settings_large.specs.Reader as larger
use Rattle.settings_large.specs.Writer as large_writer
use Rattle.settings_large.specs.Writer.{is_one}
use Rattle.settings.specs.Writer.{name_fits, write_of}
use Rattle.settings.specs.Moves.{in_form, move_as, move_of}
use Rattle.settings.specs.Fields.{zero_at}
use Rattle.settings.proofs.LayoutLaws.{count_is_few}
use Rattle.settings.proofs.ReaderLaws.{differing_entry_there}
use Rattle.settings_mend.specs.declared.Examined.{Examined}
use Rattle.settings_mend.specs.declared.Examined.TheVariants as examined
use Rattle.settings_mend.specs.declared.MendError.{MendError}
use Rattle.settings_mend.specs.declared.MendError.TheVariants as mending
use Rattle.settings_mend.specs.Examining.{examined_of}
use Rattle.settings_mend.specs.Mending.{mend_as, mend_of}
use Rattle.flash.specs.Memory.{Memory, memory}
use Rattle.flash.specs.Regions.{is_main_size}
use Rattle.session.specs.declared.Session.{Session}
use Rattle.session.specs.StartAnswers.{StartTold}
use Rattle.session.specs.Starting.{start_read, settings_read, start_of}
use Rattle.session.specs.CallAnswers.{Left}
use Rattle.session.specs.Records.{is_record}
use Rattle.session.specs.Calling.{serve_of, call_of}
use Rattle.session.proofs.CallLaws.{call_size_fits}
use Rattle.c_records.specs.OneNumber.{refusal_unit, burn_unit, one_number, refusal, refusal_of}
use Rattle.c_records.specs.Stored.{Stored, stored_by}
use Rattle.c_records.specs.FieldsArea.{fields_area_size, form_at, fields_of, is_form_number, contents_read}
use Rattle.c_records.specs.SettingsFromC.{read_from_c, write_from_c, moved_from_c, to_two_from_c, to_one_from_c}
use Rattle.c_records.specs.LargeFromC.{large_area_size, large_form_at, large_fields_of, large_contents_read, read_large_from_c, write_large_from_c}
use Rattle.c_records.specs.MendFromC.{MendStored, counts_size, mend_from_c}
use Rattle.c_records.specs.Records.{record_size, record_of, session_in, is_record_area}
use Rattle.c_records.specs.Boundary.{start_by_fuse, start_from_c, Called, stored_after, called_from, call_from_c}

-- ---- the numbers

-- 01, Numbers of refused calls: "Start checks 1-8, the settings reader 3-8, the writer 3 then 8, a session call 9 then 10."; T-05: "11, window not
-- 3,456 bytes, after 3 at start and after 9 in a call"; T-09: "each move checks as the reader", and "41, a name not all 0xFF on the way back or in form 1
-- settings to be written, after 8"; T-11: "Refusals: 3; then 5"
abbrev pub read_numbers : List ℕ
read_numbers = 0 ∷ 3 ∷ 4 ∷ 5 ∷ 6 ∷ 7 ∷ 8 ∷ []

abbrev pub write_numbers : List ℕ
write_numbers = 0 ∷ 3 ∷ 8 ∷ 41 ∷ []

-- T-10: "Refusals: the old numbers and order, with this part's limits"; ours: 5 for a form that the part has not
abbrev pub large_write_numbers : List ℕ
large_write_numbers = 0 ∷ 3 ∷ 5 ∷ 8 ∷ []

abbrev pub move_numbers : List ℕ
move_numbers = 41 ∷ read_numbers

abbrev pub mend_numbers : List ℕ
mend_numbers = 0 ∷ 3 ∷ 5 ∷ []

abbrev pub start_numbers : List ℕ
start_numbers = 1 ∷ 2 ∷ 11 ∷ read_numbers

abbrev pub call_numbers : List ℕ
call_numbers = 0 ∷ 9 ∷ 11 ∷ 10 ∷ []

-- T-10: "there is no window of T-05", and so no 11
abbrev pub large_start_numbers : List ℕ
large_start_numbers = 1 ∷ 2 ∷ read_numbers

abbrev pub large_call_numbers : List ℕ
large_call_numbers = 0 ∷ 9 ∷ 10 ∷ []

abbrev pub IsOneOf : List ℕ → ℕ → Type 0
IsOneOf numbers number = is_one_of number numbers ≡ true

one_of_more : (first : ℕ) (numbers : List ℕ) (number : ℕ) → IsOneOf numbers number → IsOneOf (first ∷ numbers) number
unfolding is_one_of
one_of_more first numbers number h = by_pick (λ (found : Bool). found ≡ true) (eqb number first) _ _ (λ y. refl) (λ n. h)

-- ---- by value

-- a number, and the entry that goes with it
abbrev Told : List ℕ → ℕ → ℕ → Type 0
Told numbers number entry = IsOneOf numbers number × (entry ≤ 7)

module _ (image : List ℕ) where
  abbrev ReadWell : Checked → Type 0
  ReadWell found = Told read_numbers (read_as image found).number (read_as image found).entry

  form_is_answered : (found : Option Form) → ReadWell (checked_found image found)
  unfolding checked_in is_one_of pick
  form_is_answered (Some form) =
      by_pick ReadWell (not (eqb (differing_entry (layout_of form) image) 0)) _ _
      (λ y. (refl, omega (arith, differing_entry_there (layout_of form) image, count_is_few form)))
      (λ n. by_pick ReadWell (filler_differs form image) _ _ (λ y. (refl, omega arith))
      (λ n. by_pick ReadWell (value_not_allowed form image) _ _ (λ y. (refl, omega arith)) (λ n. (refl, omega arith))))
  form_is_answered None = (refl, omega arith)

  check_is_answered : (forms : Forms) → ReadWell (checked_of forms image)
  unfolding checked_of checked_written is_one_of pick
  check_is_answered forms =
      by_pick ReadWell (not (eqb (length image) image_size)) _ _ (λ y. (refl, omega arith))
      (λ n. by_pick ReadWell (is_blank image) _ _ (λ y. (refl, omega arith))
      (λ n. by_pick ReadWell (checksum_differs image) _ _ (λ y. (refl, omega arith)) (λ n. form_is_answered (found_in forms image))))

  pub read_is_answered : Told read_numbers (read_of image).number (read_of image).entry
  unfolding read_of
  read_is_answered = check_is_answered Both

-- what can be said of each answer of the writer
every_write : (contents : Contents) (area : List ℕ) (numbers : List ℕ) → IsOneOf numbers 0 → IsOneOf numbers 3 → IsOneOf numbers 8 → IsOneOf numbers 41
    → IsOneOf numbers (write_of contents area).number
unfolding write_of
every_write contents area numbers zero three eight name =
    by_pick Well (not (eqb (length area) image_size)) _ _ (λ y. three)
    (λ n. by_pick Well (not (is_allowed contents.settings.shown)) _ _ (λ y. eight)
    (λ n. by_pick Well (not (name_fits contents.form contents.name)) _ _ (λ y. name) (λ n. zero)))
  where
    Well : WriteLeft → Type 0
    Well left = IsOneOf numbers left.number

pub write_is_answered : (contents : Contents) (area : List ℕ) → IsOneOf write_numbers (write_of contents area).number
unfolding is_one_of pick
write_is_answered contents area = every_write contents area write_numbers refl refl refl refl

pub move_is_answered : (from : Forms) (to : Form) (image : List ℕ) → Told move_numbers (move_of from to image).told.number (move_of from to image).told.entry
unfolding move_of is_one_of pick
move_is_answered from to image = as_found (checked_of from image) (check_is_answered image from)
  where
    as_found : (found : Checked) → ReadWell image found → Told move_numbers (move_as to image found).told.number (move_as to image found).told.entry
    as_found (Ok None) well = (refl, omega arith)
    as_found (Ok (Some form)) well = (every_write (in_form to (contents_in form image)) image move_numbers refl refl refl refl, omega arith)
    as_found (Err why) well = (one_of_more 41 read_numbers (refusal_numbered why).number well.0, well.1)

pub mend_is_answered : (image : List ℕ) → IsOneOf mend_numbers (mend_of image).told.number
unfolding mend_of is_one_of pick
mend_is_answered image = as_found (examined_of image)
  where
    as_found : (found : Result Examined MendError) → IsOneOf mend_numbers (mend_as image found).told.number
    as_found (Err mending.SizeWrong) = refl
    as_found (Ok examined.Accepted) = refl
    as_found (Err mending.FormTwo) = refl
    as_found (Ok examined.Damaged) = refl

-- the larger part's reader
module _ (image : List ℕ) where
  abbrev LargeWell : Checked → Type 0
  LargeWell found = Told read_numbers (larger.read_as image found).number (larger.read_as image found).entry

  pub large_read_is_answered : Told read_numbers (larger.read_of image).number (larger.read_of image).entry
  unfolding larger.read_of larger.checked_of larger.checked_written larger.checked_in is_one_of pick
  large_read_is_answered =
      by_pick LargeWell (not (eqb (length image) large_size)) _ _ (λ y. (refl, omega arith))
      (λ n. by_pick LargeWell (all_are 0xFF image) _ _ (λ y. (refl, omega arith))
      (λ n. by_pick LargeWell (checksum_differs image) _ _ (λ y. (refl, omega arith))
      (λ n. by_pick LargeWell (not (is_form Two image)) _ _ (λ y. (refl, omega arith))
      (λ n. by_pick LargeWell (not (eqb (differing_entry large image) 0)) _ _
      (λ y. (refl, omega (arith, differing_entry_there large image)))
      (λ n. by_pick LargeWell (larger.filler_differs image) _ _ (λ y. (refl, omega arith))
      (λ n. by_pick LargeWell (larger.value_not_allowed image) _ _ (λ y. (refl, omega arith)) (λ n. (refl, omega arith))))))))

  pub taken_is_answered : Told read_numbers (settings_read image).number (settings_read image).entry
  unfolding settings_read
  taken_is_answered =
      by_pick (λ (told : SettingsTold). Told read_numbers told.number told.entry) (eqb (length image) large_size) _ _ (λ y. large_read_is_answered) (λ n. read_is_answered image)

-- and its writer, which has no 41: every name has a place
every_large_write : (contents : LargeContents) (area : List ℕ) (numbers : List ℕ) → IsOneOf numbers 0 → IsOneOf numbers 3 → IsOneOf numbers 5 → IsOneOf numbers 8
    → IsOneOf numbers (large_writer.write_of contents area).number
unfolding large_writer.write_of
every_large_write contents area numbers zero three five eight =
    by_pick Well (not (eqb (length area) large_size)) _ _ (λ y. three)
    (λ n. by_pick Well (is_one contents.form) _ _ (λ y. five)
    (λ n. by_pick Well (not (is_allowed contents.settings.shown)) _ _ (λ y. eight) (λ n. zero)))
  where
    Well : WriteLeft → Type 0
    Well left = IsOneOf numbers left.number

pub large_write_is_answered : (contents : LargeContents) (area : List ℕ) → IsOneOf large_write_numbers (large_writer.write_of contents area).number
unfolding is_one_of pick
large_write_is_answered contents area = every_large_write contents area large_write_numbers refl refl refl refl

module _ (part : Part) (fuse : Bool) (main settings window : List ℕ) where
  abbrev StartWell : StartTold → Type 0
  StartWell told = Told start_numbers told.answer.number told.answer.entry

  pub start_is_answered : StartWell (start_of part fuse main settings window)
  unfolding start_of start_read is_one_of pick
  start_is_answered =
      let read = taken_is_answered settings in
      let number = (settings_read settings).number in
      by_pick StartWell fuse _ _ (λ y. (refl, omega arith))
      (λ n. by_pick StartWell (not (is_main_size part (length main))) _ _ (λ y. (refl, omega arith))
      (λ n. by_pick StartWell (not (eqb (length settings) part.settings_size)) _ _ (λ y. (refl, omega arith))
      (λ n. by_pick StartWell (not (eqb (length window) part.window_size)) _ _ (λ y. (refl, omega arith))
      (λ n. by_pick StartWell (eqb (settings_read settings).number 0) _ _ (λ y. (refl, omega arith))
      (λ n. (one_of_more 1 (2 ∷ 11 ∷ read_numbers) number (one_of_more 2 (11 ∷ read_numbers) number (one_of_more 11 read_numbers number read.0)), read.1))))))

-- the larger part's, with no window
module _ (fuse : Bool) (main settings : List ℕ) where
  abbrev LargeStartWell : StartTold → Type 0
  LargeStartWell told = Told large_start_numbers told.answer.number told.answer.entry

  pub large_start_is_answered : LargeStartWell (start_of am13e230x fuse main settings [])
  unfolding start_of start_read is_one_of pick
  large_start_is_answered =
      let read = taken_is_answered settings in
      let number = (settings_read settings).number in
      by_pick LargeStartWell fuse _ _ (λ y. (refl, omega arith))
      (λ n. by_pick LargeStartWell (not (is_main_size am13e230x (length main))) _ _ (λ y. (refl, omega arith))
      (λ n. by_pick LargeStartWell (not (eqb (length settings) 2048)) _ _ (λ y. (refl, omega arith))
      (λ n. by_pick LargeStartWell (eqb (settings_read settings).number 0) _ _ (λ y. (refl, omega arith))
      (λ n. (one_of_more 1 (2 ∷ read_numbers) number (one_of_more 2 read_numbers number read.0), read.1)))))

module _ (part : Part) (session : Session) (before : Memory) (wait : ℕ) (packet area : List ℕ) where
  abbrev CallWell : Left → Type 0
  CallWell left = IsOneOf call_numbers left.answer.number

  pub call_is_answered : CallWell (call_of part session before wait packet area)
  unfolding call_of serve_of is_one_of pick
  call_is_answered =
      by_pick CallWell (ltb (length area) reply_limit) _ _ (λ y. refl)
      (λ n. by_pick CallWell (not (eqb (length before.window) part.window_size)) _ _ (λ y. refl)
      (λ n. by_pick CallWell (not (is_record part session (length before.main) (length before.settings))) _ _ (λ y. refl) (λ n. refl)))

module _ (session : Session) (main settings : List ℕ) (wait : ℕ) (packet area : List ℕ) where
  abbrev LargeCallWell : Left → Type 0
  LargeCallWell left = IsOneOf large_call_numbers left.answer.number

  pub large_call_is_answered : LargeCallWell (call_of am13e230x session (memory main settings []) wait packet area)
  unfolding call_of serve_of is_one_of pick
  large_call_is_answered =
      by_pick LargeCallWell (ltb (length area) reply_limit) _ _ (λ y. refl)
      (λ n. by_pick LargeCallWell (not (is_record am13e230x session (length main) (length settings))) _ _ (λ y. refl) (λ n. refl))

-- ---- from C

-- the refusal is the top byte of what comes back
abbrev pub refusal_in : ℕ → ℕ
refusal_in answer = answer / refusal_unit

refusal_is : (told : Numbered) → told.entry ≤ 7 → refusal_in (refusal_of told) ≡ told.number
unfolding pick
refusal_is told small = omega arith

ten_is_first : (numbers : List ℕ) → IsOneOf (10 ∷ numbers) (refusal_in (refusal 10))
unfolding is_one_of pick
ten_is_first numbers = refl

storing_is_answered : (numbers : List ℕ) (told : Numbered) (size : ℕ) (bytes area : List ℕ) → IsOneOf numbers 0
    → Told numbers told.number told.entry → IsOneOf (10 ∷ numbers) (refusal_in (stored_by told size bytes area).answer)
unfolding stored_by
storing_is_answered numbers told size bytes area zero well =
    by_pick Well (not (eqb (refusal_of told) 0)) _ _
    (λ y. one_of_more 10 numbers _ (subst (IsOneOf numbers) (sym (refusal_is told well.1)) well.0))
    (λ n. by_pick Well (not (eqb (length area) size)) _ _ (λ y. ten_is_first numbers) (λ n. one_of_more 10 numbers 0 zero))
  where
    Well : Stored → Type 0
    Well left = IsOneOf (10 ∷ numbers) (refusal_in left.answer)

pub start_is_answered_from_c : (part : Part) (fuse : ℕ) (main settings window area : List ℕ)
    → IsOneOf (10 ∷ start_numbers) (refusal_in (start_from_c part fuse main settings window area).answer)
unfolding is_one_of pick
start_is_answered_from_c part fuse main settings window area =
    storing_is_answered start_numbers (start_by_fuse part fuse main settings window).answer (record_size part) (record_of part (start_by_fuse part fuse main settings window).session) area
    refl (start_is_answered part (not (eqb fuse 0)) main settings window)

pub large_start_is_answered_from_c : (fuse : ℕ) (main settings area : List ℕ)
    → IsOneOf (10 ∷ large_start_numbers) (refusal_in (start_from_c am13e230x fuse main settings [] area).answer)
unfolding is_one_of pick
large_start_is_answered_from_c fuse main settings area =
    storing_is_answered large_start_numbers (start_by_fuse am13e230x fuse main settings []).answer (record_size am13e230x) (record_of am13e230x (start_by_fuse am13e230x fuse main settings []).session) area
    refl (large_start_is_answered (not (eqb fuse 0)) main settings)

pub read_is_answered_from_c : (image area : List ℕ) → IsOneOf (10 ∷ read_numbers) (refusal_in (read_from_c image area).answer)
unfolding is_one_of pick
read_is_answered_from_c image area =
    storing_is_answered read_numbers (numbered (read_of image).number (read_of image).entry) fields_area_size (fields_of (read_of image).contents) area refl
    (read_is_answered image)

pub write_is_answered_from_c : (fields image : List ℕ) → IsOneOf (5 ∷ 10 ∷ write_numbers) (refusal_in (write_from_c fields image).answer)
unfolding write_from_c is_one_of pick
write_is_answered_from_c fields image =
    by_pick Well (not (eqb (length image) image_size)) _ _ (λ y. refl)
    (λ n. by_pick Well (not (eqb (length fields) fields_area_size)) _ _ (λ y. refl)
    (λ n. by_pick Well (not (is_form_number (number_at form_at 2 fields))) _ _ (λ y. refl)
    (λ n. by_pick Well (not (eqb (get_or fields zero_at 0) 0)) _ _ (λ y. refl)
    (λ n. subst (IsOneOf (5 ∷ 10 ∷ write_numbers)) (sym (refusal_is (numbered written 0) (omega arith)))
    (every_write (contents_read fields) image (5 ∷ 10 ∷ write_numbers) refl refl refl refl)))))
  where
    Well : Stored → Type 0
    Well left = IsOneOf (5 ∷ 10 ∷ write_numbers) (refusal_in left.answer)

    written : ℕ
    written = (write_of (contents_read fields) image).number

-- the larger part's reader and writer
pub large_read_is_answered_from_c : (image area : List ℕ) → IsOneOf (10 ∷ read_numbers) (refusal_in (read_large_from_c image area).answer)
unfolding is_one_of pick
large_read_is_answered_from_c image area =
    storing_is_answered read_numbers (numbered (larger.read_of image).number (larger.read_of image).entry) large_area_size (large_fields_of (larger.read_of image).contents) area refl
    (large_read_is_answered image)

pub large_write_is_answered_from_c : (fields image : List ℕ) → IsOneOf (10 ∷ large_write_numbers) (refusal_in (write_large_from_c fields image).answer)
unfolding write_large_from_c is_one_of pick
large_write_is_answered_from_c fields image =
    by_pick Well (not (eqb (length image) large_size)) _ _ (λ y. refl)
    (λ n. by_pick Well (not (eqb (length fields) large_area_size)) _ _ (λ y. refl)
    (λ n. by_pick Well (not (eqb (number_at large_form_at 2 fields) 2)) _ _ (λ y. refl)
    (λ n. by_pick Well (not (eqb (get_or fields zero_at 0) 0)) _ _ (λ y. refl)
    (λ n. subst (IsOneOf (10 ∷ large_write_numbers)) (sym (refusal_is (numbered written 0) (omega arith)))
    (every_large_write (large_contents_read fields) image (10 ∷ large_write_numbers) refl refl refl refl)))))
  where
    Well : Stored → Type 0
    Well left = IsOneOf (10 ∷ large_write_numbers) (refusal_in left.answer)

    written : ℕ
    written = (large_writer.write_of (large_contents_read fields) image).number

-- T-09: "41, a name not all 0xFF" never arises there
pub large_write_never_41_from_c : (fields image : List ℕ) → refusal_in (write_large_from_c fields image).answer ≡ 41 → ⊥
unfolding is_one_of pick
large_write_never_41_from_c fields image e = false≢true (subst (IsOneOf (10 ∷ large_write_numbers)) e (large_write_is_answered_from_c fields image))

-- a move from C has the number of the move
moved_says : (from : Forms) (to : Form) (image : List ℕ) → IsOneOf move_numbers (refusal_in (moved_from_c (move_of from to image)).answer)
moved_says from to image =
    let well = move_is_answered from to image in
    subst (IsOneOf move_numbers) (sym (refusal_is (move_of from to image).told well.1)) well.0

pub to_two_is_answered_from_c : (image : List ℕ) → IsOneOf move_numbers (refusal_in (to_two_from_c image).answer)
to_two_is_answered_from_c = moved_says OnlyOne Two

pub to_one_is_answered_from_c : (image : List ℕ) → IsOneOf move_numbers (refusal_in (to_one_from_c image).answer)
to_one_is_answered_from_c = moved_says OnlyTwo One

pub mend_is_answered_from_c : (image area : List ℕ) → IsOneOf (10 ∷ mend_numbers) (refusal_in (mend_from_c image area).answer)
unfolding mend_from_c is_one_of pick
mend_is_answered_from_c image area =
    by_pick Well (not (eqb (mend_of image).told.number 0)) _ _
    (λ y. subst (IsOneOf (10 ∷ mend_numbers)) (sym (refusal_is (numbered (mend_of image).told.number 0) (omega arith))) (one_of_more 10 mend_numbers (mend_of image).told.number (mend_is_answered image)))
    (λ n. by_pick Well (not (eqb (length area) counts_size)) _ _ (λ y. refl) (λ m. refl))
  where
    Well : MendStored → Type 0
    Well left = IsOneOf (10 ∷ mend_numbers) (refusal_in left.answer)

module _ (part : Part) (area : List ℕ) (before : Memory) (wait : ℕ) (packet reply : List ℕ) where
  abbrev left : Left
  left = call_of part (session_in area) before wait packet reply

  abbrev CalledWell : Called → Type 0
  CalledWell after = IsOneOf call_numbers (refusal_in after.answer)

  -- a reply's size and the burn stand below the top byte
  served_says_0 : (burn : Bool) → refusal_in (one_number 0 burn left.answer.size) ≡ 0
  served_says_0 burn =
      by_pick (λ unit. (0 * refusal_unit + (unit + left.answer.size)) / refusal_unit ≡ 0) burn burn_unit 0
      (λ y. omega (arith, call_size_fits part (session_in area) before wait packet reply))
      (λ n. omega (arith, call_size_fits part (session_in area) before wait packet reply))

  pub call_is_answered_from_c : CalledWell (call_from_c part area before wait packet reply)
  unfolding call_from_c stored_after is_one_of pick
  call_is_answered_from_c =
      by_pick CalledWell (ltb (length reply) reply_limit) _ _ (λ y. refl)
      (λ n. by_pick CalledWell (not (eqb (length before.window) part.window_size)) _ _ (λ y. refl)
      (λ n. by_pick CalledWell (not (is_record_area part area)) _ _ (λ y. refl)
      (λ n. by_pick (λ after. CalledWell (called_from after left)) (eqb left.answer.number 0) _ _
      (λ y. subst (IsOneOf call_numbers) (sym (served_says_0 left.answer.burn)) refl)
      (λ n. subst (IsOneOf call_numbers) (sym (refusal_is (numbered left.answer.number 0) (omega arith))) (call_is_answered part (session_in area) before wait packet reply)))))

module _ (area main settings : List ℕ) (wait : ℕ) (packet reply : List ℕ) where
  abbrev lent : Memory
  lent = memory main settings []

  abbrev after : Left
  after = call_of am13e230x (session_in area) lent wait packet reply

  abbrev LargeCalledWell : Called → Type 0
  LargeCalledWell called = IsOneOf large_call_numbers (refusal_in called.answer)

  pub large_call_is_answered_from_c : LargeCalledWell (call_from_c am13e230x area lent wait packet reply)
  unfolding call_from_c stored_after is_one_of pick
  large_call_is_answered_from_c =
      by_pick LargeCalledWell (ltb (length reply) reply_limit) _ _ (λ y. refl)
      (λ n. by_pick LargeCalledWell (not (is_record_area am13e230x area)) _ _ (λ y. refl)
      (λ n. by_pick (λ stored. LargeCalledWell (called_from stored after)) (eqb after.answer.number 0) _ _
      (λ y. subst (IsOneOf large_call_numbers) (sym (served_says_0 am13e230x area lent wait packet reply after.answer.burn)) refl)
      (λ n. subst (IsOneOf large_call_numbers) (sym (refusal_is (numbered after.answer.number 0) (omega arith))) (large_call_is_answered (session_in area) main settings wait packet reply))))
