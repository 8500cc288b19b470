-- Each public function of each crate: its promise has one answer. The promise stands here as the function's contract has it.
-- Where areas are lent to be written, an answer is what is returned, then what is left in each area, in the order of the parameters.
use Rattle.std.specs.Prelude.{◌≡◌, refl, Bool, List, [], ℕ, ◌-◌, ◌/◌, min, length, get_or, replicate, Result, Ok, Err}
use Rattle.std.proofs.Common.{ap, sym, ◌∙◌}
use native.Mathlib.Omega.{arith}
use mathlib.Core.Bool.{true≢false}
use Rattle.std.proofs.lemmas.List.Edits.{sets}
use Rattle.octets.specs.Choice.{pick}
use Rattle.octets.specs.Number.{part, number_at, bytes_of, is_multiple}
use Rattle.octets.specs.Alike.{all_are, are_same, differing}
use Rattle.octets.specs.Hex.{hex_of}
use Rattle.octets.specs.Decimal.{digits_in, decimal_of}
use Rattle.checksum.specs.Checksum.{checksum_from, checksum_of}
use Rattle.parts.specs.declared.Part.{Part}
use Rattle.parts.specs.Parts.{mspm0, am13e230x}
use Rattle.line.specs.declared.acknowledgement.FrameError.{FrameError}
use Rattle.line.specs.Acknowledgement.{is_rate, acknowledgement, error_code, code_of}
use Rattle.line.specs.Commands.{command_of}
use Rattle.line.specs.declared.Reply.{Reply}
use Rattle.line.specs.Replies.{reply_bytes, Sent, sent, sent_of}
use Rattle.line.proofs.AcknowledgementLaws.{one_code_one_answer}
use Rattle.session_state.specs.declared.Phase.{Phase}
use Rattle.session_state.specs.declared.Standing.{Standing}
use Rattle.session_state.specs.Phases.{sleep_of, is_valid}
use Rattle.session_state.specs.Rates.{rate_of}
use Rattle.session_state.specs.Waits.{pass_time}
use Rattle.settings.specs.declared.Shown.{Shown}
use Rattle.settings.specs.Held.{Settings}
use Rattle.settings.specs.Held.{Kept}
use Rattle.settings.specs.Values.{is_allowed, blank_settings, no_settings}
use Rattle.settings.specs.declared.Form.{Form}
use Rattle.settings.specs.declared.Form.TheVariants.{One, Two}
use Rattle.settings.specs.Layout.{Layout, form1, layout_of, table_of, pairs_of}
use Rattle.settings.specs.Forms.{is_form_number, Numbers}
use Rattle.settings.specs.Layouts.{checked_laid_out, laid_out}
use Rattle.settings.specs.Bodies.{bodies_of}
use Rattle.settings.specs.Fields.{fields_read}
use Rattle.settings.specs.Kept.{blank_kept, no_kept, kept_bodies, kept_read}
use Rattle.settings.specs.Held.{Contents}
use Rattle.settings.specs.declared.WriteError.{WriteError}
use Rattle.settings.specs.declared.MoveError.{MoveError}
use Rattle.settings.specs.declared.MoveError.TheVariants as move_error
use Rattle.settings.specs.declared.Refusal.{Refusal}
use Rattle.settings.specs.Answers.{numbered, refusal_numbered, read_told, SettingsTold, settings_told, settings_only, write_left, write_number, MoveLeft, move_left, move_numbered}
use Rattle.settings.specs.Image.{resealed}
use Rattle.settings.specs.Reader.{read_of, is_accepted}
use Rattle.settings.specs.Writer.{write_of}
use Rattle.settings.specs.Moves.{moved_to_one, moved_to_two}
use Rattle.settings_large.specs.Contents.{LargeContents}
use Rattle.settings_large.specs.declared.LargeWriteError.{LargeWriteError}
use Rattle.settings_large.specs.Reader as large_reader
use Rattle.settings_large.specs.Writer as large_writer
use Rattle.settings_mend.specs.declared.Changes.{Changes}
use Rattle.settings_mend.specs.declared.MendError.{MendError}
use Rattle.settings_mend.specs.Examining.{examined_of}
use Rattle.settings_mend.specs.Mending.{mend_left, mend_told, mend_of}
use Rattle.flash.specs.declared.Region.{Region}
use Rattle.flash.specs.Regions.{is_main_size, place_of}
use Rattle.flash.specs.declared.Areas.{Areas}
use Rattle.flash.specs.declared.Sectors.{Sectors}
use Rattle.flash.specs.Memory.{Memory, memory, memory_in, bytes_in}
use Rattle.flash.specs.Erasing.{erase_of, erase_all_of}
use Rattle.flash.specs.Programming.{program_of}
use Rattle.session_judge.specs.declared.Effect.{Effect}
use Rattle.session_judge.specs.Hearing.{judged_of}
use Rattle.session_act.specs.declared.Order.{Order}
use Rattle.session_act.specs.Orders.{carried_out}
use Rattle.session_act.specs.declared.Site.{Site}
use Rattle.session_act.specs.Board.{board_in}
use Rattle.session_act.specs.Plans.{says}
use Rattle.session_act.specs.Acting.{plan_on}
use Rattle.session_send.specs.Answering.{answer_of}
use Rattle.session.specs.declared.Session.{Session}
use Rattle.session.specs.declared.StartError.{StartError}
use Rattle.session.specs.declared.StartError.TheVariants as start_error
use Rattle.session.specs.declared.CallError.{CallError}
use Rattle.session.specs.declared.Called.{Called}
use Rattle.session.specs.CallAnswers.{Left, left, call_left}
use Rattle.session.specs.Starting.{start_told, start_of}
use Rattle.session.specs.Calling.{call_of}
use Rattle.session_in_place.specs.declared.Done.{Done}
use Rattle.session_in_place.specs.Starting as in_place
use Rattle.session_in_place.specs.Starting.{start_left, start_in_place}
use Rattle.session_in_place.specs.Calling.{done_told}
use Rattle.c_records.specs.OneNumber.{refusal_of}
use Rattle.c_records.specs.Stored.{Stored, stored}
use Rattle.c_records.specs.SettingsFromC.{read_from_c, write_from_c, to_one_from_c, to_two_from_c}
use Rattle.c_records.specs.LargeFromC.{read_large_from_c, write_large_from_c}
use Rattle.c_records.specs.MendFromC.{mend_stored, mend_from_c}
use Rattle.c_records.specs.Boundary as rig
use Rattle.runner_text.specs.Form.{script_told, script_of, wait_in, packet_in}
use Rattle.runner_text.specs.Writing.{line_of, Written, written, written_of}
use Rattle.runner_text.specs.EndLine.{end_of}
use Rattle.claims.proofs.Answers.OneAnswer.{OneAnswer, given_back, as_said}
use Rattle.claims.proofs.Answers.NumberedAnswers.{read_by, read_back, written_by, written_back, large_written_by, large_written_back, moved_by, moved_back, mended_by, mended_back, started_by, started_back, called_by, called_back, script_by, script_back}

-- ---- octets: bytes read and compared

pub least_is_one : (a b : ℕ) → OneAnswer (λ r. r ≡ min a b)
least_is_one a b = as_said (min a b)

pub is_multiple_is_one : (number unit : ℕ) → OneAnswer (λ r. r ≡ is_multiple number unit)
is_multiple_is_one number unit = as_said (is_multiple number unit)

pub room_is_one : (size at : ℕ) → OneAnswer (λ r. r ≡ size - at)
room_is_one size at = as_said (size - at)

pub byte_at_is_one : (bytes : List ℕ) (at : ℕ) → OneAnswer (λ r. r ≡ get_or bytes at 0)
byte_at_is_one bytes at = as_said (get_or bytes at 0)

-- of the slice that comes back, the bytes; where they lie is not said
pub part_of_is_one : (bytes : List ℕ) (at count : ℕ) → OneAnswer (λ r. r ≡ part at count bytes)
part_of_is_one bytes at count = as_said (part at count bytes)

pub array_at_is_one : (N : ℕ) (bytes : List ℕ) (at : ℕ) → OneAnswer (λ r. r ≡ sets (replicate N 0) 0 (part at N bytes))
array_at_is_one N bytes at = as_said (sets (replicate N 0) 0 (part at N bytes))

pub number16_at_is_one : (bytes : List ℕ) (at : ℕ) → OneAnswer (λ r. r ≡ number_at at 2 bytes)
number16_at_is_one bytes at = as_said (number_at at 2 bytes)

pub number32_at_is_one : (bytes : List ℕ) (at : ℕ) → OneAnswer (λ r. r ≡ number_at at 4 bytes)
number32_at_is_one bytes at = as_said (number_at at 4 bytes)

pub all_are_is_one : (value : ℕ) (bytes : List ℕ) → OneAnswer (λ r. r ≡ all_are value bytes)
all_are_is_one value bytes = as_said (all_are value bytes)

pub are_same_is_one : (some others : List ℕ) → OneAnswer (λ r. r ≡ are_same some others)
are_same_is_one some others = as_said (are_same some others)

pub differing_is_one : (some others : List ℕ) → OneAnswer (λ r. r ≡ differing some others)
differing_is_one some others = as_said (differing some others)

-- ---- octets: bytes stored

pub put_is_one : (area : List ℕ) (at : ℕ) (bytes : List ℕ) → OneAnswer (λ area'. area' ≡ sets area at bytes)
put_is_one area at bytes = as_said (sets area at bytes)

pub put_number_is_one : (area : List ℕ) (at width number : ℕ) → OneAnswer (λ area'. area' ≡ sets area at (bytes_of width number))
put_number_is_one area at width number = as_said (sets area at (bytes_of width number))

pub fill_is_one : (area : List ℕ) (value : ℕ) → OneAnswer (λ area'. area' ≡ replicate (length area) value)
fill_is_one area value = as_said (replicate (length area) value)

-- ---- checksum

pub checksum_of_is_one : (bytes : List ℕ) → OneAnswer (λ r. r ≡ checksum_of bytes)
checksum_of_is_one bytes = as_said (checksum_of bytes)

pub checksum_from_is_one : (earlier : ℕ) (bytes : List ℕ) → OneAnswer (λ r. r ≡ checksum_from earlier bytes)
checksum_from_is_one earlier bytes = as_said (checksum_from earlier bytes)

-- ---- octets: bytes in hex

pub put_hex_is_one : (area : List ℕ) (at : ℕ) (bytes : List ℕ) → OneAnswer (λ area'. area' ≡ sets area at (hex_of bytes))
put_hex_is_one area at bytes = as_said (sets area at (hex_of bytes))

-- ---- octets: numbers in decimal

pub digits_in_is_one : (number : ℕ) → OneAnswer (λ r. r ≡ digits_in number)
digits_in_is_one number = as_said (digits_in number)

pub put_decimal_is_one : (area : List ℕ) (at number : ℕ) → OneAnswer (λ area'. area' ≡ sets area at (decimal_of number))
put_decimal_is_one area at number = as_said (sets area at (decimal_of number))

-- ---- parts

pub mspm0_part_is_one : OneAnswer (λ r. r ≡ mspm0)
mspm0_part_is_one = as_said mspm0

pub am13e230x_part_is_one : OneAnswer (λ r. r ≡ am13e230x)
am13e230x_part_is_one = as_said am13e230x

-- ---- line: packets

pub is_rate_is_one : (last_rate id : ℕ) → OneAnswer (λ r. r ≡ is_rate last_rate id)
is_rate_is_one last_rate id = as_said (is_rate last_rate id)

pub acknowledge_is_one : (last_rate : ℕ) (packet : List ℕ) → OneAnswer (λ r. code_of r ≡ acknowledgement last_rate packet)
acknowledge_is_one last_rate packet one other this that = one_code_one_answer one other (this ∙ sym that)

pub error_code_is_one : (error : FrameError) → OneAnswer (λ r. r ≡ error_code error)
error_code_is_one error = as_said (error_code error)

pub read_command_is_one : (packet : List ℕ) → OneAnswer (λ r. r ≡ command_of packet)
read_command_is_one packet = as_said (command_of packet)

-- ---- line: replies

sent_is_one : (value : Sent) → OneAnswer {A = ℕ × List ℕ} (λ r. sent r.0 r.1 ≡ value)
sent_is_one = given_back (λ r. sent r.0 r.1) (λ s. (s.size, s.area)) (λ r. refl)

pub write_reply_is_one : (reply : Reply) (bytes area : List ℕ) → OneAnswer {A = ℕ × List ℕ} (λ r. sent r.0 r.1 ≡ sent_of (reply_bytes reply bytes) area)
write_reply_is_one reply bytes area = sent_is_one (sent_of (reply_bytes reply bytes) area)

-- ---- session_state

pub is_valid_is_one : (last_rate : ℕ) (standing : Standing) → OneAnswer (λ r. r ≡ is_valid last_rate standing)
is_valid_is_one last_rate standing = as_said (is_valid last_rate standing)

pub rate_of_is_one : (last_rate id : ℕ) → OneAnswer (λ r. r ≡ rate_of last_rate id)
rate_of_is_one last_rate id = as_said (rate_of last_rate id)

-- ---- session_state: time

pub sleep_is_one : (self : Phase) → OneAnswer (λ r. r ≡ sleep_of self)
sleep_is_one phase = as_said (sleep_of phase)

pub pass_time_is_one : (standing : Standing) (wait : ℕ) → OneAnswer (λ r. r ≡ pass_time standing wait)
pass_time_is_one standing wait = as_said (pass_time standing wait)

-- ---- settings: values

pub are_allowed_is_one : (shown : Shown) → OneAnswer (λ r. r ≡ is_allowed shown)
are_allowed_is_one shown = as_said (is_allowed shown)

pub blank_is_one : OneAnswer (λ r. r ≡ blank_settings)
blank_is_one = as_said blank_settings

pub none_is_one : OneAnswer (λ r. r ≡ no_settings)
none_is_one = as_said no_settings

pub blank_kept_is_one : OneAnswer (λ r. r ≡ blank_kept)
blank_kept_is_one = as_said blank_kept

pub none_kept_is_one : OneAnswer (λ r. r ≡ no_kept)
none_kept_is_one = as_said no_kept

-- ---- settings: fields

pub read_fields_is_one : (fields : List ℕ) → OneAnswer (λ r. r ≡ fields_read form1 fields)
read_fields_is_one fields = as_said (fields_read form1 fields)

pub put_fields_is_one : (area : List ℕ) (at : ℕ) (settings : Settings) → OneAnswer (λ area'. area' ≡ sets area at (bodies_of settings))
put_fields_is_one area at settings = as_said (sets area at (bodies_of settings))

pub read_kept_is_one : (fields : List ℕ) → OneAnswer (λ r. r ≡ kept_read fields)
read_kept_is_one fields = as_said (kept_read fields)

pub put_kept_is_one : (area : List ℕ) (at : ℕ) (kept : Kept) → OneAnswer (λ area'. area' ≡ sets area at (kept_bodies kept))
put_kept_is_one area at kept = as_said (sets area at (kept_bodies kept))

-- ---- settings: the image

read_again : (read : Result Contents Refusal) → read_by (numbered (read_told read).number (read_told read).entry) (read_told read).contents ≡ read
unfolding read_by pick
read_again (Ok contents) = refl
read_again (Err why) = read_back _ why

pub read_is_one : (image : List ℕ) → OneAnswer (λ r. read_told r ≡ read_of image)
read_is_one image = given_back read_told (λ told. read_by (numbered told.number told.entry) told.contents) read_again (read_of image)

settings_again : (read : Result Kept Refusal) → read_by (numbered (settings_told read).number (settings_told read).entry) (settings_told read).settings ≡ read
unfolding read_by pick
settings_again (Ok settings) = refl
settings_again (Err why) = read_back _ why

settings_told_is_one : (value : SettingsTold) → OneAnswer (λ r. settings_told r ≡ value)
settings_told_is_one = given_back settings_told (λ told. read_by (numbered told.number told.entry) told.settings) settings_again

pub read_settings_is_one : (image : List ℕ) → OneAnswer (λ r. settings_told r ≡ settings_only (read_of image))
read_settings_is_one image = settings_told_is_one (settings_only (read_of image))

pub accepts_is_one : (image : List ℕ) → OneAnswer (λ r. r ≡ is_accepted image)
accepts_is_one image = as_said (is_accepted image)

pub reseal_is_one : (image : List ℕ) → OneAnswer (λ image'. image' ≡ resealed image)
reseal_is_one image = as_said (resealed image)

pub form_number_is_one : (form : Form) → OneAnswer (λ r. r ≡ (layout_of form).form)
form_number_is_one form = as_said (layout_of form).form

pub numbered_form_is_one : (number : ℕ) → OneAnswer (λ r. Numbers number r)
unfolding is_form_number pick
numbered_form_is_one number (Ok One) (Ok One) this that = refl
numbered_form_is_one number (Ok One) (Ok Two) this that = absurd (omega (arith, this, that))
numbered_form_is_one number (Ok Two) (Ok One) this that = absurd (omega (arith, this, that))
numbered_form_is_one number (Ok Two) (Ok Two) this that = refl
numbered_form_is_one number (Ok One) (Err none) this that = absurd (true≢false (ap is_form_number this ∙ that))
numbered_form_is_one number (Ok Two) (Err none) this that = absurd (true≢false (ap is_form_number this ∙ that))
numbered_form_is_one number (Err none) (Ok One) this that = absurd (true≢false (ap is_form_number that ∙ this))
numbered_form_is_one number (Err none) (Ok Two) this that = absurd (true≢false (ap is_form_number that ∙ this))
numbered_form_is_one number (Err none) (Err other) this that = refl

-- whatever the layout
pub layout_table_is_one : (layout : Layout) → OneAnswer (λ r. r ≡ pairs_of (table_of layout))
layout_table_is_one layout = as_said (pairs_of (table_of layout))

pub check_laid_out_is_one : (layout : Layout) (image : List ℕ) → OneAnswer (λ r. r ≡ checked_laid_out layout image)
check_laid_out_is_one layout image = as_said (checked_laid_out layout image)

pub put_laid_out_is_one : (layout : Layout) (image six name : List ℕ) → OneAnswer (λ image'. image' ≡ laid_out layout six name (length image))
put_laid_out_is_one layout image six name = as_said (laid_out layout six name (length image))

pub write_is_one : (contents : Contents) (image : List ℕ) → OneAnswer {A = Result Unit WriteError × List ℕ} (λ r. write_left (write_number r.0) r.1 ≡ write_of contents image)
write_is_one contents image =
    given_back (λ r. write_left (write_number r.0) r.1) (λ l. (written_by l.number, l.image))
    (λ r. ap (λ answer. (answer, r.1)) (written_back r.0))
    (write_of contents image)

moving_is_one : (value : MoveLeft) → OneAnswer {A = Result Unit MoveError × List ℕ} (λ r. move_left (move_numbered r.0) r.1 ≡ value)
moving_is_one =
    given_back (λ r. move_left (move_numbered r.0) r.1) (λ l. (moved_by l.told, l.image)) (λ r. ap (λ answer. (answer, r.1)) (moved_back r.0))

pub to_form_1_is_one : (image : List ℕ) → OneAnswer {A = Result Unit MoveError × List ℕ} (λ r. move_left (move_numbered r.0) r.1 ≡ moved_to_one image)
to_form_1_is_one image = moving_is_one (moved_to_one image)

pub to_form_2_is_one : (image : List ℕ) → OneAnswer {A = Result Unit MoveError × List ℕ} (λ r. move_left (move_numbered r.0) r.1 ≡ moved_to_two image)
to_form_2_is_one image = moving_is_one (moved_to_two image)

pub move_error_is_one : (refusal : Refusal) → OneAnswer (λ r. r ≡ move_error.Image refusal)
move_error_is_one refusal = as_said (move_error.Image refusal)

-- ---- settings_large

large_read_again : (read : Result LargeContents Refusal)
    → read_by (numbered (large_reader.read_told read).number (large_reader.read_told read).entry) (large_reader.read_told read).contents ≡ read
unfolding read_by pick
large_read_again (Ok contents) = refl
large_read_again (Err why) = read_back _ why

pub large_read_is_one : (image : List ℕ) → OneAnswer (λ r. large_reader.read_told r ≡ large_reader.read_of image)
large_read_is_one image =
    given_back large_reader.read_told (λ told. read_by (numbered told.number told.entry) told.contents) large_read_again (large_reader.read_of image)

pub large_read_settings_is_one : (image : List ℕ) → OneAnswer (λ r. settings_told r ≡ large_reader.settings_only (large_reader.read_of image))
large_read_settings_is_one image = settings_told_is_one (large_reader.settings_only (large_reader.read_of image))

pub large_write_is_one : (contents : LargeContents) (image : List ℕ)
    → OneAnswer {A = Result Unit LargeWriteError × List ℕ} (λ r. write_left (large_writer.write_number r.0) r.1 ≡ large_writer.write_of contents image)
large_write_is_one contents image =
    given_back (λ r. write_left (large_writer.write_number r.0) r.1) (λ l. (large_written_by l.number, l.image))
    (λ r. ap (λ answer. (answer, r.1)) (large_written_back r.0))
    (large_writer.write_of contents image)

-- ---- settings_mend

pub examine_is_one : (image : List ℕ) → OneAnswer (λ r. r ≡ examined_of image)
examine_is_one image = as_said (examined_of image)

pub mend_is_one : (image : List ℕ) → OneAnswer {A = Result Changes MendError × List ℕ} (λ r. mend_left (mend_told r.0) r.1 ≡ mend_of image)
mend_is_one image =
    given_back (λ r. mend_left (mend_told r.0) r.1) (λ l. (mended_by l.told, l.image)) (λ r. ap (λ answer. (answer, r.1)) (mended_back r.0))
    (mend_of image)

-- ---- flash: regions

pub is_main_size_is_one : (part : Part) (size : ℕ) → OneAnswer (λ r. r ≡ is_main_size part size)
is_main_size_is_one part size = as_said (is_main_size part size)

pub locate_is_one : (part : Part) (main_size : ℕ) (protection : List ℕ) (settings_protected first count : ℕ)
    → OneAnswer (λ r. r ≡ place_of part main_size protection settings_protected first count)
locate_is_one part main_size protection settings_protected first count = as_said (place_of part main_size protection settings_protected first count)

-- of the slice that comes back, the bytes
pub bytes_in_is_one : (region : Region) (offset size : ℕ) (areas : Areas) → OneAnswer (λ r. r ≡ bytes_in offset size (memory_in areas) region)
bytes_in_is_one region offset size areas = as_said (bytes_in offset size (memory_in areas) region)

-- ---- flash: sectors

pub erase_between_is_one : (memory : List ℕ) (sectors : Sectors) (start end : ℕ)
    → OneAnswer (λ memory'. memory' ≡ erase_of sectors.size sectors.protection.now (start / sectors.size) (end / sectors.size) memory)
erase_between_is_one memory sectors start end =
    as_said (erase_of sectors.size sectors.protection.now (start / sectors.size) (end / sectors.size) memory)

pub erase_all_is_one : (memory : List ℕ) (sectors : Sectors) → OneAnswer (λ memory'. memory' ≡ erase_all_of sectors.size sectors.protection.now memory)
erase_all_is_one memory sectors = as_said (erase_all_of sectors.size sectors.protection.now memory)

-- ---- flash: programming

pub program_is_one : (memory : List ℕ) (sectors : Sectors) (at : ℕ) (bytes : List ℕ)
    → OneAnswer (λ memory'. memory' ≡ program_of sectors.size sectors.protection.now at bytes memory)
program_is_one memory sectors at bytes = as_said (program_of sectors.size sectors.protection.now at bytes memory)

-- ---- session: its start

start_again : (started : Result Session StartError) → started_by (start_told started).answer (start_told started).session ≡ started
unfolding started_by pick
start_again (Ok session) = refl
start_again (Err error) = started_back _ error

pub start_is_one : (part : Part) (fuse : Bool) (main image window : List ℕ) → OneAnswer (λ r. start_told r ≡ start_of part fuse main image window)
start_is_one part fuse main image window =
    given_back start_told (λ told. started_by told.answer told.session) start_again (start_of part fuse main image window)

pub start_error_is_one : (refusal : Refusal) → OneAnswer (λ r. r ≡ start_error.Image refusal)
start_error_is_one refusal = as_said (start_error.Image refusal)

-- ---- session_judge

pub judge_is_one : (last_rate : ℕ) (standing : Standing) (alert wait : ℕ) (packet : List ℕ) (right : Bool) → OneAnswer (λ r. r ≡ judged_of last_rate standing alert wait packet right)
judge_is_one last_rate standing alert wait packet right = as_said (judged_of last_rate standing alert wait packet right)

-- ---- session_act

pub planned_is_one : (reply : Reply) → OneAnswer (λ r. r ≡ says reply)
planned_is_one reply = as_said (says reply)

pub plan_is_one : (site : Site) (effect : Effect) (right : Bool) (areas : Areas) → OneAnswer (λ r. r ≡ plan_on (board_in site) right (memory_in areas) effect)
plan_is_one site effect right areas = as_said (plan_on (board_in site) right (memory_in areas) effect)

pub carry_out_is_one : (site : Site) (order : Order) (packet main image window : List ℕ)
    → OneAnswer {A = List ℕ × List ℕ × List ℕ} (λ r. memory r.0 r.1 r.2 ≡ carried_out site.part site.shown site.protection.now packet (memory main image window) order)
carry_out_is_one site order packet main image window =
    given_back (λ r. memory r.0 r.1 r.2) (λ after. (after.main, after.settings, after.window)) (λ r. refl)
    (carried_out site.part site.shown site.protection.now packet (memory main image window) order)

-- ---- session_send

pub answer_is_one : (reply : Reply) (region : Region) (offset count : ℕ) (packet : List ℕ) (areas : Areas) (area : List ℕ)
    → OneAnswer {A = ℕ × List ℕ} (λ r. sent r.0 r.1 ≡ answer_of reply region offset count packet (memory_in areas) area)
answer_is_one reply region offset count packet areas area = sent_is_one (answer_of reply region offset count packet (memory_in areas) area)

-- ---- session: its calls

abbrev call_back : Left → Result Called CallError
call_back l = called_by l.answer.number (record { session = l.session; size = l.answer.size; burn = l.answer.burn })

abbrev call_parts : Left → Result Called CallError × Memory × List ℕ
call_parts l = (call_back l, l.memory, l.area)

call_again : (session : Session) (called : Result Called CallError) (main image window area : List ℕ)
    → ◌≡◌ {A = Result Called CallError × Memory × List ℕ} (call_parts (call_left session called (memory main image window) area)) (called, memory main image window, area)
unfolding called_by pick
call_again session (Ok called) main image window area = refl
call_again session (Err error) main image window area = ap (λ (r : Result Called CallError). (r, memory main image window, area)) (called_back _ error)

pub call_is_one : (part : Part) (session : Session) (main image window : List ℕ) (wait : ℕ) (packet area : List ℕ)
    → OneAnswer {A = Result Called CallError × List ℕ × List ℕ × List ℕ × List ℕ}
    (λ r. call_left session r.0 (memory r.1 r.2 r.3) r.4 ≡ call_of part session (memory main image window) wait packet area)
call_is_one part session main image window wait packet area =
    given_back (λ r. call_left session r.0 (memory r.1 r.2 r.3) r.4)
    (λ l. (call_back l, l.memory.main, l.memory.settings, l.memory.window, l.area))
    (λ r. ap (λ (l : Result Called CallError × Memory × List ℕ). (l.0, l.1.main, l.1.settings, l.1.window, l.2)) (call_again session r.0 r.1 r.2 r.3 r.4))
    (call_of part session (memory main image window) wait packet area)

-- ---- mspm0

pub mspm0_start_is_one : (fuse : Bool) (main image window : List ℕ) → OneAnswer (λ r. start_told r ≡ start_of mspm0 fuse main image window)
mspm0_start_is_one = start_is_one mspm0

pub mspm0_call_is_one : (session : Session) (main image window : List ℕ) (wait : ℕ) (packet area : List ℕ)
    → OneAnswer {A = Result Called CallError × List ℕ × List ℕ × List ℕ × List ℕ}
    (λ r. call_left session r.0 (memory r.1 r.2 r.3) r.4 ≡ call_of mspm0 session (memory main image window) wait packet area)
mspm0_call_is_one = call_is_one mspm0

-- ---- am13e230x

pub am13e230x_start_is_one : (fuse : Bool) (main image : List ℕ) → OneAnswer (λ r. start_told r ≡ start_of am13e230x fuse main image [])
am13e230x_start_is_one fuse main image = start_is_one am13e230x fuse main image []

pub am13e230x_call_is_one : (session : Session) (main image : List ℕ) (wait : ℕ) (packet area : List ℕ)
    → OneAnswer {A = Result Called CallError × List ℕ × List ℕ × List ℕ}
    (λ r. call_left session r.0 (memory r.1 r.2 []) r.3 ≡ call_of am13e230x session (memory main image []) wait packet area)
am13e230x_call_is_one session main image wait packet area =
    given_back (λ r. call_left session r.0 (memory r.1 r.2 []) r.3)
    (λ l. (call_back l, l.memory.main, l.memory.settings, l.area))
    (λ r. ap (λ (l : Result Called CallError × Memory × List ℕ). (l.0, l.1.main, l.1.settings, l.2)) (call_again session r.0 r.1 r.2 [] r.3))
    (call_of am13e230x session (memory main image []) wait packet area)

-- ---- session_in_place

in_place_start_again : (started : Result Unit StartError) → started_by (in_place.start_told started) tt ≡ started
unfolding started_by pick
in_place_start_again (Ok done) = refl
in_place_start_again (Err error) = started_back _ error

pub in_place_start_is_one : (session : Session) (fuse : Bool) (main image window : List ℕ)
    → OneAnswer {A = Result Unit StartError × Session} (λ r. start_left (in_place.start_told r.0) r.1 ≡ start_in_place session fuse main image window)
in_place_start_is_one session fuse main image window =
    given_back (λ r. start_left (in_place.start_told r.0) r.1) (λ told. (started_by told.answer tt, told.session))
    (λ r. ap (λ answer. (answer, r.1)) (in_place_start_again r.0))
    (start_in_place session fuse main image window)

in_place_call_again : (done : Result Done CallError) → called_by (done_told done).number (record { size = (done_told done).size; burn = (done_told done).burn }) ≡ done
unfolding called_by pick
in_place_call_again (Ok done) = refl
in_place_call_again (Err error) = called_back _ error

pub in_place_call_is_one : (session : Session) (main image window : List ℕ) (wait : ℕ) (packet area : List ℕ)
    → OneAnswer {A = Result Done CallError × Session × List ℕ × List ℕ × List ℕ × List ℕ}
    (λ r. left (done_told r.0) r.1 (memory r.2 r.3 r.4) r.5 ≡ call_of mspm0 session (memory main image window) wait packet area)
in_place_call_is_one session main image window wait packet area =
    given_back (λ r. left (done_told r.0) r.1 (memory r.2 r.3 r.4) r.5)
    (λ l. (called_by l.answer.number (record { size = l.answer.size; burn = l.answer.burn }), l.session, l.memory.main, l.memory.settings, l.memory.window, l.area))
    (λ r. ap (λ answer. (answer, r.1, r.2, r.3, r.4, r.5)) (in_place_call_again r.0))
    (call_of mspm0 session (memory main image window) wait packet area)

-- ---- c_records: numbers

pub of_refusal_is_one : (refusal : Refusal) → OneAnswer (λ r. r ≡ refusal_of (refusal_numbered refusal))
of_refusal_is_one refusal = as_said (refusal_of (refusal_numbered refusal))

-- ---- c_records: settings and rates

pub rate_by_id_is_one : (part : Part) (id : ℕ) → OneAnswer (λ r. r ≡ rig.rate_from_c part id)
rate_by_id_is_one part id = as_said (rig.rate_from_c part id)

stored_is_one : (value : Stored) → OneAnswer {A = ℕ × List ℕ} (λ r. stored r.0 r.1 ≡ value)
stored_is_one = given_back (λ r. stored r.0 r.1) (λ s. (s.answer, s.area)) (λ r. refl)

pub read_image_is_one : (image fields : List ℕ) → OneAnswer {A = ℕ × List ℕ} (λ r. stored r.0 r.1 ≡ read_from_c image fields)
read_image_is_one image fields = stored_is_one (read_from_c image fields)

pub write_image_is_one : (fields image : List ℕ) → OneAnswer {A = ℕ × List ℕ} (λ r. stored r.0 r.1 ≡ write_from_c fields image)
write_image_is_one fields image = stored_is_one (write_from_c fields image)

pub move_to_form_1_is_one : (image : List ℕ) → OneAnswer {A = ℕ × List ℕ} (λ r. stored r.0 r.1 ≡ to_one_from_c image)
move_to_form_1_is_one image = stored_is_one (to_one_from_c image)

pub move_to_form_2_is_one : (image : List ℕ) → OneAnswer {A = ℕ × List ℕ} (λ r. stored r.0 r.1 ≡ to_two_from_c image)
move_to_form_2_is_one image = stored_is_one (to_two_from_c image)

pub mend_image_is_one : (image counts : List ℕ) → OneAnswer {A = ℕ × List ℕ × List ℕ} (λ r. mend_stored r.0 r.1 r.2 ≡ mend_from_c image counts)
mend_image_is_one image counts =
    given_back (λ r. mend_stored r.0 r.1 r.2) (λ s. (s.answer, s.image, s.counts)) (λ r. refl) (mend_from_c image counts)

pub read_large_image_is_one : (image fields : List ℕ) → OneAnswer {A = ℕ × List ℕ} (λ r. stored r.0 r.1 ≡ read_large_from_c image fields)
read_large_image_is_one image fields = stored_is_one (read_large_from_c image fields)

pub write_large_image_is_one : (fields image : List ℕ) → OneAnswer {A = ℕ × List ℕ} (λ r. stored r.0 r.1 ≡ write_large_from_c fields image)
write_large_image_is_one fields image = stored_is_one (write_large_from_c fields image)

-- ---- c_records: sessions

pub start_record_is_one : (part : Part) (fuse : ℕ) (main settings window area : List ℕ)
    → OneAnswer {A = ℕ × List ℕ} (λ r. stored r.0 r.1 ≡ rig.start_from_c part fuse main settings window area)
start_record_is_one part fuse main settings window area = stored_is_one (rig.start_from_c part fuse main settings window area)

pub call_record_is_one : (part : Part) (area main settings window : List ℕ) (wait : ℕ) (packet reply : List ℕ)
    → OneAnswer {A = ℕ × List ℕ × List ℕ × List ℕ × List ℕ × List ℕ}
    (λ r. rig.called r.0 r.1 (memory r.2 r.3 r.4) r.5 ≡ rig.call_from_c part area (memory main settings window) wait packet reply)
call_record_is_one part area main settings window wait packet reply =
    given_back (λ r. rig.called r.0 r.1 (memory r.2 r.3 r.4) r.5)
    (λ l. (l.answer, l.area, l.memory.main, l.memory.settings, l.memory.window, l.reply)) (λ r. refl)
    (rig.call_from_c part area (memory main settings window) wait packet reply)

-- ---- c_mspm0

pub bhorelmu_rate_is_one : (id : ℕ) → OneAnswer (λ r. r ≡ rig.rate_from_c mspm0 id)
bhorelmu_rate_is_one = rate_by_id_is_one mspm0

pub bhorelmu_settings_read_is_one : (image fields : List ℕ) → OneAnswer {A = ℕ × List ℕ} (λ r. stored r.0 r.1 ≡ read_from_c image fields)
bhorelmu_settings_read_is_one = read_image_is_one

pub bhorelmu_settings_write_is_one : (fields image : List ℕ) → OneAnswer {A = ℕ × List ℕ} (λ r. stored r.0 r.1 ≡ write_from_c fields image)
bhorelmu_settings_write_is_one = write_image_is_one

pub bhorelmu_settings_to_form_2_is_one : (image : List ℕ) → OneAnswer {A = ℕ × List ℕ} (λ r. stored r.0 r.1 ≡ to_two_from_c image)
bhorelmu_settings_to_form_2_is_one = move_to_form_2_is_one

pub bhorelmu_settings_to_form_1_is_one : (image : List ℕ) → OneAnswer {A = ℕ × List ℕ} (λ r. stored r.0 r.1 ≡ to_one_from_c image)
bhorelmu_settings_to_form_1_is_one = move_to_form_1_is_one

pub bhorelmu_settings_mend_is_one : (image counts : List ℕ) → OneAnswer {A = ℕ × List ℕ × List ℕ} (λ r. mend_stored r.0 r.1 r.2 ≡ mend_from_c image counts)
bhorelmu_settings_mend_is_one = mend_image_is_one

pub bhorelmu_start_is_one : (fuse : ℕ) (main settings window area : List ℕ)
    → OneAnswer {A = ℕ × List ℕ} (λ r. stored r.0 r.1 ≡ rig.start_from_c mspm0 fuse main settings window area)
bhorelmu_start_is_one = start_record_is_one mspm0

pub bhorelmu_call_is_one : (area main settings window : List ℕ) (wait : ℕ) (packet reply : List ℕ)
    → OneAnswer {A = ℕ × List ℕ × List ℕ × List ℕ × List ℕ × List ℕ}
    (λ r. rig.called r.0 r.1 (memory r.2 r.3 r.4) r.5 ≡ rig.call_from_c mspm0 area (memory main settings window) wait packet reply)
bhorelmu_call_is_one = call_record_is_one mspm0

-- ---- c_am13e230x

pub bhorelmu_am13e230x_rate_is_one : (id : ℕ) → OneAnswer (λ r. r ≡ rig.rate_from_c am13e230x id)
bhorelmu_am13e230x_rate_is_one = rate_by_id_is_one am13e230x

pub bhorelmu_am13e230x_settings_read_is_one : (image fields : List ℕ) → OneAnswer {A = ℕ × List ℕ} (λ r. stored r.0 r.1 ≡ read_large_from_c image fields)
bhorelmu_am13e230x_settings_read_is_one = read_large_image_is_one

pub bhorelmu_am13e230x_settings_write_is_one : (fields image : List ℕ) → OneAnswer {A = ℕ × List ℕ} (λ r. stored r.0 r.1 ≡ write_large_from_c fields image)
bhorelmu_am13e230x_settings_write_is_one = write_large_image_is_one

pub bhorelmu_am13e230x_start_is_one : (fuse : ℕ) (main settings area : List ℕ)
    → OneAnswer {A = ℕ × List ℕ} (λ r. stored r.0 r.1 ≡ rig.start_from_c am13e230x fuse main settings [] area)
bhorelmu_am13e230x_start_is_one fuse main settings area = start_record_is_one am13e230x fuse main settings [] area

pub bhorelmu_am13e230x_call_is_one : (area main settings : List ℕ) (wait : ℕ) (packet reply : List ℕ)
    → OneAnswer {A = ℕ × List ℕ × List ℕ × List ℕ × List ℕ}
    (λ r. rig.called r.0 r.1 (memory r.2 r.3 []) r.4 ≡ rig.call_from_c am13e230x area (memory main settings []) wait packet reply)
bhorelmu_am13e230x_call_is_one area main settings wait packet reply =
    given_back (λ r. rig.called r.0 r.1 (memory r.2 r.3 []) r.4)
    (λ l. (l.answer, l.area, l.memory.main, l.memory.settings, l.reply)) (λ r. refl)
    (rig.call_from_c am13e230x area (memory main settings []) wait packet reply)

-- ---- runner_text: scripts

pub read_script_is_one : (script : List ℕ) → OneAnswer (λ r. script_told r ≡ script_of script)
read_script_is_one script = given_back script_told script_by script_back (script_of script)

pub wait_of_is_one : (script : List ℕ) (index : ℕ) → OneAnswer (λ r. r ≡ wait_in script index)
wait_of_is_one script index = as_said (wait_in script index)

-- of the slice that comes back, the bytes
pub packet_of_is_one : (script : List ℕ) (index : ℕ) → OneAnswer (λ r. r ≡ packet_in script index)
packet_of_is_one script index = as_said (packet_in script index)

-- ---- runner_text: lines

line_is_one : (value : Written) → OneAnswer {A = ℕ × List ℕ} (λ r. written r.0 r.1 ≡ value)
line_is_one = given_back (λ r. written r.0 r.1) (λ w. (w.size, w.area)) (λ r. refl)

pub write_line_is_one : (number : ℕ) (reply area : List ℕ) → OneAnswer {A = ℕ × List ℕ} (λ r. written r.0 r.1 ≡ written_of (line_of number reply) area)
write_line_is_one number reply area = line_is_one (written_of (line_of number reply) area)

-- ---- runner_text: the end line

pub write_end_is_one : (phase : Phase) (tries : ℕ) (area : List ℕ) → OneAnswer {A = ℕ × List ℕ} (λ r. written r.0 r.1 ≡ written_of (end_of phase tries) area)
write_end_is_one phase tries area = line_is_one (written_of (end_of phase tries) area)
