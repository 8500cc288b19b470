-- 01, Numbers of refused calls: a number, and what goes with it, gives the answer back. So the numbers tell every two answers apart.
use Rattle.std.specs.Prelude.{Option, Some, None, Result, Ok, Err}
use mathlib.Core.Path.{◌≡◌, refl, ap, ◌∙◌}
use Prim.Native.Nat.{ℕ}
use lib.Dec.{eqb}
use Rattle.octets.specs.Choice.{pick}
use Rattle.settings.specs.declared.Refusal.{Refusal}
use Rattle.settings.specs.declared.Refusal.TheVariants as refusal
use Rattle.settings.specs.declared.WriteError.{WriteError}
use Rattle.settings.specs.declared.WriteError.TheVariants as write
use Rattle.settings.specs.declared.MoveError.{MoveError}
use Rattle.settings.specs.declared.MoveError.TheVariants as move
use Rattle.settings.specs.Answers.{Numbered, refusal_numbered, write_number, move_numbered}
use Rattle.settings.proofs.ReaderLaws.{refuses}
use Rattle.settings_large.specs.declared.LargeWriteError.{LargeWriteError}
use Rattle.settings_large.specs.declared.LargeWriteError.TheVariants as large
use Rattle.settings_large.specs.Writer as large_writer
use Rattle.settings_mend.specs.declared.Changes.{Changes}
use Rattle.settings_mend.specs.declared.MendError.{MendError}
use Rattle.settings_mend.specs.declared.MendError.TheVariants as mend
use Rattle.settings_mend.specs.Mending.{MendTold, mend_told}
use Rattle.session.specs.declared.StartError.{StartError}
use Rattle.session.specs.declared.StartError.TheVariants as start
use Rattle.session.specs.declared.CallError.{CallError}
use Rattle.session.specs.declared.CallError.TheVariants as call
use Rattle.session.specs.StartAnswers.{start_numbered}
use Rattle.session.specs.CallAnswers.{call_numbered}
use Rattle.runner_text.specs.Form.{Told, script_told}

-- ---- the settings reader

unfoldable pub refused_by : Numbered → Refusal
refused_by told =
    pick (eqb told.number 3) refusal.SizeWrong
    (pick (eqb told.number 4) refusal.ChecksumDiffers
    (pick (eqb told.number 5) refusal.FormUnknown
    (pick (eqb told.number 6) (refusal.EntryDiffers told.entry)
    (pick (eqb told.number 7) refusal.FillerDiffers
    refusal.ValueNotAllowed))))

refused_back : (why : Refusal) → refused_by (refusal_numbered why) ≡ why
unfolding refused_by pick
refused_back refusal.SizeWrong = refl
refused_back refusal.ChecksumDiffers = refl
refused_back refusal.FormUnknown = refl
refused_back (refusal.EntryDiffers entry) = refl
refused_back refusal.FillerDiffers = refl
refused_back refusal.ValueNotAllowed = refl

-- beside a value, which a refusal has not
unfoldable pub read_by : {A : Type 0} → Numbered → A → Result A Refusal
read_by told value = pick (eqb told.number 0) (Ok value) (Err (refused_by told))

pub read_back : {A : Type 0} (value : A) (why : Refusal) → read_by (refusal_numbered why) value ≡ Err why
unfolding read_by pick
read_back value why = rw (refuses why, refused_back why)

-- ---- the settings writer

unfoldable pub written_by : ℕ → Result Unit WriteError
written_by number =
    pick (eqb number 3) (Err write.SizeWrong) (pick (eqb number 8) (Err write.ValueNotAllowed) (pick (eqb number 41) (Err write.NameNotEmpty) (Ok tt)))

pub written_back : (written : Result Unit WriteError) → written_by (write_number written) ≡ written
unfolding written_by pick
written_back (Ok done) = refl
written_back (Err write.SizeWrong) = refl
written_back (Err write.ValueNotAllowed) = refl
written_back (Err write.NameNotEmpty) = refl

-- that of the larger part
unfoldable pub large_written_by : ℕ → Result Unit LargeWriteError
large_written_by number =
    pick (eqb number 3) (Err large.SizeWrong) (pick (eqb number 5) (Err large.FormUnknown) (pick (eqb number 8) (Err large.ValueNotAllowed) (Ok tt)))

pub large_written_back : (written : Result Unit LargeWriteError) → large_written_by (large_writer.write_number written) ≡ written
unfolding large_written_by pick
large_written_back (Ok done) = refl
large_written_back (Err large.SizeWrong) = refl
large_written_back (Err large.FormUnknown) = refl
large_written_back (Err large.ValueNotAllowed) = refl

-- ---- the moves

unfoldable pub moved_by : Numbered → Result Unit MoveError
moved_by told = pick (eqb told.number 0) (Ok tt) (pick (eqb told.number 41) (Err move.NameNotEmpty) (Err (move.Image (refused_by told))))

-- a refused image has none of the other numbers
move_refused_back : (why : Refusal) → moved_by (refusal_numbered why) ≡ Err (move.Image (refused_by (refusal_numbered why)))
unfolding moved_by pick
move_refused_back refusal.SizeWrong = refl
move_refused_back refusal.ChecksumDiffers = refl
move_refused_back refusal.FormUnknown = refl
move_refused_back (refusal.EntryDiffers entry) = refl
move_refused_back refusal.FillerDiffers = refl
move_refused_back refusal.ValueNotAllowed = refl

pub moved_back : (moved : Result Unit MoveError) → moved_by (move_numbered moved) ≡ moved
unfolding moved_by pick
moved_back (Ok done) = refl
moved_back (Err (move.Image why)) = move_refused_back why ∙ ap (λ why. Err (move.Image why)) (refused_back why)
moved_back (Err move.NameNotEmpty) = refl

-- ---- mending

unfoldable pub mended_by : MendTold → Result Changes MendError
mended_by told = pick (eqb told.number 3) (Err mend.SizeWrong) (pick (eqb told.number 5) (Err mend.FormTwo) (Ok told.changes))

pub mended_back : (mended : Result Changes MendError) → mended_by (mend_told mended) ≡ mended
unfolding mended_by pick
mended_back (Ok changes) = refl
mended_back (Err mend.SizeWrong) = refl
mended_back (Err mend.FormTwo) = refl

-- ---- start

unfoldable pub started_by : {A : Type 0} → Numbered → A → Result A StartError
started_by told value =
    pick (eqb told.number 0) (Ok value)
    (pick (eqb told.number 1) (Err start.FuseSet)
    (pick (eqb told.number 2) (Err start.MainSizeWrong)
    (pick (eqb told.number 11) (Err start.WindowSizeWrong)
    (Err (start.Image (refused_by told))))))

-- a refused image has none of the numbers before 3, and not 11
image_refused_back : {A : Type 0} (value : A) (why : Refusal) → started_by (refusal_numbered why) value ≡ Err (start.Image (refused_by (refusal_numbered why)))
unfolding started_by pick
image_refused_back value refusal.SizeWrong = refl
image_refused_back value refusal.ChecksumDiffers = refl
image_refused_back value refusal.FormUnknown = refl
image_refused_back value (refusal.EntryDiffers entry) = refl
image_refused_back value refusal.FillerDiffers = refl
image_refused_back value refusal.ValueNotAllowed = refl

pub started_back : {A : Type 0} (value : A) (error : StartError) → started_by (start_numbered error) value ≡ Err error
unfolding started_by pick
started_back value start.FuseSet = refl
started_back value start.MainSizeWrong = refl
started_back value start.WindowSizeWrong = refl
started_back value (start.Image why) = image_refused_back value why ∙ ap (λ why. Err (start.Image why)) (refused_back why)

-- ---- a call

unfoldable pub called_by : {A : Type 0} → ℕ → A → Result A CallError
called_by number value =
    pick (eqb number 9) (Err call.ReplyAreaTooSmall)
    (pick (eqb number 11) (Err call.WindowSizeWrong)
    (pick (eqb number 10) (Err call.RecordNotValid)
    (Ok value)))

pub called_back : {A : Type 0} (value : A) (error : CallError) → called_by (call_numbered error).number value ≡ Err error
unfolding called_by pick
called_back value call.ReplyAreaTooSmall = refl
called_back value call.WindowSizeWrong = refl
called_back value call.RecordNotValid = refl

-- ---- script::read_script

pub script_by : Told → Option ℕ
script_by told = pick told.good (Some told.count) None

pub script_back : (script : Option ℕ) → script_by (script_told script) ≡ script
unfolding script_by pick
script_back (Some count) = refl
script_back None = refl
