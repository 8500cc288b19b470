-- 01, Phases and waits, Start; Numbers of refused calls, "Start checks 1-8".
use Rattle.std.specs.Prelude.{ℕ, Bool, not, List, eqb, length, Result, Ok, Err}
use Rattle.octets.specs.Choice.{pick}
use Rattle.parts.specs.declared.Part.{Part}
use Rattle.session_state.specs.Phases.{at_start}
use Rattle.settings.specs.Held.{Kept}
use Rattle.settings.specs.Kept.{no_kept}
use Rattle.settings.specs.Answers.{SettingsTold, settings_only, numbered}
use Rattle.settings.specs.Reader.{read_of}
use Rattle.settings_large.specs.Image.{large_size}
use Rattle.settings_large.specs.Reader as larger
use Rattle.session.specs.declared.Session.{Session}
use Rattle.flash.specs.Regions.{is_main_size}
use Rattle.session.specs.declared.StartError.{StartError}
use Rattle.session.specs.StartAnswers.{StartTold, start_numbered}

-- "Start gives detect, idle 0, sleep 0, wrong count 0, rate id 2. Settings are taken at start; later writes to the settings flash count from
-- the next start."
abbrev pub session_of : ℕ → Kept → Session
session_of main_size settings = record { standing = at_start; main_size = main_size; settings = settings }

-- what stands beside a refusal in these definitions: no valid record, so that every call refuses it
abbrev pub no_session : Session
no_session = session_of 0 no_kept

abbrev pub start_refused : ℕ → ℕ → StartTold
start_refused number entry = record { answer = numbered number entry; session = no_session }

-- what a start tells: a session has the number 0
abbrev pub start_told : Result Session StartError → StartTold
start_told (Ok session) = record { answer = numbered 0 0; session = session }
start_told (Err error) = start_refused (start_numbered error).number (start_numbered error).entry

-- 3 to 8, as the settings reader has them; T-09: "Boards start from both forms.", and a session keeps neither form nor name
unfoldable pub start_read : ℕ → SettingsTold → StartTold
start_read main_size told =
    pick (eqb told.number 0)
    (record { answer = numbered 0 0; session = session_of main_size told.settings })
    (start_refused told.number told.entry)

-- what a start takes of an image, which its size tells: one of 2,048 bytes is the larger part's
unfoldable pub settings_read : List ℕ → SettingsTold
settings_read image = pick (eqb (length image) large_size) (larger.settings_only (larger.read_of image)) (settings_only (read_of image))

-- "1 the board's disabled fuse is set; 2 MAIN size outside the rule; 3 settings area not 1,024 bytes", T-10: "3, settings area not 2,048 bytes";
-- T-05: "11, window not 3,456 bytes, after 3 at start", then 4 to 8. Of the window only the size is looked at.
unfoldable pub start_of : Part → Bool → List ℕ → List ℕ → List ℕ → StartTold
start_of part fuse main settings window =
    pick fuse (start_refused 1 0)
    (pick (not (is_main_size part (length main))) (start_refused 2 0)
    (pick (not (eqb (length settings) part.settings_size)) (start_refused 3 0)
    (pick (not (eqb (length window) part.window_size)) (start_refused 11 0)
    (start_read (length main) (settings_read settings)))))
