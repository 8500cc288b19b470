-- 01, Numbers of refused calls: the number of each error of start, and what goes with it.
use Rattle.settings.specs.Answers.{Numbered, numbered, refusal_numbered}
use Rattle.session.specs.declared.Session.{Session}
use Rattle.session.specs.declared.StartError.{StartError}
use Rattle.session.specs.declared.StartError.TheVariants as start

-- "Start checks 1-8": "1 the board's disabled fuse is set; 2 MAIN size outside the rule", and then as the settings reader; T-05: "11, window
-- not 3,456 bytes, after 3 at start"
abbrev pub start_numbered : StartError → Numbered
start_numbered start.FuseSet = numbered 1 0
start_numbered start.MainSizeWrong = numbered 2 0
start_numbered start.WindowSizeWrong = numbered 11 0
start_numbered (start.Image refusal) = refusal_numbered refusal

-- all that start tells
pub record StartTold : Type 0 where
  pub answer : Numbered
  pub session : Session
