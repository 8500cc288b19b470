-- 01, Numbers of refused calls, "Start checks 1-8", and T-05's 11: what start leaves, where the record is lent.
use Rattle.std.specs.Prelude.{ℕ, Bool, List, eqb, Result, Ok, Err}
use Rattle.octets.specs.Choice.{pick}
use Rattle.parts.specs.Parts.{mspm0}
use Rattle.settings.specs.Answers.{Numbered, numbered}
use Rattle.session.specs.declared.Session.{Session}
use Rattle.session.specs.declared.StartError.{StartError}
use Rattle.session.specs.StartAnswers.{StartTold, start_numbered}
use Rattle.session.specs.Starting.{start_of}

-- the number of its answer, and what goes with it
abbrev pub start_told : Result Unit StartError → Numbered
start_told (Ok done) = numbered 0 0
start_told (Err error) = start_numbered error

-- all that start leaves: its answer, and the record
abbrev pub start_left : Numbered → Session → StartTold
start_left answer session = record { answer = answer; session = session }

-- "each changes nothing lent": a refused start leaves the record as it was
abbrev pub kept : Session → StartTold → StartTold
kept session told = pick (eqb told.answer.number 0) told (start_left told.answer session)

-- "keeps one session record and hands it to each call to be updated"
unfoldable pub start_in_place : Session → Bool → List ℕ → List ℕ → List ℕ → StartTold
start_in_place session fuse main settings window = kept session (start_of mspm0 fuse main settings window)
