-- T-12, sentence by sentence: what is asked of two boards and of a history, and what is claimed.
use Rattle.std.specs.Prelude.{ℕ, ◌/◌, ◌≤◌, ◌<◌, ◌≡◌, false, List, [], ◌∷◌, length}
use Rattle.parts.specs.declared.Part.{Part}
use Rattle.line.specs.Codes.{reply_limit}
use Rattle.session_state.specs.Phases.{is_unlocked}
use Rattle.settings.specs.Answers.{Numbered}
use Rattle.flash.specs.Protection.{is_protected}
use Rattle.session_judge.specs.Unlocking.{alert_reset}
use Rattle.claims.specs.TwoBoards.{Images, settings_of, AlikeBoards, Carries, Sending}
use Rattle.claims.specs.Visits.{Seen}
use Rattle.claims_restarts.specs.Moves.{Move, start, send, cut, Sight, nothing, of_start, of_call, seen_after, chosen, SeenAlike, AlikeToPerson, Throughout}
use Rattle.claims_restarts.specs.Boards.{port_one, port_other, is_over}

-- ---- what is asked of a move

-- "no Unlock carries either board's password"
pub record NoPassword (part : Part) (one other : Images) (sending : Sending) : Type 0 where
  pub not_one : Carries part sending.packet (settings_of one).password → ⊥
  pub not_other : Carries part sending.packet (settings_of other).password → ⊥

abbrev pub Without : Part → Images → Images → Move → Type 0
Without part one other (start starting) = Unit
Without part one other (send sending) = NoPassword part one other sending
Without part one other (cut sending erased) = NoPassword part one other sending

-- as in demand 3, "with reply areas large enough"
pub record Room (sending : Sending) : Type 0 where
  pub one : reply_limit ≤ length sending.one_area
  pub other : reply_limit ≤ length sending.other_area

abbrev pub Roomy : Move → Type 0
Roomy (start starting) = Unit
Roomy (send sending) = Room sending
Roomy (cut sending erased) = Unit

-- "Through the end of the session in which the alert first strikes (of all, if it never does), no Unlock carries either board's password."
abbrev pub WithoutUntilOver : Part → Images → Images → List Move → Type 0
WithoutUntilOver part one other [] = Unit
WithoutUntilOver part one other (move ∷ earlier) =
    (is_over part one earlier ≡ false → Without part one other move) × WithoutUntilOver part one other earlier

-- ---- the question

-- "no sector and no settings protected"; bits for sectors beyond MAIN are free
abbrev pub OpenSectors : Part → Images → Type 0
OpenSectors part images =
    (place : ℕ) → place < length images.main → is_protected (settings_of images).protection (place / part.sector_size) ≡ false

abbrev pub OpenSettings : Images → Type 0
OpenSettings images = (settings_of images).shown.settings_protected ≡ 0

-- what is asked
pub record Returning (part : Part) (one other : Images) (history : List Move) : Type 0 where
  -- "two boards as in demand 3"
  pub boards : AlikeBoards part one other
  pub sectors : OpenSectors part one
  pub settings : OpenSettings one
  pub room : Throughout Roomy history
  pub without : WithoutUntilOver part one other history

-- What is claimed: "Every reply is alike, and after that session stays alike even when later Unlocks succeed": the answer of every start, and
-- the answer, the reply and the standing of every call.
abbrev pub Alike : Part → Images → Images → List Move → Type 0
Alike part one other history = SeenAlike (port_one part) (port_other part) one other history

-- the request's own sentence has one clause more: "with alert set to reset"
pub record Requested (part : Part) (one other : Images) (history : List Move) : Type 0 where
  pub alert : (settings_of one).shown.alert ≡ alert_reset
  pub returning : Returning part one other history

-- ---- a person who chooses by the replies so far

-- any rule for the next move, by all that was seen, the latest first
abbrev pub Person : Type 0
Person = List (Sight Numbered Seen) → Move

abbrev pub AlikeTo : Part → Images → Images → Person → ℕ → Type 0
AlikeTo part one other person moves = AlikeToPerson (port_one part) (port_other part) one other person moves

-- what that person does to the one board
abbrev pub history_of : Part → Images → Person → ℕ → List Move
history_of part one person moves = chosen (port_one part) person one moves

-- ---- other boards, as long as no Unlock at all carries a password

-- the board as we advise it: where the alert is reset the settings are protected. Any sectors may be.
pub record Advised (part : Part) (one other : Images) (history : List Move) : Type 0 where
  pub boards : AlikeBoards part one other
  pub kept : (settings_of one).shown.alert ≡ alert_reset → (settings_of one).shown.settings_protected ≡ 1
  pub room : Throughout Roomy history
  pub without : Throughout (Without part one other) history

-- any board at all, whatever is protected, through the end of the session in which the alert first strikes
pub record UntilStruck (part : Part) (one other : Images) (history : List Move) : Type 0 where
  pub boards : AlikeBoards part one other
  pub before : is_over part one history ≡ false
  pub room : Throughout Roomy history
  pub without : Throughout (Without part one other) history

-- no call leaves its session unlocked
abbrev pub IsLocked : Sight Numbered Seen → Type 0
IsLocked nothing = Unit
IsLocked (of_start told) = Unit
IsLocked (of_call seen) = is_unlocked seen.standing.phase ≡ false

abbrev pub StaysLocked : List (Sight Numbered Seen) → Type 0
StaysLocked [] = Unit
StaysLocked (last ∷ earlier) = IsLocked last × StaysLocked earlier

-- neither board ever unlocks
pub record AlikeAndLocked (part : Part) (one other : Images) (history : List Move) : Type 0 where
  pub seen : seen_after (port_one part) one history ≡ seen_after (port_other part) other history
  pub locked : StaysLocked (seen_after (port_one part) one history)
