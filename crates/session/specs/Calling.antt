-- 01, Phases and waits, and Commands (004): one call of a session.
use Rattle.std.specs.Prelude.{ℕ, Bool, false, not, List, ltb, eqb, length}
use Rattle.octets.specs.Choice.{pick}
use Rattle.line.specs.Codes.{reply_limit}
use Rattle.line.specs.Packet.{password_in, reset_password_in}
use Rattle.line.specs.Replies.{Sent}
use Rattle.parts.specs.declared.Part.{Part}
use Rattle.session_state.specs.declared.Standing.{Standing}
use Rattle.flash.specs.Memory.{Memory}
use Rattle.session_judge.specs.declared.Effect.{Effect}
use Rattle.session_judge.specs.declared.Judged.{Judged}
use Rattle.session_judge.specs.Hearing.{judged_of}
use Rattle.session_act.specs.declared.Planned.{Planned}
use Rattle.session_act.specs.Board.{Acted, Board, board}
use Rattle.session_act.specs.Acting.{plan_on, act_of}
use Rattle.session_send.specs.Answering.{answer_of}
use Rattle.session.specs.declared.Session.{Session}
use Rattle.session.specs.Records.{is_record}
use Rattle.octets.specs.Alike.{are_same}
use Rattle.session.specs.CallAnswers.{call_told, Left, left}

-- how the session stands then; its MAIN size and its settings stay: "The session keeps its password", and "later writes to the settings
-- flash count from the next start"
abbrev pub stands_then : Session → Standing → Session
stands_then session standing = record { standing = standing; main_size = session.main_size; settings = session.settings }

-- what the session lets be done; no password is among it
abbrev pub board_of : Part → Session → Board
board_of part session = board part session.main_size session.settings.shown session.settings.protection

-- the packet is judged, on how the session stands, the alert setting, and whether the packet carries the password
abbrev pub judgement : ℕ → Session → ℕ → List ℕ → Judged
judgement last_rate session wait packet =
    judged_of last_rate session.standing session.settings.shown.alert wait packet (are_same session.settings.password (password_in packet))

-- whether the packet carries the session's reset password
abbrev pub carries_reset : Session → List ℕ → Bool
carries_reset session packet = are_same session.settings.reset_password (reset_password_in packet)

-- what was decided is planned, and done to memory
abbrev pub intent : Part → Session → List ℕ → Memory → Effect → Planned
intent part session packet before effect = plan_on (board_of part session) (carries_reset session packet) before effect

abbrev pub deed : Part → Session → List ℕ → Memory → Effect → Acted
deed part session packet before effect = act_of (board_of part session) (carries_reset session packet) packet before effect

-- all that a call leaves where it is not refused: "the answer of that call, and of no other, tells the board to burn its fuse"
abbrev pub served : Session → Judged → Acted → Sent → Left
served session judged acted sent =
    left (call_told 0 sent.size judged.burn) (stands_then session judged.standing) acted.memory sent.area

-- what was done is answered, with the bytes of the place that was planned
abbrev pub answered : Session → List ℕ → List ℕ → Judged → Planned → Acted → Left
answered session packet area judged planned acted =
    served session judged acted
    (answer_of acted.reply planned.region planned.offset planned.count packet acted.memory area)

-- what was judged is followed: plan, carry out, answer
abbrev pub followed : Part → Session → Memory → List ℕ → List ℕ → Judged → Left
followed part session before packet area judged =
    answered session packet area judged (intent part session packet before judged.effect) (deed part session packet before judged.effect)

unfoldable pub serve_of : Part → Session → Memory → ℕ → List ℕ → List ℕ → Left
serve_of part session before wait packet area = followed part session before packet area (judgement part.last_rate session wait packet)

-- 01, Numbers of refused calls: "each changes nothing lent and returns the record it was given"
abbrev pub call_refused : ℕ → Session → Memory → List ℕ → Left
call_refused number session before area = left (call_told number 0 false) session before area

-- "9 reply area below 1,729 bytes; 10 record not valid", and then the rules of a session; T-05: "11, window not 3,456 bytes, .. after 9 in a call"
unfoldable pub call_of : Part → Session → Memory → ℕ → List ℕ → List ℕ → Left
call_of part session before wait packet area =
    pick (ltb (length area) reply_limit) (call_refused 9 session before area)
    (pick (not (eqb (length before.window) part.window_size)) (call_refused 11 session before area)
    (pick (not (is_record part session (length before.main) (length before.settings))) (call_refused 10 session before area)
    (serve_of part session before wait packet area)))
