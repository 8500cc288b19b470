-- 01, Commands, 0x21 Unlock.
use Rattle.std.specs.Prelude.{ℕ, ◌+◌, Bool, true, false, ltb, leb, eqb}
use Rattle.octets.specs.Choice.{pick}
use Rattle.line.specs.Codes as codes
use Rattle.line.specs.declared.Reply.TheVariants.{Message}
use Rattle.session_state.specs.declared.Phase.{Phase}
use Rattle.session_state.specs.declared.Phase.TheVariants.{Command, Disabled}
use Rattle.session_state.specs.declared.Standing.{Standing}
use Rattle.session_state.specs.Phases.{rate_id_at_start, most_sleep, most_wrong, most_tries}
use Rattle.session_judge.specs.declared.Effect.TheVariants.{Say, Strike}
use Rattle.session_judge.specs.declared.Judged.{Judged}
use Rattle.session_judge.specs.Judgement.{judged, says}

-- "right: unlocked, wrong count 0, message 00"; T-08: "no success clears" the total
abbrev pub after_right : Standing → Standing
after_right standing = record { phase = Command true 0; idle = standing.idle; wrong = 0; rate = standing.rate; tries = standing.tries }

-- "count up by one to at most 3"
unfoldable pub counted_up : ℕ → ℕ
counted_up wrong = pick (ltb wrong most_wrong) (wrong + 1) most_wrong

-- T-08: "how many wrong passwords a session has seen in all .. it stops at 65,535"
unfoldable pub tried_once : ℕ → ℕ
tried_once tries = pick (leb most_tries tries) tries (tries + 1)

-- "Wrong: .. rate id 2, .. count up by one to at most 3.", and one more in all
abbrev pub after_wrong : Standing → Phase → Standing
after_wrong standing phase = record { phase = phase; idle = standing.idle; wrong = counted_up standing.wrong; rate = rate_id_at_start; tries = tried_once standing.tries }

-- "Wrong: locked, .. sleep 2,000": as long as a session may sleep
abbrev pub asleep : Phase
asleep = Command false most_sleep

-- 01, Settings image, kind 3: "alert (0 nothing, 1 reset, 2 disable)"
abbrev pub alert_reset : ℕ
alert_reset = 1

abbrev pub alert_disable : ℕ
alert_disable = 2

-- "message 03 and the alert: reset erases as Factory reset does .. ; disable ends in disabled, sleep 0, and the answer of that call ..
-- tells the board to burn its fuse". The message of a strike is sent once the erase is done.
unfoldable pub alerted : Standing → ℕ → Judged
alerted standing alert =
    pick (eqb alert alert_reset) (judged (after_wrong standing asleep) Strike)
    (pick (eqb alert alert_disable) (record { standing = after_wrong standing Disabled; effect = Say (Message codes.alert_taken); burn = true })
    (says (after_wrong standing asleep) (Message codes.alert_taken)))

-- "Message 02 below 3. At 3, and at each later wrong one, message 03 and the alert"
unfoldable pub tried_wrong : Standing → ℕ → Judged
tried_wrong standing alert =
    pick (ltb (counted_up standing.wrong) most_wrong) (says (after_wrong standing asleep) (Message codes.password_wrong))
    (alerted standing alert)

-- "0x21 Unlock, L 33: right: ..  Wrong: .."
unfoldable pub tried : Standing → ℕ → Bool → Judged
tried standing alert right =
    pick right (says (after_right standing) (Message codes.success)) (tried_wrong standing alert)
