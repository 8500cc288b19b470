-- 01, Phases and waits: "A session record says how it stands: detect, command (locked or unlocked, with sleep left), standby, ended or disabled."
use Rattle.std.specs.Prelude.{ℕ, Bool, true, false, leb, eqb}
use Rattle.octets.specs.Choice.{pick}
use Rattle.session_state.specs.declared.Phase.{Phase}
use Rattle.session_state.specs.declared.Phase.TheVariants.{Detect, Command, Standby, Ended, Disabled}
use Rattle.session_state.specs.declared.Standing.{Standing}
use Rattle.line.specs.Acknowledgement.{is_rate}

-- "rate id 2": at start, and after a wrong password
abbrev pub rate_id_at_start : ℕ
rate_id_at_start = 2

-- "Start gives detect, idle 0, sleep 0, wrong count 0, rate id 2." Detect has no sleep. A session that starts has seen no wrong password: total 0.
unfoldable pub at_start : Standing
at_start = record { phase = Detect; idle = 0; wrong = 0; rate = rate_id_at_start; tries = 0 }

-- "unlocked": in the command phase alone
abbrev pub is_unlocked : Phase → Bool
is_unlocked Detect = false
is_unlocked (Command unlocked sleep) = unlocked
is_unlocked Standby = false
is_unlocked Ended = false
is_unlocked Disabled = false

-- "with sleep left": in the command phase alone
abbrev pub sleep_of : Phase → ℕ
sleep_of Detect = 0
sleep_of (Command unlocked sleep) = sleep
sleep_of Standby = 0
sleep_of Ended = 0
sleep_of Disabled = 0

-- 01, Numbers of refused calls, 10: "idle above 9,999, sleep above 2,000, wrong count above 3" are not valid
abbrev pub most_idle : ℕ
most_idle = 9999

abbrev pub most_sleep : ℕ
most_sleep = 2000

abbrev pub most_wrong : ℕ
most_wrong = 3

-- T-08: "it stops at 65,535"
abbrev pub most_tries : ℕ
most_tries = 65535

-- 10: "sleep above 2,000", "unlocked with sleep above 0". The clause between them, "unlocked or sleep above 0 outside the command phase",
-- cannot be written: no other phase has a lock or a sleep.
abbrev pub is_valid_phase : Phase → Bool
is_valid_phase Detect = true
is_valid_phase (Command unlocked sleep) = pick unlocked (eqb sleep 0) (leb sleep most_sleep)
is_valid_phase Standby = true
is_valid_phase Ended = true
is_valid_phase Disabled = true

-- 10: "wrong count above 3"; T-08: "10 also covers a total below the wrong count or above 65,535"
unfoldable pub counts_fit : ℕ → ℕ → Bool
counts_fit wrong tries = pick (leb wrong most_wrong) (pick (leb wrong tries) (leb tries most_tries) false) false

-- 10: "record not valid: idle above 9,999, sleep above 2,000, wrong count above 3, rate id outside 1..9, .. unlocked with sleep above 0".
-- Its other clauses speak of settings and sizes, which are not here.
unfoldable pub is_valid : ℕ → Standing → Bool
is_valid last_rate standing =
    pick (leb standing.idle most_idle)
    (pick (counts_fit standing.wrong standing.tries) (pick (is_rate last_rate standing.rate) (is_valid_phase standing.phase) false) false)
    false
