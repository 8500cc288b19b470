-- 01, Phases and waits: "Each call has a wait in milliseconds (32 bits, no sign) since the previous call, then a packet, perhaps empty."
-- Its rules (a), (b) and (c) stand here; (d), the empty packet, stands in `session_judge`.
use Rattle.std.specs.Prelude.{ℕ, ◌+◌, ◌-◌, Bool, true, false, ltb, leb}
use Rattle.octets.specs.Choice.{pick}
use Rattle.session_state.specs.declared.Phase.{Phase}
use Rattle.session_state.specs.declared.Phase.TheVariants.{Detect, Command, Standby, Ended, Disabled}
use Rattle.session_state.specs.declared.Standing.{Standing}
use Rattle.session_state.specs.declared.Passed.{Passed}

-- another phase and idle time; the wrong count, the rate and the total stay
abbrev pub moved_to : Standing → Phase → ℕ → Standing
moved_to standing phase idle = record { phase = phase; idle = idle; wrong = standing.wrong; rate = standing.rate; tries = standing.tries }

-- the packet is handled
abbrev pub heard : Standing → Passed
heard standing = record { standing = standing; heard = true }

-- "no reply", "drop the packet"
abbrev pub dropped : Standing → Passed
dropped standing = record { standing = standing; heard = false }

-- (c) "Add the rest to idle. At 10,000 or more"
abbrev pub idle_limit : ℕ
idle_limit = 10000

unfoldable pub is_idle_too_long : Standing → ℕ → Bool
is_idle_too_long standing rest = leb idle_limit (standing.idle + rest)

-- (c) "detect becomes standby with no reply .. Idle is 0"
unfoldable pub detect_idles : Standing → ℕ → Passed
detect_idles standing rest =
    pick (is_idle_too_long standing rest) (dropped (moved_to standing Standby 0))
    (heard (moved_to standing Detect (standing.idle + rest)))

-- (c) "command becomes locked. Idle is 0 in both, and in command the packet is then handled"
unfoldable pub command_idles : Standing → Bool → ℕ → Passed
command_idles standing unlocked rest =
    pick (is_idle_too_long standing rest) (heard (moved_to standing (Command false 0) 0))
    (heard (moved_to standing (Command unlocked 0) (standing.idle + rest)))

-- (a) "in standby, ended and disabled: no reply, no change"
-- (b) "If sleep is above the wait, subtract, no reply, drop the packet. Else the rest of the wait goes on and sleep is 0."
abbrev pub pass_time_in : Standing → ℕ → Phase → Passed
pass_time_in standing wait Detect = detect_idles standing wait
pass_time_in standing wait (Command unlocked sleep) =
    pick (ltb wait sleep) (dropped (moved_to standing (Command unlocked (sleep - wait)) standing.idle))
    (command_idles standing unlocked (wait - sleep))
pass_time_in standing wait Standby = dropped standing
pass_time_in standing wait Ended = dropped standing
pass_time_in standing wait Disabled = dropped standing

-- how a session stands after a wait, and whether the packet that came then is heard
unfoldable pub pass_time : Standing → ℕ → Passed
pass_time standing wait = pass_time_in standing wait standing.phase
