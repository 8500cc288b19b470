-- 01, Phases and waits: rule (d), detect, and the acknowledgement in the command phase.
use Rattle.std.specs.Prelude.{ℕ, Bool, false, List, eqb, length}
use Rattle.octets.specs.Choice.{pick}
use Rattle.line.specs.Codes as codes
use Rattle.line.specs.declared.Command.{Command}
use Rattle.line.specs.declared.Command.TheVariants as command
use Rattle.line.specs.Acknowledgement.{acknowledgement}
use Rattle.line.specs.Commands.{command_of, is_known}
use Rattle.line.specs.declared.Reply.TheVariants.{Silence, Acknowledged}
use Rattle.session_state.specs.declared.Phase.{Phase}
use Rattle.session_state.specs.declared.Phase.TheVariants as phase
use Rattle.session_state.specs.declared.Standing.{Standing}
use Rattle.session_state.specs.declared.Passed.{Passed}
use Rattle.session_state.specs.Waits.{moved_to, pass_time}
use Rattle.session_judge.specs.declared.Judged.{Judged}
use Rattle.session_judge.specs.Judgement.{says}
use Rattle.session_judge.specs.Obeying.{obeyed}

-- "no reply"
abbrev pub silently : Standing → Judged
silently standing = says standing Silence

-- an exact Connect: no other command is read as one
abbrev pub detected : Standing → Command → Judged
detected standing command.Connect = says (moved_to standing (phase.Command false 0) 0) (Acknowledged codes.acknowledged)
detected standing command.Info = silently standing
detected standing command.Unlock = silently standing
detected standing (command.Guarded task) = silently standing
detected standing command.Start = silently standing
detected standing (command.Rate id) = silently standing
detected standing command.WrongLength = silently standing
detected standing command.Unknown = silently standing

-- "In detect only an exact Connect is answered (0x00, command phase locked, idle 0); others get no reply."
unfoldable pub heard_in_detect : ℕ → Standing → List ℕ → Judged
heard_in_detect last_rate standing packet =
    pick (eqb (acknowledgement last_rate packet) codes.acknowledged) (detected standing (command_of packet)) (silently standing)

-- "In command, apart from (c), idle becomes 0 exactly when the acknowledgement is 0x00 and the command byte is one of the twelve."
unfoldable pub stirred : Standing → Command → Standing
stirred standing command = pick (is_known command) (moved_to standing standing.phase 0) standing

-- "A packet not acknowledged by 0x00 has no further effect."
unfoldable pub heard_in_command : ℕ → Standing → ℕ → Bool → List ℕ → Bool → Judged
heard_in_command last_rate standing alert unlocked packet right =
    pick (eqb (acknowledgement last_rate packet) codes.acknowledged)
    (obeyed (stirred standing (command_of packet)) alert unlocked right (command_of packet))
    (says standing (Acknowledged (acknowledgement last_rate packet)))

-- a packet that is heard, by the phase; standby, ended and disabled hear none, by (a)
abbrev pub heard_in : ℕ → Standing → ℕ → List ℕ → Bool → Phase → Judged
heard_in last_rate standing alert packet right phase.Detect = heard_in_detect last_rate standing packet
heard_in last_rate standing alert packet right (phase.Command unlocked sleep) = heard_in_command last_rate standing alert unlocked packet right
heard_in last_rate standing alert packet right phase.Standby = silently standing
heard_in last_rate standing alert packet right phase.Ended = silently standing
heard_in last_rate standing alert packet right phase.Disabled = silently standing

-- (a) to (c), then (d) "Empty packet: nothing more."
unfoldable pub heard_after : ℕ → Passed → ℕ → List ℕ → Bool → Judged
heard_after last_rate passed alert packet right =
    pick passed.heard
    (pick (eqb (length packet) 0) (silently passed.standing) (heard_in last_rate passed.standing alert packet right passed.standing.phase))
    (silently passed.standing)

-- what a session does with a packet after a wait; the last is whether the packet carries its password
unfoldable pub judged_of : ℕ → Standing → ℕ → ℕ → List ℕ → Bool → Judged
judged_of last_rate standing alert wait packet right = heard_after last_rate (pass_time standing wait) alert packet right
