-- T-08: "how many wrong passwords a session has seen in all, also when a right one came between": which packets are one.
use Rattle.std.specs.Prelude.{ℕ, Bool, true, false, not, List, eqb}
use Rattle.octets.specs.Choice.{pick}
use Rattle.line.specs.Codes as codes
use Rattle.line.specs.declared.Command.{Command}
use Rattle.line.specs.declared.Command.TheVariants as command
use Rattle.line.specs.Acknowledgement.{acknowledgement}
use Rattle.line.specs.Commands.{command_of}
use Rattle.session_state.specs.declared.Phase.{Phase}
use Rattle.session_state.specs.declared.Phase.TheVariants as phase
use Rattle.session_state.specs.declared.Standing.{Standing}
use Rattle.session_state.specs.Waits.{pass_time}

abbrev pub is_in_command : Phase → Bool
is_in_command phase.Detect = false
is_in_command (phase.Command unlocked sleep) = true
is_in_command phase.Standby = false
is_in_command phase.Ended = false
is_in_command phase.Disabled = false

abbrev pub is_unlock : Command → Bool
is_unlock command.Connect = false
is_unlock command.Info = false
is_unlock command.Unlock = true
is_unlock (command.Guarded task) = false
is_unlock command.Start = false
is_unlock (command.Rate id) = false
is_unlock command.WrongLength = false
is_unlock command.Unknown = false

-- after the wait the packet is heard, in the command phase, locked or unlocked; it is acknowledged by 0x00, and an Unlock of L 33; and it does
-- not carry the session's password, which is what `right` says
unfoldable pub is_wrong_password : ℕ → Standing → ℕ → List ℕ → Bool → Bool
is_wrong_password last_rate standing wait packet right =
    pick (pass_time standing wait).heard
    (pick (is_in_command (pass_time standing wait).standing.phase)
    (pick (eqb (acknowledgement last_rate packet) codes.acknowledged)
    (pick (is_unlock (command_of packet)) (not right) false)
    false)
    false)
    false
