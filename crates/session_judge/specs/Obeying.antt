-- 01, Commands (004): a command of the command phase, whose packet was acknowledged by 0x00. What is said here of the commands that
-- "never get a core reply" is dropped where the reply is sent (`hushed` of `session_send`).
use Rattle.std.specs.Prelude.{ℕ, Bool}
use Rattle.octets.specs.Choice.{pick}
use Rattle.line.specs.Codes as codes
use Rattle.line.specs.declared.Command.{Command}
use Rattle.line.specs.declared.Command.TheVariants as command
use Rattle.line.specs.declared.Reply.TheVariants.{Acknowledged, Message}
use Rattle.session_state.specs.declared.Phase.TheVariants.{Ended}
use Rattle.session_state.specs.declared.Standing.{Standing}
use Rattle.session_state.specs.Waits.{moved_to}
use Rattle.session_judge.specs.declared.Effect.TheVariants.{TellInfo, Perform}
use Rattle.session_judge.specs.declared.Judged.{Judged}
use Rattle.session_judge.specs.Judgement.{judged, says}
use Rattle.session_judge.specs.Unlocking.{tried}

-- "0x52 Rate: the id holds after the reply." The next session has it; who sends this call's reply sends it at the rate before.
abbrev pub with_rate : Standing → ℕ → Standing
with_rate standing id = record { phase = standing.phase; idle = standing.idle; wrong = standing.wrong; rate = id; tries = standing.tries }

-- "Order for the others: unknown code 04; protected and locked 01; wrong L 06; then each one's own checks."
-- "0x12 Connect, L 1: nothing more." "0x40 Start, L 1: ended and locked."
abbrev pub obeyed : Standing → ℕ → Bool → Bool → Command → Judged
obeyed standing alert unlocked right command.Connect = says standing (Acknowledged codes.acknowledged)
obeyed standing alert unlocked right command.Info = judged standing TellInfo
obeyed standing alert unlocked right command.Unlock = tried standing alert right
obeyed standing alert unlocked right (command.Guarded task) =
    pick unlocked (judged standing (Perform task)) (says standing (Message codes.locked))
obeyed standing alert unlocked right command.Start = says (moved_to standing Ended standing.idle) (Acknowledged codes.acknowledged)
obeyed standing alert unlocked right (command.Rate id) = says (with_rate standing id) (Acknowledged codes.acknowledged)
obeyed standing alert unlocked right command.WrongLength = says standing (Message codes.wrong_length)
obeyed standing alert unlocked right command.Unknown = says standing (Message codes.unknown_command)
