-- 01, Marked cases and the rest: "prints a line an entry ..; then "end", phase and, in command, lock."
-- T-08: "The runner's last line gains "tries" and the number, in every phase".
use Rattle.std.specs.Prelude.{ℕ, Bool, true, false, List, ◌++◌}
use Rattle.session_state.specs.declared.Phase.{Phase}
use Rattle.session_state.specs.declared.Phase.TheVariants.{Detect, Command, Standby, Ended, Disabled}
use Rattle.octets.specs.Decimal.{decimal_of}
use Rattle.runner_text.specs.Text.{text}

-- 01, Phases and waits: "detect, command (locked or unlocked, with sleep left), standby, ended or disabled"
abbrev pub lock_text : Bool → List ℕ
lock_text true = text "unlocked"
lock_text false = text "locked"

abbrev pub phase_text : Phase → List ℕ
phase_text Detect = text "detect"
phase_text (Command unlocked sleep) = text "command " ++ lock_text unlocked
phase_text Standby = text "standby"
phase_text Ended = text "ended"
phase_text Disabled = text "disabled"

-- "then "end", phase and, in command, lock", ""tries" and the number"
abbrev pub end_of : Phase → ℕ → List ℕ
end_of phase tries = text "end " ++ (phase_text phase ++ (text " tries " ++ (decimal_of tries ++ text "\n")))
