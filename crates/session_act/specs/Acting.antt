-- 01, Commands (004): what is planned once a packet is judged, and the plan carried out.
use Rattle.std.specs.Prelude.{ℕ, Bool, List, length}
use Rattle.parts.specs.declared.Part.{Part}
use Rattle.line.specs.Codes as codes
use Rattle.line.specs.declared.Guarded.{Guarded}
use Rattle.line.specs.declared.Guarded.TheVariants as guarded
use Rattle.session_judge.specs.declared.Effect.{Effect}
use Rattle.session_judge.specs.declared.Effect.TheVariants.{Say, TellInfo, Strike, Perform}
use Rattle.settings.specs.declared.Shown.{Shown}
use Rattle.flash.specs.Memory.{Memory}
use Rattle.session_act.specs.declared.Planned.{Planned}
use Rattle.session_act.specs.Info.{info_planned}
use Rattle.session_act.specs.Board.{Acted, acted, Board}
use Rattle.session_act.specs.Orders.{carried_out}
use Rattle.session_act.specs.Plans.{says, tells}
use Rattle.session_act.specs.Erasing.{range_erase, mass_erase, factory_reset, struck}
use Rattle.session_act.specs.Programming.{program}
use Rattle.session_act.specs.Showing.{read_back, verify}

-- a protected command of an unlocked session; "wrong L 06; then each one's own checks"
abbrev pub task_planned : Part → ℕ → Shown → List ℕ → Bool → Memory → Guarded → Planned
task_planned part main_size shown protection right memory (guarded.RangeErase start end) =
    range_erase part main_size protection shown.settings_protected start end
task_planned part main_size shown protection right memory guarded.MassErase = mass_erase
task_planned part main_size shown protection right memory (guarded.Program address size silent) =
    program part main_size protection shown.settings_protected address size memory
task_planned part main_size shown protection right memory (guarded.ReadBack address size) =
    read_back part shown.readout main_size protection shown.settings_protected address size
task_planned part main_size shown protection right memory (guarded.Verify address size) =
    verify part main_size protection shown.settings_protected address size memory
task_planned part main_size shown protection right memory (guarded.FactoryReset with) = factory_reset shown.reset_mode with right
task_planned part main_size shown protection right memory guarded.WrongLength = tells codes.wrong_length

abbrev pub task_on : Board → Bool → Memory → Guarded → Planned
task_on board right memory task = task_planned board.part board.main_size board.shown board.protection right memory task

-- what was decided is planned; the bit is whether the packet carries the reset password
abbrev pub plan_of : Part → ℕ → Shown → List ℕ → Bool → Memory → Effect → Planned
plan_of part main_size shown protection right memory (Say reply) = says reply
plan_of part main_size shown protection right memory TellInfo = info_planned part.long_version shown (length memory.main)
plan_of part main_size shown protection right memory Strike = struck
plan_of part main_size shown protection right memory (Perform task) = task_planned part main_size shown protection right memory task

-- the plan of a board, and what its order leaves there
abbrev pub plan_on : Board → Bool → Memory → Effect → Planned
plan_on board right memory effect = plan_of board.part board.main_size board.shown board.protection right memory effect

abbrev pub carried_on : Board → List ℕ → Memory → Planned → Memory
carried_on board packet before planned = carried_out board.part board.shown board.protection packet before planned.order

-- the answer is the plan's, and its order is carried out
abbrev pub act_of : Board → Bool → List ℕ → Memory → Effect → Acted
act_of board right packet before effect =
    acted (plan_on board right before effect).reply (carried_on board packet before (plan_on board right before effect))
