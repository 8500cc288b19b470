-- What every order keeps, and what the reset of an alert does.
use mathlib.Core.Path.{◌≡◌, refl, ap}
use mathlib.Core.Bool.{Bool}
use mathlib.Core.List.{List}
use Prim.Native.Nat.{ℕ}
use lib.ListN.{length}
use lib.Seq.{length-sets}
use Rattle.parts.specs.declared.Part.{Part}
use Rattle.line.specs.Codes as codes
use Rattle.line.specs.Packet.{data_in}
use Rattle.line.specs.declared.Guarded.TheVariants.{FactoryReset}
use Rattle.session_judge.specs.declared.Effect.{Effect}
use Rattle.session_judge.specs.declared.Effect.TheVariants.{Strike, Perform}
use Rattle.settings.specs.declared.Shown.{Shown}
use Rattle.flash.specs.Memory.{Memory}
use Rattle.flash.proofs.ErasingLaws.{erase_keeps_length, erase_all_keeps_length}
use Rattle.flash.proofs.ProgrammingLaws.{program_keeps_length}
use Rattle.session_act.specs.declared.Order.{Order}
use Rattle.session_act.specs.declared.Order.TheVariants.{Keep, EraseBetween, EraseMain, EraseBoth, ProgramMain, ProgramSettings, StoreWindow}
use Rattle.session_act.specs.Board.{Board}
use Rattle.session_act.specs.Orders.{carried_out}
use Rattle.session_act.specs.Plans.{orders}
use Rattle.session_act.specs.Erasing.{factory_reset}
use Rattle.session_act.specs.Acting.{plan_on, carried_on, act_of}

-- both images and the window are as long as they were
pub record SameLengths (before after : Memory) : Type 0 where
  pub main : length after.main ≡ length before.main
  pub settings : length after.settings ≡ length before.settings
  pub window : length after.window ≡ length before.window

pub orders_keep_lengths : (part : Part) (shown : Shown) (protection packet : List ℕ) (before : Memory) (order : Order)
    → SameLengths before (carried_out part shown protection packet before order)
orders_keep_lengths part shown protection packet before Keep = record { main = refl; settings = refl; window = refl }
orders_keep_lengths part shown protection packet before (EraseBetween start end) = record { main = erase_keeps_length _ _ _ _ _; settings = refl; window = refl }
orders_keep_lengths part shown protection packet before EraseMain = record { main = erase_all_keeps_length _ _ 0 0 _; settings = refl; window = refl }
orders_keep_lengths part shown protection packet before EraseBoth = record { main = erase_all_keeps_length _ _ 0 0 _; settings = erase_all_keeps_length _ _ 0 0 _; window = refl }
orders_keep_lengths part shown protection packet before (ProgramMain offset size) = record { main = program_keeps_length _ _ _ _ _; settings = refl; window = refl }
orders_keep_lengths part shown protection packet before (ProgramSettings offset size) = record { main = refl; settings = program_keeps_length _ _ _ _ _; window = refl }
orders_keep_lengths part shown protection packet before (StoreWindow offset size) = record { main = refl; settings = refl; window = length-sets before.window offset (data_in size packet) }

module _ (board : Board) (before : Memory) where
  -- no act changes the size of an image: a session whose sizes fit the images lent to it stays so
  pub act_keeps_lengths : (right : Bool) (packet : List ℕ) (effect : Effect) → SameLengths before (act_of board right packet before effect).memory
  act_keeps_lengths right packet effect =
      orders_keep_lengths board.part board.shown board.protection packet before (plan_on board right before effect).order

  -- the alert's reset does to memory what a Factory reset does that is granted
  pub strike_erases_as_reset : (with right : Bool) (packet : List ℕ) → factory_reset board.shown.reset_mode with right ≡ orders codes.success EraseBoth
      → (act_of board right packet before (Perform (FactoryReset with))).memory ≡ (act_of board right packet before Strike).memory
  strike_erases_as_reset with right packet granted = ap (carried_on board packet before) granted
