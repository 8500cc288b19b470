-- The settings flash stays bytes: an erase makes 0xFF of a byte, and a program takes bits of it away.
use mathlib.Core.List.{List, [], ◌∷◌}
use Prim.Native.Nat.{ℕ, zero, suc, ◌+◌, ◌-◌, ◌<◌}
use native.Mathlib.Omega.{arith}
use lib.Bits.{bit_and, and_le_l}
use lib.ListN.{length, get_or}
use Rattle.octets.proofs.Searching.{by_pick}
use Rattle.parts.specs.declared.Part.{Part}
use Rattle.settings.specs.declared.Shown.{Shown}
use Rattle.flash.specs.Memory.{Memory}
use Rattle.flash.specs.Places.{by_place, is_between}
use Rattle.flash.specs.Protection.{may_change, changed}
use Rattle.flash.specs.Erasing.{erase_all_of}
use Rattle.flash.specs.Programming.{program_of}
use Rattle.session_act.specs.declared.Order.{Order}
use Rattle.session_act.specs.declared.Order.TheVariants.{Keep, EraseBetween, EraseMain, EraseBoth, ProgramMain, ProgramSettings, StoreWindow}
use Rattle.session_act.specs.Orders.{carried_out}
use Rattle.session.specs.declared.Session.{Session}
use Rattle.session.specs.Calling.{judgement, intent, serve_of, call_of}
use Rattle.session.proofs.CallLaws.{every_call}

abbrev pub Each : List ℕ → Type 0
Each bytes = (k : ℕ) → get_or bytes k 0 < 256

each-by_place : (rule : ℕ → ℕ → ℕ) → ((k x : ℕ) → x < 256 → rule k x < 256) → (bytes : List ℕ) → Each bytes → Each (by_place rule bytes)
each-by_place rule keeps [] each k = omega arith
each-by_place rule keeps (x ∷ bytes) each zero = keeps 0 x (each 0)
each-by_place rule keeps (x ∷ bytes) each (suc k) = each-by_place (λ j. rule (suc j)) (λ j. keeps (suc j)) bytes (λ j. each (suc j)) k

module _ (sector_size : ℕ) (protection : List ℕ) where
  each-changed : (rule : ℕ → ℕ → ℕ) → ((k x : ℕ) → x < 256 → rule k x < 256) → (bytes : List ℕ) → Each bytes → Each (changed sector_size protection rule bytes)
  unfolding changed
  each-changed rule keeps bytes each =
      each-by_place _ (λ k x small. by_pick (λ y. y < 256) (may_change sector_size protection k) (rule k x) x (λ y. keeps k x small) (λ n. small)) bytes each

  each_erased : (bytes : List ℕ) → Each bytes → Each (erase_all_of sector_size protection bytes)
  unfolding erase_all_of
  each_erased bytes each = each-changed _ (λ k x small. omega arith) bytes each

  each_programmed : (at : ℕ) (new bytes : List ℕ) → Each bytes → Each (program_of sector_size protection at new bytes)
  unfolding program_of
  each_programmed at new bytes each =
      each-changed _ (λ k x small. by_pick (λ y. y < 256) (is_between at (at + length new) k) (bit_and x (get_or new (k - at) 0)) x
      (λ y. omega (arith, small, and_le_l x (get_or new (k - at) 0))) (λ n. small)) bytes each

-- whatever is ordered
pub orders_keep_bytes : (part : Part) (shown : Shown) (protection packet : List ℕ) (before : Memory) → Each before.settings → (order : Order)
    → Each (carried_out part shown protection packet before order).settings
orders_keep_bytes part shown protection packet before each Keep = each
orders_keep_bytes part shown protection packet before each (EraseBetween start end) = each
orders_keep_bytes part shown protection packet before each EraseMain = each
orders_keep_bytes part shown protection packet before each EraseBoth = each_erased _ _ before.settings each
orders_keep_bytes part shown protection packet before each (ProgramMain offset size) = each
orders_keep_bytes part shown protection packet before each (ProgramSettings offset size) = each_programmed _ _ offset _ before.settings each
orders_keep_bytes part shown protection packet before each (StoreWindow offset size) = each

-- by any call
pub call_keeps_bytes : (part : Part) (session : Session) (before : Memory) (wait : ℕ) (packet area : List ℕ) → Each before.settings
    → Each (call_of part session before wait packet area).memory.settings
unfolding serve_of
call_keeps_bytes part session before wait packet area each =
    every_call part session before wait packet area (λ left. Each left.memory.settings) (λ number. each)
    (orders_keep_bytes part session.settings.shown session.settings.protection packet before each
    (intent part session packet before (judgement part.last_rate session wait packet).effect).order)
