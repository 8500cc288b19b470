-- What a plan can be, and that no reply depends on memory after the order.
use mathlib.Core.Path.{◌≡◌, refl, ap}
use mathlib.Core.Bool.{Bool, true, false}
use mathlib.Core.List.{List}
use Prim.Native.Nat.{ℕ, ◌+◌, ◌-◌, ◌%◌, ◌≤◌}
use native.Mathlib.Omega.{arith}
use borrow.Author.Tests.{ltb-false}
use lib.Dec.{ltb, leb, eqb}
use lib.ListN.{length}
use Rattle.octets.proofs.Searching.{by_pick}
use Rattle.parts.specs.declared.Part.{Part}
use Rattle.line.specs.declared.Guarded.{Guarded}
use Rattle.line.specs.declared.Guarded.TheVariants as guarded
use Rattle.line.specs.declared.Reply.{Reply}
use Rattle.line.specs.declared.Reply.TheVariants.{Bytes}
use Rattle.line.specs.Replies.{read_back_most, reply_bytes}
use Rattle.session_judge.specs.declared.Effect.{Effect}
use Rattle.session_judge.specs.declared.Effect.TheVariants.{Say, TellInfo, Strike, Perform}
use Rattle.settings.specs.declared.Shown.{Shown}
use Rattle.flash.specs.declared.Region.{Region}
use Rattle.flash.specs.declared.Region.TheVariants.{Main, Settings, Window, Outside}
use Rattle.flash.specs.declared.Place.{Place}
use Rattle.flash.specs.Regions.{has_protected, place_of}
use Rattle.flash.specs.Memory.{Memory, bytes_in}
use Rattle.session_act.specs.declared.Order.{Order}
use Rattle.session_act.specs.declared.Order.TheVariants.{Keep}
use Rattle.session_act.specs.declared.Planned.{Planned}
use Rattle.session_act.specs.Orders.{carried_out}
use Rattle.session_act.specs.Plans.{planned}
use Rattle.session_act.specs.Info.{with_version, info_planned}
use Rattle.session_act.specs.Erasing.{range_erase_in, range_erase, mode_off, mode_with_password, lacks_reset_password, factory_reset}
use Rattle.session_act.specs.Programming.{is_outside, is_window, is_aligned, written_in, program_at}
use Rattle.session_act.specs.Showing.{readout_on, read_back_at}
use Rattle.session_act.specs.Acting.{task_planned, plan_of}

-- ---- a plan shows no byte of memory, or it keeps memory

module _ (P : Planned → Type 0) (shows_none : (reply : Reply) (order : Order) → P (planned reply order Outside 0 0))
    (keeps : (reply : Reply) (region : Region) (offset size : ℕ) → size ≤ read_back_most → P (planned reply Keep region offset size)) where
  with_version_lem : (size pointer main_size : ℕ) (reply : Reply) → size ≤ read_back_most → P (with_version size pointer main_size reply)
  unfolding with_version
  with_version_lem size pointer main_size reply few =
      by_pick P (eqb (pointer % size) 0) _ _
      (λ y. by_pick P (leb (pointer + size) main_size) _ _ (λ t. keeps reply Main pointer size few) (λ n. shows_none _ _))
      (λ n. shows_none _ _)

  tell_info : (long : Bool) (shown : Shown) (main_size : ℕ) → P (info_planned long shown main_size)
  tell_info false shown main_size = with_version_lem 4 _ main_size _ (omega arith)
  tell_info true shown main_size = with_version_lem 8 _ main_size _ (omega arith)

  erase_in : (start end : ℕ) (protected : Bool) (region : Region) → P (range_erase_in start end protected region)
  erase_in start end protected Main = by_pick P protected _ _ (λ y. shows_none _ _) (λ n. shows_none _ _)
  erase_in start end protected Settings = shows_none _ _
  erase_in start end protected Window = shows_none _ _
  erase_in start end protected Outside = shows_none _ _

  range_erase_lem : (part : Part) (main_size : ℕ) (protection : List ℕ) (settings_bit start end : ℕ) → P (range_erase part main_size protection settings_bit start end)
  unfolding range_erase
  range_erase_lem part main_size protection settings_bit start end =
      let place = place_of part main_size protection settings_bit start (end - start + 1) in
      by_pick P (ltb end start) _ _ (λ y. shows_none _ _) (λ n. erase_in start end (has_protected place) place.region)

  program : (part : Part) (protection : List ℕ) (settings_bit address size : ℕ) (memory : Memory) (place : Place)
      → P (program_at part protection settings_bit address size memory place)
  unfolding program_at
  program part protection settings_bit address size memory place =
      by_pick P (is_outside place.region) _ _ (λ y. shows_none _ _)
      (λ n. by_pick P (is_window place.region) _ _ (λ y. shows_none _ _)
      (λ n. by_pick P (is_aligned part.word_size address size) _ _
      (λ y. by_pick P (has_protected place) _ _ (λ k. shows_none _ _)
      (λ o. by_pick P (written_in part protection settings_bit place.offset size memory place.region) _ _ (λ w. shows_none _ _) (λ b. shows_none _ _)))
      (λ n. shows_none _ _)))

  read_back : (readout size : ℕ) (place : Place) → P (read_back_at readout size place)
  unfolding read_back_at
  read_back readout size place =
      by_pick P (eqb readout readout_on) _ _
      (λ on. by_pick P (eqb size 0) _ _ (λ y. shows_none _ _)
      (λ some. by_pick P (ltb read_back_most size) _ _ (λ y. shows_none _ _)
      (λ few. by_pick P (is_outside place.region) _ _ (λ y. shows_none _ _) (λ n. keeps Bytes place.region place.offset size (ltb-false read_back_most size few)))))
      (λ off. shows_none _ _)

  reset : (mode : ℕ) (with right : Bool) → P (factory_reset mode with right)
  unfolding factory_reset
  reset mode with right =
      by_pick P (eqb mode mode_off) _ _ (λ y. shows_none _ _)
      (λ on. by_pick P (eqb mode mode_with_password) _ _
      (λ y. by_pick P (lacks_reset_password with right) _ _ (λ l. shows_none _ _) (λ h. shows_none _ _))
      (λ n. shows_none _ _))

  module _ (part : Part) (main_size : ℕ) (shown : Shown) (protection : List ℕ) (right : Bool) (memory : Memory) where
    abbrev place : ℕ → ℕ → Place
    place first count = place_of part main_size protection shown.settings_protected first count

    every_task : (task : Guarded) → P (task_planned part main_size shown protection right memory task)
    every_task (guarded.RangeErase start end) = range_erase_lem part main_size protection shown.settings_protected start end
    every_task guarded.MassErase = shows_none _ _
    every_task (guarded.Program address size silent) =
        program part protection shown.settings_protected address size memory (place address size)
    every_task (guarded.ReadBack address size) = read_back shown.readout size (place address size)
    every_task (guarded.Verify address size) = shows_none _ _
    every_task (guarded.FactoryReset with) = reset shown.reset_mode with right
    every_task guarded.WrongLength = shows_none _ _

    -- what holds of an answer without bytes, whatever is ordered, and of any with so many bytes beside no order holds of every plan
    pub every_plan : (effect : Effect) → P (plan_of part main_size shown protection right memory effect)
    every_plan (Say reply) = shows_none _ _
    every_plan TellInfo = tell_info part.long_version shown (length memory.main)
    every_plan Strike = shows_none _ _
    every_plan (Perform task) = every_task task

-- ---- so no reply depends on memory after the order

-- the bytes of memory that go with a plan's reply
abbrev pub bytes_beside : Memory → Planned → List ℕ
bytes_beside memory planned = bytes_in planned.offset planned.count memory planned.region

-- the bytes of a plan's reply, those of memory among them
abbrev pub replied_by : Memory → Planned → List ℕ
replied_by memory planned = reply_bytes planned.reply (bytes_beside memory planned)

module _ (part : Part) (shown : Shown) (protection packet : List ℕ) (before : Memory) (main_size : ℕ) (right : Bool) (effect : Effect) where
  abbrev plans : Planned
  plans = plan_of part main_size shown protection right before effect

  abbrev after : Memory
  after = carried_out part shown protection packet before plans.order

  -- the bytes that are shown are the same before the order is carried out and after it
  pub bytes_need_no_order : bytes_beside after plans ≡ bytes_beside before plans
  bytes_need_no_order =
      every_plan (λ planned. bytes_beside (carried_out part shown protection packet before planned.order) planned ≡ bytes_beside before planned)
      (λ reply order. refl) (λ reply region offset size few. refl) part main_size shown protection right before effect

  -- so a reply can be written before its order is carried out, as a device does that hands the order to a driver
  pub replies_need_no_order : replied_by after plans ≡ replied_by before plans
  replies_need_no_order = ap (reply_bytes plans.reply) bytes_need_no_order
