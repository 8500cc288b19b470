-- 01, Settings image: "Bits for sectors beyond MAIN are kept and have no effect." A call leaves the same where only such bits differ.
use mathlib.Core.Path.{◌≡◌, refl, sym, ap, ap₂, ◌∙◌}
use mathlib.Core.Bool.{Bool, not}
use mathlib.Core.List.{List}
use Prim.Native.Nat.{ℕ, ◌+◌, ◌-◌, ◌*◌, ◌/◌, ◌<◌}
use native.Mathlib.Nat.{div-mul-le_self}
use native.Mathlib.Omega.{arith}
use borrow.Author.Tests.{not-false}
use lib.Dec.{ltb, eqb}
use lib.ListN.{length}
use Rattle.octets.specs.Choice.{pick}
use Rattle.octets.proofs.Searching.{pick_true, pick_false, by_test, by_pick}
use Rattle.parts.specs.declared.Part.{Part}
use Rattle.line.specs.Codes as codes
use Rattle.line.specs.Codes.{reply_limit}
use Rattle.line.specs.declared.Reply.TheVariants.{FlashError}
use Rattle.line.specs.declared.Guarded.{Guarded}
use Rattle.line.specs.declared.Guarded.TheVariants as guarded
use Rattle.line.specs.Packet.{data_in}
use Rattle.settings.specs.declared.Shown.{Shown}
use Rattle.flash.specs.Memory.{Memory, memory}
use Rattle.flash.specs.declared.Place.{Place}
use Rattle.flash.specs.Regions.{main_start, lies_within, has_protected, place_of}
use Rattle.flash.specs.Protection.{is_protected}
use Rattle.flash.specs.Erasing.{erase_of, erase_all_of}
use Rattle.flash.proofs.ProtectionLaws.{bits_beyond_have_no_effect}
use Rattle.flash.proofs.RegionLaws.{within_bounds, places_alike}
use Rattle.flash.proofs.WordLaws.{words_alike}
use Rattle.flash.specs.Programming.{program_of}
use Rattle.session_judge.specs.declared.Effect.{Effect}
use Rattle.session_judge.specs.declared.Effect.TheVariants.{Say, TellInfo, Strike, Perform}
use Rattle.session_judge.specs.declared.Judged.{Judged}
use Rattle.session_act.specs.declared.Order.{Order}
use Rattle.session_act.specs.declared.Order.TheVariants.{Keep, EraseBetween, EraseMain, EraseBoth, ProgramMain, ProgramSettings, StoreWindow}
use Rattle.session_act.specs.declared.Planned.{Planned}
use Rattle.session_act.specs.Board.{acted, board, settings_protection}
use Rattle.session_act.specs.Orders.{carried_out}
use Rattle.session_act.specs.Plans.{says, tells, orders}
use Rattle.session_act.specs.Erasing.{range_erase_at, range_erase}
use Rattle.session_act.specs.Programming.{is_outside, is_window, is_aligned, written_in, program_in, program_at, program}
use Rattle.session_act.specs.Showing.{read_back_at, verify_at}
use Rattle.session_act.specs.Acting.{task_planned, plan_of, act_of}
use Rattle.session.specs.declared.Session.{Session}
use Rattle.session.specs.CallAnswers.{Left, left}
use Rattle.session.specs.Records.{is_record}
use Rattle.session.proofs.RecordLaws.{record_by_clauses}
use Rattle.session.specs.Calling.{judgement, answered, serve_of, call_of}

module _ (part : Part) where
  -- bits that say the same of every sector of a memory of so many bytes
  abbrev pub AgreeWithin : ℕ → List ℕ → List ℕ → Type 0
  AgreeWithin size bits others = (sector : ℕ) → sector * part.sector_size < size → is_protected bits sector ≡ is_protected others sector

  -- ---- what is done

  module _ (main_size : ℕ) (shown : Shown) (bits others : List ℕ) (before : Memory) (agree : AgreeWithin (length before.main) bits others)
      (whole : length before.main ≡ main_size) where
    erased_same : (first last : ℕ) → erase_of part.sector_size bits first last before.main ≡ erase_of part.sector_size others first last before.main
    unfolding erase_of
    erased_same first last = bits_beyond_have_no_effect part.sector_size bits others _ before.main agree

    all_erased_same : erase_all_of part.sector_size bits before.main ≡ erase_all_of part.sector_size others before.main
    unfolding erase_all_of
    all_erased_same = bits_beyond_have_no_effect part.sector_size bits others _ before.main agree

    programmed_same : (at : ℕ) (bytes : List ℕ) → program_of part.sector_size bits at bytes before.main ≡ program_of part.sector_size others at bytes before.main
    unfolding program_of
    programmed_same at bytes = bits_beyond_have_no_effect part.sector_size bits others _ before.main agree

    -- an order leaves the same
    order_same : (packet : List ℕ) (order : Order) → carried_out part shown bits packet before order ≡ carried_out part shown others packet before order
    order_same packet Keep = refl
    order_same packet (EraseBetween start end) =
        ap (λ (main : List ℕ). memory main before.settings before.window) (erased_same (start / part.sector_size) (end / part.sector_size))
    order_same packet EraseMain = ap (λ (main : List ℕ). memory main before.settings before.window) all_erased_same
    order_same packet EraseBoth =
        ap (λ (main : List ℕ). memory main (erase_all_of part.sector_size (settings_protection shown) before.settings) before.window) all_erased_same
    order_same packet (ProgramMain offset size) = ap (λ (main : List ℕ). memory main before.settings before.window) (programmed_same offset (data_in size packet))
    order_same packet (ProgramSettings offset size) = refl
    order_same packet (StoreWindow offset size) = refl

    -- a range has the same place, and a command the same plan
    place_same : (first count : ℕ) → place_of part main_size bits shown.settings_protected first count ≡ place_of part main_size others shown.settings_protected first count
    place_same first count =
        places_alike part main_size bits others shown.settings_protected first count (λ sector h. agree sector (omega (arith, h, whole)))

    -- so many bytes at a place have the same words that are written
    abbrev WordsAlike : ℕ → Place → Type 0
    WordsAlike size place =
        written_in part bits shown.settings_protected place.offset size before place.region
        ≡ written_in part others shown.settings_protected place.offset size before place.region

    -- those of a range in MAIN are in its sectors
    words_same : (address size : ℕ) → WordsAlike size (place_of part main_size others shown.settings_protected address size)
    unfolding place_of
    words_same address size =
        by_pick (WordsAlike size) (lies_within main_start main_size address size) _ _
        (λ y.
        let b = within_bounds main_start main_size address size y in
        words_alike part.sector_size bits others part.word_size (address - main_start) size before.main
        (λ place h. agree (place / part.sector_size) (omega (arith, div-mul-le_self place part.sector_size, h, b, whole))))
        (λ n. by_pick (WordsAlike size) (lies_within part.settings_start part.settings_size address size) _ _ (λ y. refl)
        (λ o. by_pick (WordsAlike size) (lies_within part.window_start part.window_size address size) _ _ (λ y. refl) (λ v. refl)))

    program_same : (address size : ℕ) → program part main_size bits shown.settings_protected address size before
        ≡ program part main_size others shown.settings_protected address size before
    unfolding program_at
    program_same address size =
        let place = place_of part main_size others shown.settings_protected address size in
        ap (program_at part bits shown.settings_protected address size before) (place_same address size)
        ∙ ap (λ (written : Bool).
        pick (is_outside place.region) (tells codes.invalid_range)
        (pick (is_window place.region) (orders codes.success (program_in place.offset size place.region))
        (pick (is_aligned part.word_size address size)
        (pick (has_protected place) (tells codes.invalid_range)
        (pick written (says FlashError) (orders codes.success (program_in place.offset size place.region))))
        (tells codes.not_aligned))))
        (words_same address size)

    task_same : (right : Bool) (task : Guarded) → task_planned part main_size shown bits right before task ≡ task_planned part main_size shown others right before task
    unfolding range_erase
    task_same right (guarded.RangeErase start end) =
        ap (λ (place : Place). pick (ltb end start) (tells codes.invalid_range) (range_erase_at start end place)) (place_same start (end - start + 1))
    task_same right guarded.MassErase = refl
    task_same right (guarded.Program address size silent) = program_same address size
    task_same right (guarded.ReadBack address size) = ap (read_back_at shown.readout size) (place_same address size)
    task_same right (guarded.Verify address size) = ap (λ (place : Place). says (verify_at part size before place)) (place_same address size)
    task_same right (guarded.FactoryReset with) = refl
    task_same right guarded.WrongLength = refl

    plan_same : (right : Bool) (effect : Effect) → plan_of part main_size shown bits right before effect ≡ plan_of part main_size shown others right before effect
    plan_same right (Say reply) = refl
    plan_same right TellInfo = refl
    plan_same right Strike = refl
    plan_same right (Perform task) = task_same right task

    -- so the same is done
    act_same : (right : Bool) (packet : List ℕ) (effect : Effect)
        → act_of (board part main_size shown bits) right packet before effect ≡ act_of (board part main_size shown others) right packet before effect
    act_same right packet effect =
        ap (acted (plan_of part main_size shown bits right before effect).reply) (order_same packet (plan_of part main_size shown bits right before effect).order)
        ∙ ap (λ (planned : Planned). acted planned.reply (carried_out part shown others packet before planned.order)) (plan_same right effect)

  -- ---- a call

  -- a session with other protection bits
  abbrev pub with_bits : List ℕ → Session → Session
  with_bits bits session = record {
    standing = session.standing;
    main_size = session.main_size;
    settings = record {
      shown = session.settings.shown;
      protection = bits;
      password = session.settings.password;
      reset_password = session.settings.reset_password;
    };
  }

  abbrev pub left_with_bits : List ℕ → Left → Left
  left_with_bits bits after = left after.answer (with_bits bits after.session) after.memory after.area

  module _ (session : Session) (bits : List ℕ) (before : Memory) (wait : ℕ) (packet area : List ℕ)
      (agree : AgreeWithin (length before.main) bits session.settings.protection) where
    abbrev judged : Judged
    judged = judgement part.last_rate session wait packet

    served_same : length before.main ≡ session.main_size
        → serve_of part (with_bits bits session) before wait packet area ≡ left_with_bits bits (serve_of part session before wait packet area)
    unfolding serve_of
    served_same whole =
        ap₂ (answered (with_bits bits session) packet area judged)
        (plan_same _ session.settings.shown bits session.settings.protection before agree whole _ judged.effect)
        (act_same _ session.settings.shown bits session.settings.protection before agree whole _ packet judged.effect)

    -- the answer, how the session stands, both images, the window and the reply area are the same; the bits are kept
    pub bits_beyond_main_have_no_effect : call_of part (with_bits bits session) before wait packet area ≡ left_with_bits bits (call_of part session before wait packet area)
    unfolding call_of is_record
    bits_beyond_main_have_no_effect =
        by_test (ltb (length area) reply_limit)
        (λ y. pick_true _ _ y ∙ sym (ap (left_with_bits bits) (pick_true _ _ y)))
        (λ n.
        pick_false _ _ n
        ∙ by_test (not (eqb (length before.window) part.window_size))
        (λ y. pick_true _ _ y ∙ sym (ap (left_with_bits bits) (pick_true _ _ y)))
        (λ w.
        pick_false _ _ w
        ∙ by_test (not (is_record part session (length before.main) (length before.settings)))
        (λ y. pick_true _ _ y ∙ sym (ap (left_with_bits bits) (pick_true _ _ y)))
        (λ m. pick_false _ _ m ∙ served_same (record_by_clauses part session (length before.main) (length before.settings) (not-false _ m)).main ∙ sym (ap (left_with_bits bits) (pick_false _ _ m)))
        ∙ sym (ap (left_with_bits bits) (pick_false _ _ w)))
        ∙ sym (ap (left_with_bits bits) (pick_false _ _ n)))
