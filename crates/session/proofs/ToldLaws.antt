-- What was planned is told whole; and what a locked board tells.
use mathlib.Core.Path.{◌≡◌, refl, sym, ap, ap₂, ◌∙◌}
use mathlib.Core.Bool.{Bool, true, false, true≢false}
use mathlib.Core.List.{List, [], ◌∷◌}
use Prim.Native.Nat.{ℕ, ◌≤◌}
use native.Mathlib.Omega.{arith}
use lib.ListN.{length}
use Rattle.octets.specs.Choice.{pick}
use Rattle.octets.specs.Number.{number_at}
use Rattle.octets.proofs.Searching.{by_test}
use Rattle.line.specs.Codes.{reply_limit, acknowledged, info_reply}
use Rattle.line.specs.Commands.{is_silent}
use Rattle.line.specs.declared.Reply.{Reply}
use Rattle.line.specs.declared.Reply.TheVariants.{Info}
use Rattle.line.specs.Replies.{read_back_most, core_reply, info_of, reply_bytes}
use Rattle.parts.specs.declared.Part.{Part}
use Rattle.parts.specs.Parts.{version_size}
use Rattle.settings.specs.declared.Shown.{Shown}
use Rattle.flash.specs.Memory.{Memory}
use Rattle.flash.proofs.RegionLaws.{most_asked}
use Rattle.session_judge.specs.declared.Effect.{Effect}
use Rattle.session_judge.specs.declared.Effect.TheVariants.{Say, TellInfo, Strike, Perform}
use Rattle.session_judge.proofs.EffectTests.{is_performed}
use Rattle.session_act.specs.declared.Planned.{Planned}
use Rattle.session_act.specs.Info.{version_at, version_of, info_planned}
use Rattle.session_act.specs.Acting.{plan_of}
use Rattle.session_act.proofs.PlanLaws.{every_plan, bytes_beside}
use Rattle.session_act.proofs.LockedLaws.{with_version_says, version_is_beside}
use Rattle.session_send.specs.Answering.{hushed, answer_of}
use Rattle.session_send.proofs.AnsweringLaws.{whole, answer_bytes, answer_is_whole}

module _ (part : Part) (main_size : ℕ) (shown : Shown) (protection : List ℕ) (right : Bool) (before after : Memory) (effect : Effect) where
  abbrev plans : Planned
  plans = plan_of part main_size shown protection right before effect

  -- no more bytes go with an answer than Read back may ask for
  few_beside : length (bytes_beside after plans) ≤ read_back_most
  few_beside =
      every_plan (λ planned. length (bytes_beside after planned) ≤ read_back_most) (λ reply order. omega arith)
      (λ reply region offset size few. omega (arith, few, most_asked offset size after region))
      part main_size shown protection right before effect

  -- Whatever was decided of a packet: the reply of its plan is sent whole in an area of 1,729 bytes. No call answers with size 0 for want of room.
  pub plan_is_told_whole : (packet area : List ℕ) → reply_limit ≤ length area
      → answer_of plans.reply plans.region plans.offset plans.count packet after area
      ≡ whole (answer_bytes plans.reply plans.region plans.offset plans.count packet after) area
  plan_is_told_whole packet area room = answer_is_whole plans.reply plans.region plans.offset plans.count packet after area few_beside room

-- ---- a locked board

-- the bytes that a plan is told in
abbrev pub told_in : List ℕ → Memory → Planned → List ℕ
told_in packet memory planned = answer_bytes planned.reply planned.region planned.offset planned.count packet memory

module _ (packet : List ℕ) where
  -- Info with this version, or only the 0x00 where the packet's command is silent
  info_in : Bool → ℕ → Shown → List ℕ
  info_in long version shown =
      pick (is_silent packet) (acknowledged ∷ []) (core_reply (info_reply ∷ info_of (version_size long) version shown.bcr_id shown.bsl_id))

  by_version : (long : Bool) (shown : Shown) (beside : List ℕ)
      → reply_bytes (hushed packet (Info long shown.bcr_id shown.bsl_id)) beside ≡ info_in long (number_at 0 (version_size long) beside) shown
  unfolding hushed reply_bytes info_in pick
  by_version false shown beside = by_test (is_silent packet) (λ y. rw y) (λ n. rw n)
  by_version true shown beside = by_test (is_silent packet) (λ y. rw y) (λ n. rw n)

  -- of all flash Info tells the version
  info_is_told : (long : Bool) (shown : Shown) (memory : Memory)
      → told_in packet memory (info_planned long shown (length memory.main))
      ≡ info_in long (version_at (version_size long) shown.version_pointer memory.main) shown
  info_is_told long shown memory =
      let size = version_size long in
      let pointer = shown.version_pointer in
      let reply = Info long shown.bcr_id shown.bsl_id in
      let beside = bytes_beside memory (info_planned long shown (length memory.main)) in
      ap (λ (reply : Reply). reply_bytes (hushed packet reply) beside) (with_version_says size pointer reply (length memory.main))
      ∙ by_version long shown beside ∙ ap (λ (version : ℕ). info_in long version shown) (version_is_beside size pointer reply memory)

  -- a locked board tells that, what may be shown of the settings, and nothing else
  module _ (part : Part) (one_size other_size : ℕ) (one_shown other_shown : Shown) (one_protection other_protection : List ℕ) (one_right other_right : Bool)
      (one other : Memory) where
    pub told_alike : one_shown ≡ other_shown → version_of part one_shown one.main ≡ version_of part other_shown other.main
        → (effect : Effect) → is_performed effect ≡ false
        → told_in packet one (plan_of part one_size one_shown one_protection one_right one effect)
        ≡ told_in packet other (plan_of part other_size other_shown other_protection other_right other effect)
    told_alike shown version (Say reply) h = refl
    told_alike shown version TellInfo h =
        let long = part.long_version in
        info_is_told long one_shown one ∙ ap₂ (info_in long) version shown ∙ sym (info_is_told long other_shown other)
    told_alike shown version Strike h = refl
    told_alike shown version (Perform task) h = absurd (true≢false h)
