-- The ways in which a packet can end, one by one: what holds of each of them holds of every packet.
use mathlib.Core.Path.{◌≡◌, refl, ap, ◌∙◌}
use mathlib.Core.Bool.{Bool, true, false}
use mathlib.Core.List.{List}
use Prim.Native.Nat.{ℕ, ◌≤◌, ◌<◌}
use native.Mathlib.Omega.{arith}
use borrow.Author.Tests.{eqb-true, eqb-false, ltb-true, ltb-false}
use lib.Dec.{ltb, eqb}
use lib.ListN.{length}
use Rattle.octets.proofs.Searching.{by_pick}
use Rattle.line.specs.Codes as codes
use Rattle.line.specs.declared.Guarded.{Guarded}
use Rattle.line.specs.declared.Command.{Command}
use Rattle.line.specs.declared.Command.TheVariants as command
use Rattle.line.specs.Acknowledgement.{is_rate, acknowledgement}
use Rattle.line.specs.Commands.{command_of, is_known}
use Rattle.line.proofs.PacketLaws.{rate_is_known}
use Rattle.line.specs.declared.Reply.{Reply}
use Rattle.line.specs.declared.Reply.TheVariants.{Acknowledged, Message}
use Rattle.session_state.specs.declared.Phase.{Phase}
use Rattle.session_state.specs.declared.Phase.TheVariants as phase
use Rattle.session_state.specs.declared.Standing.{Standing}
use Rattle.session_state.specs.Phases.{most_wrong, is_unlocked}
use Rattle.session_state.specs.Waits.{moved_to, pass_time}
use Rattle.session_judge.specs.declared.Effect.TheVariants.{Say, TellInfo, Strike, Perform}
use Rattle.session_judge.specs.declared.Judged.{Judged}
use Rattle.session_judge.specs.Judgement.{judged, says}
use Rattle.session_judge.specs.Unlocking.{after_right, counted_up, after_wrong, asleep, alert_reset, alert_disable, alerted, tried_wrong, tried}
use Rattle.session_judge.specs.Obeying.{with_rate, obeyed}
use Rattle.session_judge.specs.Hearing.{detected, heard_in_detect, stirred, heard_in_command, heard_in, heard_after, judged_of}

module _ (last_rate : ℕ) (P : Judged → Type 0) (alert : ℕ) (right : Bool) where
  -- what is to be shown of each way, to show it of every packet that finds a session standing so
  pub record AtEach (standing : Standing) : Type 0 where
    pub said : (reply : Reply) → P (says standing reply)
    pub informed : P (judged standing TellInfo)
    pub performed : (task : Guarded) → is_unlocked standing.phase ≡ true → P (judged standing (Perform task))
    pub ended : P (says (moved_to standing phase.Ended standing.idle) (Acknowledged codes.acknowledged))
    pub rated : (id : ℕ) → is_rate last_rate id ≡ true → P (says (with_rate standing id) (Acknowledged codes.acknowledged))
    pub unlocked : right ≡ true → P (says (after_right standing) (Message codes.success))
    pub wrong : right ≡ false → counted_up standing.wrong < most_wrong
        → P (says (after_wrong standing asleep) (Message codes.password_wrong))
    pub struck : right ≡ false → most_wrong ≤ counted_up standing.wrong → alert ≡ alert_reset
        → P (judged (after_wrong standing asleep) Strike)
    pub disabled : right ≡ false → most_wrong ≤ counted_up standing.wrong → alert ≡ alert_disable
        → P (record { standing = after_wrong standing phase.Disabled; effect = Say (Message codes.alert_taken); burn = true })
    pub warned : right ≡ false → most_wrong ≤ counted_up standing.wrong → (alert ≡ alert_reset → ⊥)
        → P (says (after_wrong standing asleep) (Message codes.alert_taken))

  module _ (standing : Standing) (each : AtEach standing) where
    by_alert : right ≡ false → most_wrong ≤ counted_up standing.wrong → P (alerted standing alert)
    unfolding alerted
    by_alert w third =
        by_pick P (eqb alert alert_reset) _ _ (λ y. each.struck w third (eqb-true alert alert_reset y))
        (λ n.
        by_pick P (eqb alert alert_disable) _ _ (λ y. each.disabled w third (eqb-true alert alert_disable y))
        (λ m. each.warned w third (eqb-false alert alert_reset n)))

    by_wrong : right ≡ false → P (tried_wrong standing alert)
    unfolding tried_wrong
    by_wrong w =
        by_pick P (ltb (counted_up standing.wrong) most_wrong) _ _ (λ y. each.wrong w (ltb-true _ _ y)) (λ n. by_alert w (ltb-false _ _ n))

    by_password : P (tried standing alert right)
    unfolding tried
    by_password = by_pick P right _ _ each.unlocked by_wrong

    by_command : (unlocked : Bool) (asked : Command) → is_unlocked standing.phase ≡ unlocked
        → ((id : ℕ) → asked ≡ command.Rate id → is_rate last_rate id ≡ true) → P (obeyed standing alert unlocked right asked)
    by_command unlocked command.Connect l k = each.said _
    by_command unlocked command.Info l k = each.informed
    by_command unlocked command.Unlock l k = by_password
    by_command unlocked (command.Guarded task) l k = by_pick P unlocked _ _ (λ y. each.performed task (l ∙ y)) (λ n. each.said _)
    by_command unlocked command.Start l k = each.ended
    by_command unlocked (command.Rate id) l k = each.rated id (k id refl)
    by_command unlocked command.WrongLength l k = each.said _
    by_command unlocked command.Unknown l k = each.said _

  -- a session after the wait: a Connect ends detect, and a known command ends idle time first
  module _ (after : Standing) (connected : P (says (moved_to after (phase.Command false 0) 0) (Acknowledged codes.acknowledged)))
      (each : (idle : ℕ) → idle ≤ after.idle → AtEach (moved_to after after.phase idle))
    where
      still : (reply : Reply) → P (says after reply)
      still = (each after.idle (omega arith)).said

      by_detected : (asked : Command) → P (detected after asked)
      by_detected command.Connect = connected
      by_detected command.Info = still _
      by_detected command.Unlock = still _
      by_detected (command.Guarded task) = still _
      by_detected command.Start = still _
      by_detected (command.Rate id) = still _
      by_detected command.WrongLength = still _
      by_detected command.Unknown = still _

      in_detect : (packet : List ℕ) → P (heard_in_detect last_rate after packet)
      unfolding heard_in_detect
      in_detect packet = by_pick P (eqb (acknowledgement last_rate packet) codes.acknowledged) _ _ (λ y. by_detected (command_of packet)) (λ n. still _)

      in_command : (unlocked : Bool) (packet : List ℕ) → is_unlocked after.phase ≡ unlocked → P (heard_in_command last_rate after alert unlocked packet right)
      unfolding heard_in_command stirred
      in_command unlocked packet l =
          by_pick P (eqb (acknowledgement last_rate packet) codes.acknowledged) _ _
          (λ y.
          let known = rate_is_known last_rate packet (eqb-true _ _ y) in
          by_pick (λ (standing : Standing). P (obeyed standing alert unlocked right (command_of packet))) (is_known (command_of packet)) _ _
          (λ k. by_command (moved_to after after.phase 0) (each 0 (omega arith)) unlocked (command_of packet) l known)
          (λ n. by_command after (each after.idle (omega arith)) unlocked (command_of packet) l known))
          (λ n. still _)

      in_phase : (packet : List ℕ) (phase : Phase) → after.phase ≡ phase → P (heard_in last_rate after alert packet right phase)
      in_phase packet phase.Detect e = in_detect packet
      in_phase packet (phase.Command unlocked sleep) e = in_command unlocked packet (ap is_unlocked e)
      in_phase packet phase.Standby e = still _
      in_phase packet phase.Ended e = still _
      in_phase packet phase.Disabled e = still _

  -- and so of every packet, after any wait
  pub judged_by_outcome : (standing : Standing) (wait : ℕ) (packet : List ℕ)
      → P (says (moved_to (pass_time standing wait).standing (phase.Command false 0) 0) (Acknowledged codes.acknowledged))
      → ((idle : ℕ) → idle ≤ (pass_time standing wait).standing.idle
      → AtEach (moved_to (pass_time standing wait).standing (pass_time standing wait).standing.phase idle))
      → P (judged_of last_rate standing alert wait packet right)
  unfolding judged_of heard_after
  judged_by_outcome standing wait packet connected each =
      let after = (pass_time standing wait).standing in
      by_pick P (pass_time standing wait).heard _ _
      (λ y.
      by_pick P (eqb (length packet) 0) _ _ (λ e. still after connected each _)
      (λ n. in_phase after connected each packet after.phase refl))
      (λ n. still after connected each _)
