-- The total of wrong passwords: a wrong one adds to it, and nothing else does.
use mathlib.Core.Path.{◌≡◌, refl, sym, ap, ap₂, ◌∙◌}
use mathlib.Core.Bool.{Bool, true, false, not}
use mathlib.Core.List.{List}
use Prim.Native.Nat.{ℕ}
use native.Mathlib.Omega.{arith}
use borrow.Author.Tests.{eqb-true, ne_eqb}
use lib.Dec.{ltb, eqb}
use lib.ListN.{length}
use Rattle.octets.specs.Choice.{pick}
use Rattle.octets.proofs.Searching.{pick_true, pick_false, by_pick, by_test}
use Rattle.line.specs.Codes as codes
use Rattle.line.specs.declared.Command.{Command}
use Rattle.line.specs.declared.Command.TheVariants as command
use Rattle.line.specs.Acknowledgement.{acknowledgement}
use Rattle.line.specs.Commands.{command_of, is_known}
use Rattle.line.proofs.AcknowledgementLaws.{acknowledged_is_framed}
use Rattle.session_state.specs.declared.Phase.{Phase}
use Rattle.session_state.specs.declared.Phase.TheVariants as phase
use Rattle.session_state.specs.declared.Standing.{Standing}
use Rattle.session_state.specs.Phases.{most_wrong}
use Rattle.session_state.specs.Waits.{pass_time}
use Rattle.session_state.proofs.WaitLaws.{time_keeps_counts_and_rate}
use Rattle.session_judge.specs.declared.Judged.{Judged}
use Rattle.session_judge.specs.Unlocking.{counted_up, tried_once, alert_reset, alert_disable, alerted, tried_wrong, tried}
use Rattle.session_judge.specs.Obeying.{obeyed}
use Rattle.session_judge.specs.Hearing.{silently, detected, heard_in_detect, stirred, heard_in_command, heard_in, heard_after, judged_of}
use Rattle.session_judge.specs.Tries.{is_in_command, is_unlock, is_wrong_password}

-- the total after a packet that adds to it, or does not
abbrev totalled : ℕ → Bool → ℕ
totalled tries wrong = pick wrong (tried_once tries) tries

module _ (last_rate alert : ℕ) where
  wrong_adds : (standing : Standing) → (tried_wrong standing alert).standing.tries ≡ tried_once standing.tries
  unfolding tried_wrong alerted
  wrong_adds standing =
      by_pick Adds (ltb (counted_up standing.wrong) most_wrong) _ _ (λ y. refl)
      (λ n. by_pick Adds (eqb alert alert_reset) _ _ (λ y. refl) (λ n. by_pick Adds (eqb alert alert_disable) _ _ (λ y. refl) (λ n. refl)))
    where
      Adds : Judged → Type 0
      Adds judged = judged.standing.tries ≡ tried_once standing.tries

  password_adds : (standing : Standing) (right : Bool) → (tried standing alert right).standing.tries ≡ totalled standing.tries (not right)
  unfolding tried pick
  password_adds standing true = refl
  password_adds standing false = wrong_adds standing

  obeying_adds : (standing : Standing) (unlocked right : Bool) (asked : Command)
      → (obeyed standing alert unlocked right asked).standing.tries ≡ totalled standing.tries (pick (is_unlock asked) (not right) false)
  unfolding pick
  obeying_adds standing unlocked right command.Connect = refl
  obeying_adds standing unlocked right command.Info = refl
  obeying_adds standing unlocked right command.Unlock = password_adds standing right
  obeying_adds standing true right (command.Guarded task) = refl
  obeying_adds standing false right (command.Guarded task) = refl
  obeying_adds standing unlocked right command.Start = refl
  obeying_adds standing unlocked right (command.Rate id) = refl
  obeying_adds standing unlocked right command.WrongLength = refl
  obeying_adds standing unlocked right command.Unknown = refl

  stirring_keeps : (standing : Standing) (asked : Command) → (stirred standing asked).tries ≡ standing.tries
  unfolding stirred
  stirring_keeps standing asked = by_pick (λ (stands : Standing). stands.tries ≡ standing.tries) (is_known asked) _ _ (λ y. refl) (λ n. refl)

  module _ (packet : List ℕ) (right : Bool) where
    -- what makes an acknowledged packet a wrong password
    abbrev asks_wrongly : Bool
    asks_wrongly = pick (is_unlock (command_of packet)) (not right) false

    abbrev is_acknowledged : Bool
    is_acknowledged = eqb (acknowledgement last_rate packet) codes.acknowledged

    command_adds : (standing : Standing) (unlocked : Bool)
        → (heard_in_command last_rate standing alert unlocked packet right).standing.tries ≡ totalled standing.tries (pick is_acknowledged asks_wrongly false)
    unfolding heard_in_command
    command_adds standing unlocked =
        by_test is_acknowledged
        (λ y.
        ap (λ (judged : Judged). judged.standing.tries) (pick_true _ _ y)
        ∙ obeying_adds (stirred standing (command_of packet)) unlocked right (command_of packet)
        ∙ ap (λ (tries : ℕ). totalled tries asks_wrongly) (stirring_keeps standing (command_of packet))
        ∙ ap (totalled standing.tries) (sym (pick_true _ _ y)))
        (λ n. ap (λ (judged : Judged). judged.standing.tries) (pick_false _ _ n) ∙ sym (ap (totalled standing.tries) (pick_false _ _ n) ∙ pick_false _ _ refl))

    detecting_keeps : (standing : Standing) → (heard_in_detect last_rate standing packet).standing.tries ≡ standing.tries
    unfolding heard_in_detect
    detecting_keeps standing =
        by_pick (λ (judged : Judged). judged.standing.tries ≡ standing.tries) is_acknowledged _ _ (λ y. connecting_keeps (command_of packet)) (λ n. refl)
      where
        connecting_keeps : (asked : Command) → (detected standing asked).standing.tries ≡ standing.tries
        connecting_keeps command.Connect = refl
        connecting_keeps command.Info = refl
        connecting_keeps command.Unlock = refl
        connecting_keeps (command.Guarded task) = refl
        connecting_keeps command.Start = refl
        connecting_keeps (command.Rate id) = refl
        connecting_keeps command.WrongLength = refl
        connecting_keeps command.Unknown = refl

    phase_adds : (standing : Standing) (phase : Phase)
        → (heard_in last_rate standing alert packet right phase).standing.tries ≡ totalled standing.tries (pick (is_in_command phase) (pick is_acknowledged asks_wrongly false) false)
    unfolding pick
    phase_adds standing phase.Detect = detecting_keeps standing
    phase_adds standing (phase.Command unlocked sleep) = command_adds standing unlocked
    phase_adds standing phase.Standby = refl
    phase_adds standing phase.Ended = refl
    phase_adds standing phase.Disabled = refl

    -- an empty packet is not acknowledged
    empty_asks_nothing : length packet ≡ 0 → is_acknowledged ≡ false
    empty_asks_nothing empty = ne_eqb (acknowledgement last_rate packet) codes.acknowledged (λ e. omega (arith, empty, (acknowledged_is_framed last_rate packet e).size))

    module _ (standing : Standing) (wait : ℕ) where
      abbrev after : Standing
      after = (pass_time standing wait).standing

      heard_adds : (pick (eqb (length packet) 0) (silently after) (heard_in last_rate after alert packet right after.phase)).standing.tries
          ≡ totalled after.tries (pick (is_in_command after.phase) (pick is_acknowledged asks_wrongly false) false)
      heard_adds =
          by_test (eqb (length packet) 0)
          (λ y.
          let quiet : pick (is_in_command after.phase) (pick is_acknowledged asks_wrongly false) false ≡ false =
          by_pick (λ test. test ≡ false) (is_in_command after.phase) _ _ (λ c. pick_false _ _ (empty_asks_nothing (eqb-true _ _ y))) (λ n. refl) in
          ap (λ (judged : Judged). judged.standing.tries) (pick_true _ _ y) ∙ sym (ap (totalled after.tries) quiet ∙ pick_false _ _ refl))
          (λ n. ap (λ (judged : Judged). judged.standing.tries) (pick_false _ _ n) ∙ phase_adds after after.phase)

      -- a wrong password adds to the total, and nothing else does: no right one, no other packet, no time
      pub wrong_passwords_add : (judged_of last_rate standing alert wait packet right).standing.tries
          ≡ pick (is_wrong_password last_rate standing wait packet right) (tried_once standing.tries) standing.tries
      unfolding judged_of heard_after is_wrong_password
      wrong_passwords_add =
          let same = (time_keeps_counts_and_rate standing wait).2 in
          by_test (pass_time standing wait).heard
          (λ y.
          ap (λ (judged : Judged). judged.standing.tries) (pick_true _ _ y) ∙ heard_adds
          ∙ ap₂ totalled same (sym (pick_true _ _ y)))
          (λ n. ap (λ (judged : Judged). judged.standing.tries) (pick_false _ _ n) ∙ same ∙ sym (ap (totalled standing.tries) (pick_false _ _ n) ∙ pick_false _ _ refl))
