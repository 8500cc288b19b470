-- A packet without the password: it is judged alike whatever the password is, and three wrong ones are counted only where the alert strikes.
use mathlib.Core.Path.{◌≡◌, refl, sym, ap, ◌∙◌}
use mathlib.Core.Bool.{Bool, true, false, true≢false}
use mathlib.Core.List.{List}
use Prim.Native.Nat.{ℕ, ◌<◌}
use native.Mathlib.Omega.{arith}
use borrow.Author.Tests.{eqb-true, ne_eqb}
use lib.Dec.{eqb}
use lib.ListN.{length}
use Rattle.octets.specs.Choice.{pick}
use Rattle.octets.proofs.Searching.{pick_true, pick_false, by_test}
use Rattle.line.specs.Codes as codes
use Rattle.line.specs.declared.Command.{Command}
use Rattle.line.specs.declared.Command.TheVariants as command
use Rattle.line.specs.Packet.{code_in}
use Rattle.line.specs.Acknowledgement.{acknowledgement}
use Rattle.line.specs.Commands.{command_of}
use Rattle.line.proofs.CommandLaws.{Stands, read_stands}
use Rattle.line.proofs.AcknowledgementLaws.{acknowledged_is_framed}
use Rattle.session_state.specs.declared.Phase.{Phase}
use Rattle.session_state.specs.declared.Phase.TheVariants as phase
use Rattle.session_state.specs.declared.Standing.{Standing}
use Rattle.session_state.specs.Phases.{most_wrong, is_valid}
use Rattle.session_state.specs.Waits.{pass_time}
use Rattle.session_state.proofs.PhaseLaws.{valid_by_parts}
use Rattle.session_state.proofs.WaitLaws.{time_keeps_counts_and_rate}
use Rattle.session_judge.specs.declared.Judged.{Judged}
use Rattle.session_judge.specs.declared.Effect.TheVariants.{Strike}
use Rattle.session_judge.specs.Unlocking.{counted_up, alert_reset, tried}
use Rattle.session_judge.proofs.UnlockingLaws.{counted_up_lem}
use Rattle.session_judge.specs.Obeying.{obeyed}
use Rattle.session_judge.specs.Hearing.{silently, stirred, heard_in_command, heard_in, heard_after, judged_of}
use Rattle.session_judge.proofs.OutcomeLaws.{judged_by_outcome}

-- ---- the password bit

-- the bit is looked at for Unlock alone
module _ (last_rate alert : ℕ) (right : Bool) where
  obeyed_alike : (standing : Standing) (unlocked : Bool) (asked : Command) → (asked ≡ command.Unlock → right ≡ false)
      → obeyed standing alert unlocked right asked ≡ obeyed standing alert unlocked false asked
  obeyed_alike standing unlocked command.Connect h = refl
  obeyed_alike standing unlocked command.Info h = refl
  obeyed_alike standing unlocked command.Unlock h = ap (tried standing alert) (h refl)
  obeyed_alike standing unlocked (command.Guarded task) h = refl
  obeyed_alike standing unlocked command.Start h = refl
  obeyed_alike standing unlocked (command.Rate id) h = refl
  obeyed_alike standing unlocked command.WrongLength h = refl
  obeyed_alike standing unlocked command.Unknown h = refl

  module _ (packet : List ℕ) (without : acknowledgement last_rate packet ≡ codes.acknowledged → command_of packet ≡ command.Unlock → right ≡ false) where
    heard_alike : (standing : Standing) (unlocked : Bool)
        → heard_in_command last_rate standing alert unlocked packet right ≡ heard_in_command last_rate standing alert unlocked packet false
    unfolding heard_in_command
    heard_alike standing unlocked =
        by_test (eqb (acknowledgement last_rate packet) codes.acknowledged)
        (λ y. pick_true _ _ y ∙ obeyed_alike (stirred standing (command_of packet)) unlocked (command_of packet) (without (eqb-true _ _ y)) ∙ sym (pick_true _ _ y))
        (λ n. pick_false _ _ n ∙ sym (pick_false _ _ n))

    by_phase : (standing : Standing) (phase : Phase) → heard_in last_rate standing alert packet right phase ≡ heard_in last_rate standing alert packet false phase
    by_phase standing phase.Detect = refl
    by_phase standing (phase.Command unlocked sleep) = heard_alike standing unlocked
    by_phase standing phase.Standby = refl
    by_phase standing phase.Ended = refl
    by_phase standing phase.Disabled = refl

    -- a packet is judged by the password only where it is acknowledged and an Unlock
    pub only_unlock_is_compared : (standing : Standing) (wait : ℕ) → judged_of last_rate standing alert wait packet right ≡ judged_of last_rate standing alert wait packet false
    unfolding judged_of heard_after
    only_unlock_is_compared standing wait =
        let after = pass_time standing wait in
        ap (λ (heard : Judged). pick after.heard (pick (eqb (length packet) 0) (silently after.standing) heard) (silently after.standing))
        (by_phase after.standing after.standing.phase)

-- what an Unlock has: its command byte, and L 33
unlock_stands : (packet : List ℕ) → command_of packet ≡ command.Unlock → Stands packet command.Unlock
unlock_stands packet e = rw e at (read_stands packet)

-- a packet with another command byte is no Unlock
pub others_are_not_compared : (last_rate : ℕ) (packet : List ℕ) → (code_in packet ≡ codes.unlock → ⊥) → (standing : Standing) (alert wait : ℕ) (right : Bool)
    → judged_of last_rate standing alert wait packet right ≡ judged_of last_rate standing alert wait packet false
others_are_not_compared last_rate packet other standing alert wait right =
    only_unlock_is_compared last_rate alert right packet (λ a e. absurd (other (unlock_stands packet e).0)) standing wait

-- nor is one that ends before a password does
pub short_are_not_compared : (last_rate : ℕ) (packet : List ℕ) → length packet < 36 → (standing : Standing) (alert wait : ℕ) (right : Bool)
    → judged_of last_rate standing alert wait packet right ≡ judged_of last_rate standing alert wait packet false
short_are_not_compared last_rate packet short standing alert wait right =
    only_unlock_is_compared last_rate alert right packet
    (λ a e. absurd (omega (arith, short, (unlock_stands packet e).1, (acknowledged_is_framed last_rate packet a).size))) standing wait

-- ---- the third wrong password

module _ (last_rate : ℕ) (standing : Standing) (alert wait : ℕ) (packet : List ℕ) where
  abbrev is_third : ℕ → Bool
  is_third wrong = eqb wrong most_wrong

  -- where the alert is reset, no third one is counted without a strike: a count of three says that it struck
  pub no_third_without_strike : is_valid last_rate standing ≡ true → alert ≡ alert_reset → ((judged_of last_rate standing alert wait packet false).effect ≡ Strike → ⊥)
      → is_third (judged_of last_rate standing alert wait packet false).standing.wrong ≡ is_third standing.wrong
  no_third_without_strike valid reset =
      let few = (valid_by_parts last_rate standing valid).wrong in
      let same = (time_keeps_counts_and_rate standing wait).0 in
      let more = (counted_up_lem (pass_time standing wait).standing.wrong).0 (omega arith) in
      judged_by_outcome last_rate (λ j. (j.effect ≡ Strike → ⊥) → is_third j.standing.wrong ≡ is_third standing.wrong) alert false standing wait packet
      (λ h. ap is_third same)
      (λ idle less.
      record {
        said = λ reply h. ap is_third same;
        informed = λ h. ap is_third same;
        performed = λ task u h. ap is_third same;
        ended = λ h. ap is_third same;
        rated = λ id known h. ap is_third same;
        unlocked = λ y h. absurd (true≢false (sym y));
        wrong = λ n below h.
            ne_eqb (counted_up (pass_time standing wait).standing.wrong) most_wrong (λ e. omega arith)
            ∙ sym (ne_eqb standing.wrong most_wrong (λ e. omega arith));
        struck = λ n third e h. absurd (h refl);
        disabled = λ n third e h. absurd (omega arith);
        warned = λ n third e h. absurd (e reset);
      })
