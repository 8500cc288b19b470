-- What Connect and Unlock do to a session that stands in the ways that matter here, two seconds after the last call.
use mathlib.Core.Path.{◌≡◌, refl}
use mathlib.Core.Bool.{Bool, false}
use mathlib.Core.List.{[], ◌∷◌}
use Prim.Native.Nat.{ℕ, ◌<◌}
use native.Mathlib.Omega.{arith}
use lib.ListN.{replicate}
use Rattle.octets.specs.Choice.{pick}
use Rattle.octets.specs.Number.{number_of, bytes_of}
use Rattle.octets.proofs.Parts.{each_none, each_cons, each_replicate}
use Rattle.parts.specs.Parts.{mspm0}
use Rattle.line.specs.declared.Command.TheVariants as command
use Rattle.line.specs.Codes.{acknowledged, connect, unlock, is_one_of}
use Rattle.line.specs.Packet.{core_in}
use Rattle.line.specs.Acknowledgement.{acknowledgement}
use Rattle.line.specs.Commands.{length_fits, open_of, command_of}
use Rattle.session_state.specs.declared.Phase.TheVariants.{Command}
use Rattle.session_state.specs.declared.Standing.{Standing}
use Rattle.session_state.specs.Phases.{rate_id_at_start, most_sleep, at_start}
use Rattle.session_state.specs.Waits.{is_idle_too_long, detect_idles, command_idles, pass_time}
use Rattle.session_judge.specs.Unlocking.{counted_up, tried_once, alert_reset, alerted, tried_wrong, tried}
use Rattle.session_judge.specs.Hearing.{stirred, heard_in_detect, heard_in_command, heard_after, judged_of}
use Rattle.claims.specs.Trials.{connects, unlocks}
use Rattle.claims.proofs.Trials.Framing.{never_empty, core_there, framed}

-- ---- the packets

pub connect_core : core_in connects.packet ≡ connect ∷ []
connect_core = core_there (connect ∷ []) (omega arith) (omega arith)

-- both are acknowledged, and read as what they are
connect_is_fine : acknowledgement mspm0.last_rate connects.packet ≡ acknowledged
unfolding bytes_of
connect_is_fine =
    framed (connect ∷ []) (omega arith) (omega arith) (each_cons connect [] (omega arith) each_none) (λ e. omega arith)

connect_is_read : command_of connects.packet ≡ command.Connect
unfolding command_of is_one_of length_fits open_of pick number_of bytes_of
connect_is_read = refl

module _ (byte : ℕ) where
  pub unlock_core : core_in (unlocks byte).packet ≡ unlock ∷ replicate 32 byte
  unlock_core = core_there (unlock ∷ replicate 32 byte) (omega arith) (omega arith)

  pub unlock_is_fine : byte < 256 → acknowledgement mspm0.last_rate (unlocks byte).packet ≡ acknowledged
  unfolding bytes_of
  unlock_is_fine h =
      framed (unlock ∷ replicate 32 byte) (omega arith) (omega arith)
      (each_cons unlock (replicate 32 byte) (omega arith) (each_replicate 32 byte h)) (λ e. omega arith)

  pub unlock_is_read : command_of (unlocks byte).packet ≡ command.Unlock
  unfolding command_of is_one_of length_fits open_of pick number_of bytes_of
  unlock_is_read = refl

-- ---- how a session stands then

-- locked, with so much sleep left, after so many wrong passwords
abbrev pub stood : ℕ → ℕ → Standing
stood sleep wrong = record { phase = Command false sleep; idle = 0; wrong = wrong; rate = rate_id_at_start; tries = wrong }

-- Connect ends detect
pub connect_connects : (alert : ℕ) (right : Bool) → (judged_of mspm0.last_rate at_start alert 2000 connects.packet right).standing ≡ stood 0 0
unfolding judged_of heard_after pass_time detect_idles is_idle_too_long heard_in_detect at_start pick
connect_connects alert right = rw (never_empty (connect ∷ []), connect_is_fine, connect_is_read)

module _ (byte : ℕ) (small : byte < 256) where
  -- two seconds wake it, and its password is tried
  pub tried_awake : (wrong alert : ℕ) (right : Bool) → judged_of mspm0.last_rate (stood 0 wrong) alert 2000 (unlocks byte).packet right ≡ tried (stood 0 wrong) alert right
  unfolding judged_of heard_after pass_time command_idles is_idle_too_long heard_in_command stirred pick
  tried_awake wrong alert right = rw (never_empty (unlock ∷ replicate 32 byte), unlock_is_fine byte small, unlock_is_read byte)

  pub tried_asleep : (wrong alert : ℕ) (right : Bool) → judged_of mspm0.last_rate (stood most_sleep wrong) alert 2000 (unlocks byte).packet right ≡ tried (stood 0 wrong) alert right
  unfolding judged_of heard_after pass_time command_idles is_idle_too_long heard_in_command stirred pick
  tried_asleep wrong alert right = rw (never_empty (unlock ∷ replicate 32 byte), unlock_is_fine byte small, unlock_is_read byte)

  -- wrong ones are counted, and make it sleep
  pub first_is_counted : (alert : ℕ) → (judged_of mspm0.last_rate (stood 0 0) alert 2000 (unlocks byte).packet false).standing ≡ stood most_sleep 1
  unfolding tried tried_wrong counted_up tried_once pick
  first_is_counted alert = rw (tried_awake 0 alert false)

  pub second_is_counted : (alert : ℕ) → (judged_of mspm0.last_rate (stood most_sleep 1) alert 2000 (unlocks byte).packet false).standing ≡ stood most_sleep 2
  unfolding tried tried_wrong counted_up tried_once pick
  second_is_counted alert = rw (tried_asleep 1 alert false)

  pub third_is_counted : (judged_of mspm0.last_rate (stood most_sleep 2) alert_reset 2000 (unlocks byte).packet false).standing ≡ stood most_sleep 3
  unfolding tried tried_wrong alerted counted_up tried_once pick
  third_is_counted = rw (tried_asleep 2 alert_reset false)
