-- 01, Phases and waits: "In detect only an exact Connect is answered (0x00, command phase locked, idle 0); others get no reply."
-- An exact Connect is eight bytes: header, L, core and the checksum that 01 marks.
use mathlib.Core.Path.{◌≡◌, refl, sym, ap, subst, ◌∙◌}
use mathlib.Core.Bool.{false}
use mathlib.Core.List.{List, [], ◌∷◌, ◌++◌}
use Prim.Native.Nat.{ℕ, ◌+◌, ◌<◌}
use native.Mathlib.Omega.{arith}
use borrow.Author.Tests.{eqb-true}
use lib.Dec.{eqb}
use lib.ListN.{length, get_or, take}
use lib.Seq.{take_all, drop-cons}
use Rattle.octets.specs.Choice.{pick}
use Rattle.octets.specs.Number.{number_of, bytes_of, part, number_at}
use Rattle.octets.proofs.Parts.{parts_join}
use Rattle.octets.proofs.Searching.{by_pick}
use Rattle.checksum.specs.Checksum.{bit_on, bits_on, byte_on, checksum_from, checksum_of}
use Rattle.checksum.specs.Marked.{cases, every_marked_case_holds}
use Rattle.line.specs.Codes as codes
use Rattle.line.specs.declared.Command.{Command}
use Rattle.line.specs.declared.Command.TheVariants as command
use Rattle.line.specs.Packet.{length_in, core_in, code_in}
use Rattle.line.specs.Acknowledgement.{rate_unknown, checksum_differs, acknowledgement}
use Rattle.line.specs.Commands.{length_fits, open_of, command_of}
use Rattle.line.proofs.AcknowledgementLaws.{acknowledged_is_framed}
use Rattle.line.proofs.CommandLaws.{Stands, read_stands}
use Rattle.settings.proofs.AgainLaws.{number_again}
use Rattle.line.specs.declared.Reply.TheVariants.{Acknowledged}
use Rattle.session_state.specs.declared.Phase.TheVariants as phase
use Rattle.session_state.specs.declared.Standing.{Standing}
use Rattle.session_state.specs.Waits.{moved_to}
use Rattle.session_judge.specs.declared.Judged.{Judged}
use Rattle.session_judge.specs.Judgement.{says}
use Rattle.session_judge.specs.Hearing.{silently, detected, heard_in_detect}

-- 01, Marked cases and the rest: "request checksums (004) 12: 3A 61 44 DE"
abbrev pub exact_connect : List ℕ
exact_connect = 0x80 ∷ 0x01 ∷ 0x00 ∷ 0x12 ∷ 0x3A ∷ 0x61 ∷ 0x44 ∷ 0xDE ∷ []

-- the first of the marked cases
connect_sum : bytes_of 4 (checksum_of (0x12 ∷ [])) ≡ 0x3A ∷ 0x61 ∷ 0x44 ∷ 0xDE ∷ []
unfolding cases
connect_sum = ap (λ (sums : List (List ℕ)). get_or sums 0 []) every_marked_case_holds

-- it is acknowledged, and read as a Connect
pub exact_connect_is_read : (last_rate : ℕ) → (acknowledgement last_rate exact_connect ≡ codes.acknowledged) × (command_of exact_connect ≡ command.Connect)
unfolding acknowledgement checksum_differs rate_unknown command_of codes.is_one_of length_fits open_of pick number_of checksum_of checksum_from byte_on bits_on bit_on
exact_connect_is_read last_rate = (refl, refl)

module _ (last_rate : ℕ) (packet : List ℕ) (each : (k : ℕ) → get_or packet k 0 < 256) (fine : acknowledgement last_rate packet ≡ codes.acknowledged)
    (asked : command_of packet ≡ command.Connect) where
  -- its core is the command byte alone, so that it has eight bytes
  reads : (code_in packet ≡ codes.connect) × (length_in packet ≡ 1)
  reads = subst (Stands packet) asked (read_stands packet)

  eight : length packet ≡ 8
  eight = (acknowledged_is_framed last_rate packet fine).size ∙ ap (λ (count : ℕ). count + 7) reads.1

  byte_there : (at : ℕ) → at < 8 → part at 1 packet ≡ get_or packet at 0 ∷ []
  byte_there at h = ap (take 1) (drop-cons packet at 0 (omega (arith, eight)))

  header_there : part 0 1 packet ≡ 0x80 ∷ []
  header_there = byte_there 0 (omega arith) ∙ ap (λ (byte : ℕ). byte ∷ []) (acknowledged_is_framed last_rate packet fine).header

  length_there : part 1 2 packet ≡ 0x01 ∷ 0x00 ∷ []
  unfolding bytes_of
  length_there = sym (number_again packet each 1 2 (omega (arith, eight))) ∙ ap (bytes_of 2) reads.1

  core_there : part 3 1 packet ≡ 0x12 ∷ []
  core_there = byte_there 3 (omega arith) ∙ ap (λ (byte : ℕ). byte ∷ []) reads.0

  sum_there : part 4 4 packet ≡ 0x3A ∷ 0x61 ∷ 0x44 ∷ 0xDE ∷ []
  sum_there =
      let core : core_in packet ≡ 0x12 ∷ [] = ap (λ (count : ℕ). part 3 count packet) reads.1 ∙ core_there in
      let sum : number_at 4 4 packet ≡ checksum_of (0x12 ∷ []) =
      ap (λ (count : ℕ). number_at (3 + count) 4 packet) (sym reads.1) ∙ (acknowledged_is_framed last_rate packet fine).checksum ∙ ap checksum_of core in
      sym (number_again packet each 4 4 (omega (arith, eight))) ∙ ap (bytes_of 4) sum ∙ connect_sum

  in_parts : part 0 1 packet ++ (part 1 2 packet ++ (part 3 1 packet ++ part 4 4 packet)) ≡ packet
  in_parts = rw (parts_join 3 1 4 packet, parts_join 1 2 5 packet, parts_join 0 1 7 packet) (take_all 8 packet (omega (arith, eight)))

  -- no other bytes are acknowledged and read as a Connect
  pub connect_is_exact : packet ≡ exact_connect
  connect_is_exact = sym in_parts ∙ rw (header_there, length_there, core_there, sum_there)

-- ---- in detect

pub exact_connect_is_answered : (last_rate : ℕ) (standing : Standing)
    → heard_in_detect last_rate standing exact_connect ≡ says (moved_to standing (phase.Command false 0) 0) (Acknowledged codes.acknowledged)
unfolding heard_in_detect pick
exact_connect_is_answered last_rate standing = rw ((exact_connect_is_read last_rate).0, (exact_connect_is_read last_rate).1)

-- another command is not answered
other_is_silent : (standing : Standing) (asked : Command) → (asked ≡ command.Connect → ⊥) → detected standing asked ≡ silently standing
other_is_silent standing command.Connect other = absurd (other refl)
other_is_silent standing command.Info other = refl
other_is_silent standing command.Unlock other = refl
other_is_silent standing (command.Guarded task) other = refl
other_is_silent standing command.Start other = refl
other_is_silent standing (command.Rate id) other = refl
other_is_silent standing command.WrongLength other = refl
other_is_silent standing command.Unknown other = refl

pub others_get_no_reply : (last_rate : ℕ) (standing : Standing) (packet : List ℕ) → ((k : ℕ) → get_or packet k 0 < 256) → (packet ≡ exact_connect → ⊥)
    → heard_in_detect last_rate standing packet ≡ silently standing
unfolding heard_in_detect
others_get_no_reply last_rate standing packet each other =
    by_pick (λ (judged : Judged). judged ≡ silently standing) (eqb (acknowledgement last_rate packet) codes.acknowledged) _ _
    (λ fine. other_is_silent standing (command_of packet) (λ asked. other (connect_is_exact last_rate packet each (eqb-true _ _ fine) asked)))
    (λ damaged. refl)
