-- `session_judge::hearing::heard_in_detect` meets its contract: not acknowledged, another command byte, another length, or an exact Connect.
use mathlib.Core.Path.{◌≡◌, refl, sym, ap, ◌∙◌}
use mathlib.Core.List.{List}
use Prim.Native.Nat.{ℕ, ◌+◌}
use native.Mathlib.Omega.{arith}
use lib.ListN.{length}
use Rattle.octets.specs.Choice.{pick}
use Rattle.line.specs.declared.Command.{Command}
use Rattle.line.specs.declared.Command.TheVariants as command
use Rattle.line.specs.Codes.{connect, acknowledged, is_one_of}
use Rattle.line.specs.Packet.{length_in, code_in}
use Rattle.std.specs.Prelude.{Result, Ok}
use Rattle.line.specs.declared.acknowledgement.FrameError.{FrameError}
use Rattle.line.specs.Acknowledgement.{acknowledgement, code_of}
use Rattle.line.specs.Commands.{length_fits, open_of, command_of}
use Rattle.line.proofs.AcknowledgementLaws.{acknowledged_is_framed}
use Rattle.line.proofs.CommandLaws.{read_stands}
use Rattle.session_state.specs.declared.Standing.{Standing}
use Rattle.session_judge.specs.Hearing.{silently, detected, heard_in_detect}
use Rattle.session_judge.proofs.hearing.heard_in_detect.Goals as goal

others_are_silent : (standing : Standing) (asked : Command) → (asked ≡ command.Connect → ⊥) → detected standing asked ≡ silently standing
others_are_silent standing command.Connect h = absurd (h refl)
others_are_silent standing command.Info h = refl
others_are_silent standing command.Unlock h = refl
others_are_silent standing (command.Guarded task) h = refl
others_are_silent standing command.Start h = refl
others_are_silent standing (command.Rate id) h = refl
others_are_silent standing command.WrongLength h = refl
others_are_silent standing command.Unknown h = refl

-- where nothing is wrong the code is 0x00
framed_by : {answer : Result Unit FrameError} {code : ℕ} {nothing : Unit} → code_of answer ≡ code → answer ≡ Ok nothing → code ≡ acknowledged
framed_by e f = sym e ∙ ap code_of f

module _ (packet : List ℕ) where
  connect_stands : command_of packet ≡ command.Connect → (code_in packet ≡ connect) × (length_in packet ≡ 1)
  connect_stands e = rw e at (read_stands packet)

  other_code : (standing : Standing) → (code_in packet ≡ connect → ⊥) → detected standing (command_of packet) ≡ silently standing
  other_code standing h = others_are_silent standing (command_of packet) (λ e. h (connect_stands e).0)

  other_size : (last_rate : ℕ) (standing : Standing) → acknowledgement last_rate packet ≡ acknowledged → (length packet ≡ 8 → ⊥)
      → detected standing (command_of packet) ≡ silently standing
  other_size last_rate standing a h =
      others_are_silent standing (command_of packet)
      (λ e.
      let size : length packet ≡ length_in packet + 7 = (acknowledged_is_framed last_rate packet a).size in
      let one : length_in packet ≡ 1 = (connect_stands e).1 in
      h (omega arith))

  exact_is_connect : (last_rate : ℕ) → acknowledgement last_rate packet ≡ acknowledged → code_in packet ≡ connect → length packet ≡ 8 → command_of packet ≡ command.Connect
  unfolding command_of length_fits open_of is_one_of pick
  exact_is_connect last_rate a code size =
      let framed : length packet ≡ length_in packet + 7 = (acknowledged_is_framed last_rate packet a).size in
      let one : length_in packet ≡ 1 = omega arith in
      rw (code, one)

pub returns-then-byte_at-ne-CONNECT : goal.returns-then-byte_at-ne-CONNECT
unfolding heard_in_detect pick
returns-then-byte_at-ne-CONNECT c =
    let framed = framed_by c.acknowledge.ensures c.in-Ok.is in
    rw (c.silently-then-byte_at-ne-CONNECT.ensures, framed)
    (sym (other_code _ _ (λ e. c.if-byte_at-ne-CONNECT.true (c.byte_at.ensures ∙ e))))

pub returns-then-packet-ne-CONNECT_SIZE : goal.returns-then-packet-ne-CONNECT_SIZE
unfolding heard_in_detect pick
returns-then-packet-ne-CONNECT_SIZE c =
    let framed = framed_by c.acknowledge.ensures c.in-Ok.is in
    rw (c.silently-then-packet-ne-CONNECT_SIZE.ensures, framed)
    (sym (other_size _ _ _ framed c.if-packet-ne-CONNECT_SIZE.true))

pub returns : goal.returns
unfolding heard_in_detect pick
returns c =
    let framed = framed_by c.acknowledge.ensures c.in-Ok.is in
    let code = sym c.byte_at.ensures ∙ c.if-byte_at-ne-CONNECT.false in
    let asked = exact_is_connect _ _ framed code c.if-packet-ne-CONNECT_SIZE.false in
    rw (c.acknowledges.ensures, c.connected.ensures, framed, asked)
