-- What silent commands get, that silence sends nothing, and that every answer fits.
use mathlib.Core.Path.{◌≡◌}
use mathlib.Core.Bool.{true, false}
use mathlib.Core.List.{List, ◌++◌}
use Prim.Native.Nat.{ℕ, ◌≤◌}
use native.Mathlib.Omega.{arith}
use lib.ListN.{length, drop}
use Rattle.octets.proofs.Searching.{pick_true, pick_false, by_pick}
use Rattle.line.specs.Codes.{reply_limit}
use Rattle.line.specs.Commands.{is_silent}
use Rattle.line.specs.declared.Reply.{Reply}
use Rattle.line.specs.declared.Reply.TheVariants.{Silence, Acknowledged, Message, Info, Bytes, Sum, FlashError}
use Rattle.line.specs.Replies.{read_back_most, reply_bytes, Sent, sent, sent_of}
use Rattle.line.proofs.ReplyLaws.{nothing_sent, sent_fits, reply_is_sent}
use Rattle.flash.specs.declared.Region.{Region}
use Rattle.flash.specs.Memory.{Memory, bytes_in}
use Rattle.session_send.specs.Answering.{without_core, hushed, answer_of}

-- ---- silent commands

module _ (packet : List ℕ) where
  -- "Commands 0x12, 0x24, 0x40, 0x52 never get a core reply": by the command byte alone, whatever there was to tell
  pub silent_gets_no_core : (reply : Reply) (beside : List ℕ) → is_silent packet ≡ true → length (reply_bytes (hushed packet reply) beside) ≤ 1
  unfolding hushed reply_bytes
  silent_gets_no_core reply beside h = rw (pick_true (without_core reply) reply h) (one_byte reply)
    where
      one_byte : (reply : Reply) → length (reply_bytes (without_core reply) beside) ≤ 1
      one_byte Silence = omega arith
      one_byte (Acknowledged code) = omega arith
      one_byte (Message code) = omega arith
      one_byte (Info long bcr bsl) = omega arith
      one_byte Bytes = omega arith
      one_byte (Sum sum) = omega arith
      one_byte FlashError = omega arith

  -- all other commands are told what there is to tell
  pub others_are_told : (reply : Reply) → is_silent packet ≡ false → hushed packet reply ≡ reply
  unfolding hushed
  others_are_told reply h = pick_false _ _ h

-- ---- silence

-- where nothing is to be said nothing is sent, whatever the command
pub silence_sends_nothing : (region : Region) (offset count : ℕ) (packet : List ℕ) (memory : Memory) (area : List ℕ)
    → answer_of Silence region offset count packet memory area ≡ sent 0 area
unfolding answer_of hushed reply_bytes
silence_sends_nothing region offset count packet memory area =
    by_pick (λ reply. sent_of (reply_bytes reply (bytes_in offset count memory region)) area ≡ sent 0 area) (is_silent packet) Silence Silence
    (λ y. nothing_sent area) (λ n. nothing_sent area)

-- ---- sizes

-- some bytes stand whole at the start of an area, and what is past them stays as lent
abbrev pub whole : List ℕ → List ℕ → Sent
whole bytes area = sent (length bytes) (bytes ++ drop (length bytes) area)

-- the bytes of an answer
abbrev pub answer_bytes : Reply → Region → ℕ → ℕ → List ℕ → Memory → List ℕ
answer_bytes reply region offset count packet memory = reply_bytes (hushed packet reply) (bytes_in offset count memory region)

module _ (reply : Reply) (region : Region) (offset count : ℕ) (packet : List ℕ) (memory : Memory) (area : List ℕ) where
  -- no answer is longer than the area that 01 asks for, whatever is asked and answered
  pub answer_fits : (answer_of reply region offset count packet memory area).size ≤ reply_limit
  unfolding answer_of
  answer_fits = sent_fits _ area

  -- "Read back of 1,720 bytes fits": in an area of 1,729 bytes an answer with no more bytes beside it is sent whole
  pub answer_is_whole : length (bytes_in offset count memory region) ≤ read_back_most → reply_limit ≤ length area
      → answer_of reply region offset count packet memory area ≡ whole (answer_bytes reply region offset count packet memory) area
  unfolding answer_of
  answer_is_whole few room = reply_is_sent (hushed packet reply) (bytes_in offset count memory region) area few room
