-- 01, Commands (004): what is sent of an answer.
use Rattle.std.specs.Prelude.{ℕ, List}
use Rattle.octets.specs.Choice.{pick}
use Rattle.line.specs.Codes as codes
use Rattle.line.specs.Commands.{is_silent}
use Rattle.line.specs.declared.Reply.{Reply}
use Rattle.line.specs.declared.Reply.TheVariants.{Silence, Acknowledged, Message, Info, Bytes, Sum, FlashError}
use Rattle.line.specs.Replies.{reply_bytes, Sent, sent_of}
use Rattle.flash.specs.declared.Region.{Region}
use Rattle.flash.specs.Memory.{Memory, bytes_in}

-- only the 0x00 that a core reply would follow
abbrev pub without_core : Reply → Reply
without_core Silence = Silence
without_core (Acknowledged code) = Acknowledged code
without_core (Message code) = Acknowledged codes.acknowledged
without_core (Info long bcr bsl) = Acknowledged codes.acknowledged
without_core Bytes = Acknowledged codes.acknowledged
without_core (Sum sum) = Acknowledged codes.acknowledged
without_core FlashError = Acknowledged codes.acknowledged

-- "Commands 0x12, 0x24, 0x40, 0x52 never get a core reply; when refused they do nothing, silently."; T-02: "Command 0x24 stays silent."
unfoldable pub hushed : List ℕ → Reply → Reply
hushed packet reply = pick (is_silent packet) (without_core reply) reply

-- "Core replies follow the 0x00"; Read back: "30 and the bytes", which stand at a place of memory, as the version does;
-- "A reply area has at least 1,729 bytes; those past the reply stay as lent."
unfoldable pub answer_of : Reply → Region → ℕ → ℕ → List ℕ → Memory → List ℕ → Sent
answer_of reply region offset count packet memory area = sent_of (reply_bytes (hushed packet reply) (bytes_in offset count memory region)) area
