-- 01, Commands (004): what is sent back, byte by byte.
use Rattle.std.specs.Prelude.{ℕ, true, false, List, [], ◌∷◌, ◌++◌, ltb, length}
use Rattle.std.proofs.lemmas.List.Edits.{sets}
use Rattle.octets.specs.Choice.{pick}
use Rattle.octets.specs.Number.{bytes_of, number_at}
use Rattle.checksum.specs.Checksum.{checksum_of}
use Rattle.line.specs.declared.Reply.{Reply}
use Rattle.line.specs.declared.Reply.TheVariants.{Silence, Acknowledged, Message, Info, Bytes, Sum, FlashError}
use Rattle.line.specs.Codes.{packet_limit, reply_limit, reply_header, acknowledged, read_back_reply, info_reply, verify_reply, message_reply, detailed_error_reply, flash_error, no_detail}

-- "Core replies follow the 0x00, framed 08, length, core, checksum."
unfoldable pub core_reply : List ℕ → List ℕ
core_reply core = acknowledged ∷ reply_header ∷ (bytes_of 2 (length core) ++ (core ++ bytes_of 4 (checksum_of core)))

-- "24 bytes: 0x0100, 0x0100, version (4), 0x0001, 0x06C0, 0x20000160 (4), BCR id, BSL id"; T-10: "The Info reply grows by four bytes": those of
-- the version, where it stands
unfoldable pub info_of : ℕ → ℕ → ℕ → ℕ → List ℕ
info_of version_size version bcr bsl =
    bytes_of 2 0x0100 ++ bytes_of 2 0x0100 ++ bytes_of version_size version ++ bytes_of 2 0x0001
    ++ bytes_of 2 packet_limit ++ bytes_of 4 0x20000160 ++ bytes_of 4 bcr ++ bytes_of 4 bsl

-- "0x29 Read back .. above 1,720 .. 05": so many bytes stand beside a reply at most
abbrev pub read_back_most : ℕ
read_back_most = 1720

-- "A message is 3B and one byte"; Info "31 and 24 bytes"; Read back "30 and the bytes", which stand beside the reply; Verify "32 and the checksum";
-- T-02: "3A, F0, then two detail bytes, 0 in our model; its core length is 4". The version stands beside the reply, and is 0 where
-- nothing does; T-10: "the version has 8 bytes"
unfoldable pub reply_bytes : Reply → List ℕ → List ℕ
reply_bytes Silence beside = []
reply_bytes (Acknowledged code) beside = code ∷ []
reply_bytes (Message code) beside = core_reply (message_reply ∷ code ∷ [])
reply_bytes (Info false bcr bsl) beside = core_reply (info_reply ∷ info_of 4 (number_at 0 4 beside) bcr bsl)
reply_bytes (Info true bcr bsl) beside = core_reply (info_reply ∷ info_of 8 (number_at 0 8 beside) bcr bsl)
reply_bytes Bytes beside = core_reply (read_back_reply ∷ beside)
reply_bytes (Sum sum) beside = core_reply (verify_reply ∷ bytes_of 4 sum)
reply_bytes FlashError beside = core_reply (detailed_error_reply ∷ flash_error ∷ no_detail ∷ no_detail ∷ [])

-- all that writing a reply leaves: how many bytes it has, and the area
pub record Sent : Type 0 where
  pub size : ℕ
  pub area : List ℕ

abbrev pub sent : ℕ → List ℕ → Sent
sent size area = record { size = size; area = area }

-- 01, The loader and its edges: "A reply area has at least 1,729 bytes; those past the reply stay as lent."
-- Ours: a reply of more bytes, or one for which the area has no room, is not written at all. No call comes to either.
unfoldable pub sent_of : List ℕ → List ℕ → Sent
sent_of bytes area =
    pick (ltb reply_limit (length bytes)) (sent 0 area)
    (pick (ltb (length area) (length bytes)) (sent 0 area)
    (sent (length bytes) (sets area 0 bytes)))
