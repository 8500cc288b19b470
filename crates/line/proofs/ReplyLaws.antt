-- Replies: their sizes, and that their pieces join.
use mathlib.Core.Path.{◌≡◌, refl, sym, ap, ◌∙◌}
use mathlib.Core.Bool.{true, false}
use mathlib.Core.List.{List, [], ◌∷◌, ◌++◌}
use Prim.Native.Nat.{ℕ, suc, ◌+◌, ◌-◌, ◌/◌, ◌%◌, ◌≤◌, ◌<◌}
use native.Mathlib.Omega.{arith}
use borrow.Author.Tests.{le-ltb, ltb-false}
use lib.Dec.{ltb}
use lib.ListN.{length, take, drop, replicate, length-append}
use mathlib.Core.Logic.{⊎_elim, ◌⊎◌}
use Rattle.std.specs.Int.{to_le_bytes}
use mir.Syntax.{w32}
use lib.Seq.{sets, take_at}
use Rattle.octets.specs.Choice.{pick}
use Rattle.octets.specs.Number.{bytes_of, number_at}
use Rattle.octets.proofs.Numbers.{eight_of_halves, two_fours}
use Rattle.octets.proofs.Searching.{by_pick}
use Rattle.octets.proofs.StoreLaws.{sets_join, stored_front}
use Rattle.checksum.specs.Checksum.{checksum_of}
use Rattle.line.specs.declared.Reply.{Reply}
use Rattle.line.specs.declared.Reply.TheVariants.{Silence, Acknowledged, Message, Info, Bytes, Sum, FlashError}
use Rattle.line.specs.Codes.{reply_limit, reply_header, acknowledged, read_back_reply, info_reply, verify_reply, message_reply, detailed_error_reply, flash_error, no_detail}
use Rattle.line.specs.Replies.{core_reply, info_of, read_back_most, reply_bytes, Sent, sent, sent_of}

-- silence leaves the area as it is
pub nothing_sent : (area : List ℕ) → sent_of [] area ≡ sent 0 area
unfolding sent_of pick
nothing_sent area = rw (le-ltb (length area) 0 (omega arith))

-- a core reply has nine bytes beside what follows its code
pub length-core_reply : (code : ℕ) (rest : List ℕ) → length (core_reply (code ∷ rest)) ≡ length rest + 9
unfolding core_reply bytes_of
length-core_reply code rest = omega (arith, length-append rest (bytes_of 4 (checksum_of (code ∷ rest))))

-- what stands before the rest of a core, once its code is there
abbrev front_of : ℕ → List ℕ → List ℕ
front_of code rest = acknowledged ∷ reply_header ∷ (length rest + 1) % 256 ∷ (length rest + 1) / 256 % 256 ∷ code ∷ []

-- Front and rest are stored, then the checksum of the core that is read back: a core reply.
module _ (area : List ℕ) (code : ℕ) (rest : List ℕ) (room : length rest + 9 ≤ length area) where
  abbrev pub half_stored : List ℕ
  half_stored = sets (sets area 0 (front_of code rest)) 5 rest

  core_stored : take (4 + (length rest + 1) - 4) (drop 4 half_stored) ≡ code ∷ rest
  core_stored =
      let n : 4 + (length rest + 1) - 4 ≡ suc (length rest) = omega arith in
      ap (λ (l : List ℕ). take (4 + (length rest + 1) - 4) (drop 4 l))
      (sets_join area 0 5 (front_of code rest) rest refl ∙ stored_front area (front_of code rest ++ rest) (omega arith))
      ∙ rw n (ap (λ (l : List ℕ). code ∷ l) (take_at rest (drop (length (front_of code rest ++ rest)) area) (length rest) refl))

  core_joined : sets half_stored (4 + (length rest + 1)) (bytes_of 4 (checksum_of (code ∷ rest))) ≡ sets area 0 (core_reply (code ∷ rest))
  unfolding core_reply bytes_of
  core_joined =
      let n : suc (length rest) ≡ length rest + 1 = omega arith in
      sets_join (sets area 0 (front_of code rest)) 5 (4 + (length rest + 1)) rest (bytes_of 4 (checksum_of (code ∷ rest))) (omega arith)
      ∙ sets_join area 0 5 (front_of code rest) (rest ++ bytes_of 4 (checksum_of (code ∷ rest))) refl
      ∙ rw n

  pub core_reply_made : sets half_stored (4 + (length rest + 1)) (bytes_of 4 (checksum_of (take (4 + (length rest + 1) - 4) (drop 4 half_stored))))
      ≡ sets area 0 (core_reply (code ∷ rest))
  core_reply_made = ap (λ (l : List ℕ). sets half_stored (4 + (length rest + 1)) (bytes_of 4 (checksum_of l))) core_stored ∙ core_joined

-- a message, whatever its code: ten bytes, of which the sixth is the code
pub message_bytes : (code : ℕ) (beside : List ℕ)
    → reply_bytes (Message code) beside
    ≡ acknowledged ∷ reply_header ∷ 2 ∷ 0 ∷ message_reply ∷ code ∷ bytes_of 4 (checksum_of (message_reply ∷ code ∷ []))
unfolding reply_bytes core_reply bytes_of
message_bytes code beside = refl

pub message_has_ten : (code : ℕ) (beside : List ℕ) → length (reply_bytes (Message code) beside) ≡ 10
unfolding reply_bytes
message_has_ten code beside = length-core_reply message_reply (code ∷ [])

-- the bytes of Read back, and nine more
pub read_back_has : (beside : List ℕ) → length (reply_bytes Bytes beside) ≡ length beside + 9
unfolding reply_bytes
read_back_has beside = length-core_reply read_back_reply beside

-- "Read back of 1,720 bytes fits": every reply has at most 1,729 bytes
pub reply_fits : (reply : Reply) (beside : List ℕ) → length beside ≤ read_back_most → length (reply_bytes reply beside) ≤ reply_limit
unfolding reply_bytes info_of bytes_of
reply_fits Silence beside h = omega arith
reply_fits (Acknowledged code) beside h = omega arith
reply_fits (Message code) beside h = omega (arith, length-core_reply message_reply (code ∷ []))
reply_fits (Info false bcr bsl) beside h = omega (arith, length-core_reply info_reply (info_of 4 (number_at 0 4 beside) bcr bsl))
reply_fits (Info true bcr bsl) beside h = omega (arith, length-core_reply info_reply (info_of 8 (number_at 0 8 beside) bcr bsl))
reply_fits Bytes beside h = omega (arith, length-core_reply read_back_reply beside)
reply_fits (Sum sum) beside h = omega (arith, length-core_reply verify_reply (bytes_of 4 sum))
reply_fits FlashError beside h = omega (arith, length-core_reply detailed_error_reply (flash_error ∷ no_detail ∷ no_detail ∷ []))

-- so an area of 1,729 bytes takes every reply, and keeps what is past it
pub reply_is_sent : (reply : Reply) (beside area : List ℕ) → length beside ≤ read_back_most → reply_limit ≤ length area
    → sent_of (reply_bytes reply beside) area
    ≡ sent (length (reply_bytes reply beside)) (reply_bytes reply beside ++ drop (length (reply_bytes reply beside)) area)
unfolding sent_of pick
reply_is_sent reply beside area h room =
    let fits = reply_fits reply beside h in
    rw (le-ltb _ _ fits, le-ltb (length area) (length (reply_bytes reply beside)) (omega arith))
    (ap (sent (length (reply_bytes reply beside))) (stored_front area (reply_bytes reply beside) (omega arith)))

-- what is sent has at most 1,729 bytes, or is not sent
pub sent_fits : (bytes area : List ℕ) → (sent_of bytes area).size ≤ reply_limit
unfolding sent_of
sent_fits bytes area =
    by_pick (λ (left : Sent). left.size ≤ reply_limit) (ltb reply_limit (length bytes)) _ _ (λ y. omega arith)
    (λ n. by_pick (λ (left : Sent). left.size ≤ reply_limit) (ltb (length area) (length bytes)) _ _ (λ y. omega arith) (λ m. ltb-false _ _ n))

-- the numbers of Info as they are stored: in 24 bytes a version of four, whose next four are stored over, in 28 one of eight
abbrev info_stored : ℕ → List ℕ → ℕ → ℕ → List ℕ
info_stored n version bcr bsl =
    sets (sets (sets (sets (sets (sets (replicate n 0) 0 (0x00 ∷ 0x01 ∷ 0x00 ∷ 0x01 ∷ []))
    4 (bytes_of 4 (number_at 0 4 version))) 8 (bytes_of 4 (number_at 4 4 version)))
    (n - 16) (0x01 ∷ 0x00 ∷ 0xC0 ∷ 0x06 ∷ 0x60 ∷ 0x01 ∷ 0x00 ∷ 0x20 ∷ [])) (n - 8) (bytes_of 4 bcr)) (n - 4) (bytes_of 4 bsl)

-- the version's bytes, and what stands before and after them
abbrev around_version : List ℕ → ℕ → ℕ → List ℕ
around_version version bcr bsl =
    0x00 ∷ 0x01 ∷ 0x00 ∷ 0x01 ∷ (version ++ (0x01 ∷ 0x00 ∷ 0xC0 ∷ 0x06 ∷ 0x60 ∷ 0x01 ∷ 0x00 ∷ 0x20 ∷ (bytes_of 4 bcr ++ bytes_of 4 bsl)))

module _ (version : List ℕ) (bcr bsl : ℕ) where
  short_info_made : info_stored 24 version bcr bsl ≡ info_of 4 (number_at 0 4 version) bcr bsl
  unfolding info_of bytes_of
  short_info_made = refl

  pub long_info_made : number_at 0 4 version < 4294967296 → info_stored 28 version bcr bsl ≡ info_of 8 (number_at 0 8 version) bcr bsl
  unfolding info_of bytes_of
  long_info_made small =
      ap (λ (eight : List ℕ). around_version eight bcr bsl)
      (sym (ap (bytes_of 8) (two_fours version) ∙ eight_of_halves (number_at 0 4 version) (number_at 4 4 version) small))

  pub info_made : (n : ℕ) → (n ≡ 24) ⊎ (n ≡ 28) → number_at 0 4 version < 4294967296
      → info_stored n version bcr bsl ≡ info_of (n - 20) (number_at 0 (n - 20) version) bcr bsl
  info_made n has small = ⊎_elim (λ e. rw e short_info_made) (λ e. rw e (long_info_made small)) has

-- the four low bytes of a number as std makes them
pub bytes_of_word : (number : ℕ) → to_le_bytes w32 number ≡ bytes_of 4 number
unfolding bytes_of
bytes_of_word number =
    let third : number / 256 / 256 ≡ number / 65536 = omega arith in
    let fourth : number / 65536 / 256 ≡ number / 16777216 = omega arith in
    rw (third, fourth)
