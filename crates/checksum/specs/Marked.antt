-- 01, Marked cases: "One table and a single claim over it."
use Rattle.std.specs.Prelude.{◌≡◌, refl, List, [], ◌∷◌, map, ℕ}
use Rattle.octets.specs.Number.{bytes_of}
use Rattle.checksum.specs.Checksum.{bit_on, bits_on, byte_on, checksum_from, checksum_of}

-- core bytes, and the checksum that 01 marks for them
pub record Case : Type 0 where
  pub core : List ℕ
  pub marked : List ℕ

abbrev case : List ℕ → List ℕ → Case
case core marked = record { core = core; marked = marked }

-- "request checksums (004) 12: 3A 61 44 DE; .. Replies 3B 00: 38 02 94 82; .. and, worked here, 3B 01: AE 32 93 F5; .."
unfoldable pub cases : List Case
cases =
    case (0x12 ∷ []) (0x3A ∷ 0x61 ∷ 0x44 ∷ 0xDE ∷ [])
    ∷ case (0x19 ∷ []) (0xB2 ∷ 0xB8 ∷ 0x96 ∷ 0x49 ∷ [])
    ∷ case (0x15 ∷ []) (0x99 ∷ 0xF4 ∷ 0x20 ∷ 0x40 ∷ [])
    ∷ case (0x30 ∷ []) (0xDE ∷ 0x20 ∷ 0x24 ∷ 0x0B ∷ [])
    ∷ case (0x40 ∷ []) (0xE2 ∷ 0x51 ∷ 0x21 ∷ 0x5B ∷ [])
    ∷ case (0x3B ∷ 0x00 ∷ []) (0x38 ∷ 0x02 ∷ 0x94 ∷ 0x82 ∷ [])
    ∷ case (0x3B ∷ 0x05 ∷ []) (0xB7 ∷ 0xF6 ∷ 0xFE ∷ 0xF2 ∷ [])
    ∷ case (0x3B ∷ 0x01 ∷ []) (0xAE ∷ 0x32 ∷ 0x93 ∷ 0xF5 ∷ [])
    ∷ case (0x3B ∷ 0x02 ∷ []) (0x14 ∷ 0x63 ∷ 0x9A ∷ 0x6C ∷ [])
    ∷ case (0x3B ∷ 0x03 ∷ []) (0x82 ∷ 0x53 ∷ 0x9D ∷ 0x1B ∷ [])
    ∷ case (0x3B ∷ 0x04 ∷ []) (0x21 ∷ 0xC6 ∷ 0xF9 ∷ 0x85 ∷ [])
    ∷ []

-- the checksum of each core, "least significant byte first", is the marked one
pub every_marked_case_holds : map (λ k. bytes_of 4 (checksum_of k.core)) cases ≡ map (λ k. k.marked) cases
unfolding cases bytes_of checksum_of checksum_from byte_on bits_on bit_on
every_marked_case_holds = refl
