-- T-10, worked cases of the AM13E230x.
use mathlib.Core.Path.{◌≡◌, refl}
use mathlib.Core.Bool.{true}
use mathlib.Core.List.{List, [], ◌∷◌, ◌++◌}
use Prim.Native.Nat.{ℕ, ◌+◌, ◌/◌, ◌%◌}
use native.Mathlib.Omega.{arith}
use lib.Seq.{get_or-append-add}
use Rattle.octets.specs.Choice.{pick}
use Rattle.octets.specs.Number.{number_of, bytes_of}
use Rattle.checksum.specs.Checksum.{checksum_of, checksum_from, byte_on, bits_on, bit_on}
use Rattle.parts.specs.Parts.{mspm0, am13e230x}
use Rattle.line.specs.declared.Reply.TheVariants.{Info}
use Rattle.line.specs.Acknowledgement.{is_rate}
use Rattle.line.specs.Replies.{core_reply, info_of, reply_bytes}
use Rattle.session_state.specs.Rates.{rate_of}
use Rattle.settings.specs.Kept.{blank_kept}
use Rattle.flash.specs.Protection.{is_protected}
use Rattle.session_act.specs.Info.{with_version, info_planned}
use Rattle.session_act.specs.Plans.{says}

-- "The Info reply grows by four bytes": a blank board tells both ids 1, and nothing stands beside them, so that the version is 0
pub blank_board_tells : (main_size : ℕ) → info_planned am13e230x.long_version blank_kept.shown main_size ≡ says (Info true 1 1)
unfolding with_version pick
blank_board_tells main_size = refl

-- and 37 bytes are sent, with the core length 0x1D
pub blank_info_on_the_line :
    reply_bytes (Info true 1 1) []
    ≡ 0x00 ∷ 0x08 ∷ 0x1D ∷ 0x00 ∷ 0x31 ∷ 0x00 ∷ 0x01 ∷ 0x00 ∷ 0x01 ∷ 0x00 ∷ 0x00 ∷ 0x00 ∷ 0x00 ∷ 0x00 ∷ 0x00 ∷ 0x00 ∷ 0x00 ∷ 0x01 ∷ 0x00 ∷ 0xC0 ∷ 0x06 ∷ 0x60 ∷ 0x01 ∷ 0x00 ∷ 0x20 ∷ 0x01 ∷ 0x00 ∷ 0x00 ∷ 0x00 ∷ 0x01 ∷ 0x00 ∷ 0x00 ∷ 0x00 ∷ 0x33 ∷ 0xF9 ∷ 0xFF ∷ 0xDF ∷ []
unfolding reply_bytes core_reply info_of number_of bytes_of checksum_of checksum_from byte_on bits_on bit_on
blank_info_on_the_line = refl

-- "rate id 0x10 means 4000000", here and not on the MSPM0; 0x0A and 0x0F are none
pub rate_0x10 : (rate_of am13e230x.last_rate 0x10 ≡ 4000000) × (rate_of mspm0.last_rate 0x10 ≡ 0)
    × (rate_of am13e230x.last_rate 0x0A ≡ 0) × (rate_of am13e230x.last_rate 0x0F ≡ 0)
unfolding rate_of is_rate pick
rate_0x10 = (refl, refl, refl, refl)

-- sectors beyond the 64th are protected by their own bits, which stand after the first eight bytes
pub own_bits_beyond_64 : (first beyond : List ℕ) (a b c d e f g h sector : ℕ) → first ≡ a ∷ b ∷ c ∷ d ∷ e ∷ f ∷ g ∷ h ∷ []
    → is_protected (first ++ beyond) (64 + sector) ≡ is_protected beyond sector
unfolding is_protected
own_bits_beyond_64 first beyond a b c d e f g h sector eight =
    let byte : (64 + sector) / 8 ≡ 8 + sector / 8 = omega arith in
    let bit : (64 + sector) % 8 ≡ sector % 8 = omega arith in
    rw (eight, byte, bit, get_or-append-add (a ∷ b ∷ c ∷ d ∷ e ∷ f ∷ g ∷ h ∷ []) beyond (sector / 8) 0)
