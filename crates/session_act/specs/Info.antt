-- 01, Commands: 0x19 Info.
use Rattle.std.specs.Prelude.{ℕ, ◌+◌, ◌%◌, Bool, List, leb, eqb, length}
use Rattle.octets.specs.Choice.{pick}
use Rattle.octets.specs.Number.{number_at}
use Rattle.parts.specs.declared.Part.{Part}
use Rattle.parts.specs.Parts.{version_size}
use Rattle.line.specs.declared.Reply.{Reply}
use Rattle.line.specs.declared.Reply.TheVariants.{Info}
use Rattle.settings.specs.declared.Shown.{Shown}
use Rattle.flash.specs.declared.Region.TheVariants.{Main}
use Rattle.session_act.specs.declared.Order.TheVariants.{Keep}
use Rattle.session_act.specs.declared.Planned.{Planned}
use Rattle.session_act.specs.Plans.{planned, says}

-- "Version is the four MAIN bytes at the pointer if it is a multiple of 4 (ours) and all four lie in MAIN, else 0."; T-10: "the version has 8
-- bytes at a multiple of 8"
unfoldable pub version_at : ℕ → ℕ → List ℕ → ℕ
version_at size pointer main =
    pick (eqb (pointer % size) 0) (pick (leb (pointer + size) (length main)) (number_at pointer size main) 0) 0

-- the version that a part's Info tells
abbrev pub version_of : Part → Shown → List ℕ → ℕ
version_of part shown main = version_at (version_size part.long_version) shown.version_pointer main

-- so an answer goes with the bytes of the version, where they stand in MAIN, or with none, which tells 0; their number is `version_at`
-- (`version_is_beside`)
unfoldable pub with_version : ℕ → ℕ → ℕ → Reply → Planned
with_version size pointer main_size reply =
    pick (eqb (pointer % size) 0) (pick (leb (pointer + size) main_size) (planned reply Keep Main pointer size) (says reply)) (says reply)

-- "version (4) .. BCR id, BSL id"; T-10: "The Info reply grows by four bytes."
abbrev pub info_planned : Bool → Shown → ℕ → Planned
info_planned long shown main_size =
    with_version (version_size long) shown.version_pointer main_size (Info long shown.bcr_id shown.bsl_id)
