-- 01, Numbers of refused calls, 10: which session records are valid.
use Rattle.std.specs.Prelude.{ℕ, Bool, false, eqb}
use Rattle.octets.specs.Choice.{pick}
use Rattle.parts.specs.declared.Part.{Part}
use Rattle.session_state.specs.Phases.{is_valid}
use Rattle.settings.specs.Values.{is_allowed}
use Rattle.flash.specs.Regions.{is_main_size}
use Rattle.session.specs.declared.Session.{Session}

-- 10: "record not valid: idle above 9,999, sleep above 2,000, wrong count above 3, rate id outside 1..9, a bad body-3 value, ..
-- unlocked with sleep above 0, a MAIN size outside the rule, a settings area not 1,024 bytes, or sizes unlike the lent images".
-- The clauses left out here speak of what no session can hold.
unfoldable pub is_record : Part → Session → ℕ → ℕ → Bool
is_record part session main_lent settings_lent =
    pick (is_valid part.last_rate session.standing)
    (pick (is_allowed session.settings.shown)
    (pick (eqb settings_lent part.settings_size)
    (pick (is_main_size part session.main_size) (eqb main_lent session.main_size) false)
    false)
    false)
    false
