-- A valid session whose settings can be held can be held itself, and so its record area says all of it.
use mathlib.Core.Path.{◌≡◌}
use mathlib.Core.Bool.{true, false}
use Prim.Native.Nat.{ℕ, ◌^◌, ◌<◌}
use native.Mathlib.Omega.{arith}
use borrow.Author.Tests.{eqb-true, leb-true}
use Rattle.octets.specs.Choice.{pick}
use Rattle.parts.specs.declared.Part.{Part}
use Rattle.parts.specs.Parts.{Sound}
use Rattle.session_state.specs.declared.Phase.{Phase}
use Rattle.session_state.specs.declared.Phase.TheVariants.{Detect, Command, Standby, Ended, Disabled}
use Rattle.session_state.specs.Phases.{is_valid_phase}
use Rattle.session_state.proofs.PhaseLaws.{valid_by_parts}
use Rattle.session.specs.declared.Session.{Session}
use Rattle.session.specs.Records.{is_record}
use Rattle.flash.proofs.RegionLaws.{main_size_is_small}
use Rattle.session.proofs.RecordLaws.{record_by_clauses}
use Rattle.c_records.specs.Records.{sleep_of}
use Rattle.claims.specs.Held.{HeldKept, HeldSession}

sleep_held : (phase : Phase) → is_valid_phase phase ≡ true → sleep_of phase < 256 ^ 4
unfolding pick
sleep_held Detect h = omega arith
sleep_held (Command true sleep) h = let e = eqb-true sleep 0 h in omega arith
sleep_held (Command false sleep) h = let l = leb-true sleep 2000 h in omega arith
sleep_held Standby h = omega arith
sleep_held Ended h = omega arith
sleep_held Disabled h = omega arith

pub valid_is_held : (part : Part) → Sound part → (session : Session) (main_lent settings_lent : ℕ) → is_record part session main_lent settings_lent ≡ true → HeldKept part session.settings → HeldSession part session
valid_is_held part sound session main_lent settings_lent valid held =
    let clauses = record_by_clauses part session main_lent settings_lent valid in
    let stands = valid_by_parts part.last_rate session.standing clauses.standing in
    let idle = stands.idle in
    let main = main_size_is_small part session.main_size clauses.main_size in
    record {
      sleep = sleep_held session.standing.phase stands.phase;
      idle = omega (arith, idle);
      tries = omega (arith, stands.most);
      main = omega (arith, main, sound.main);
      settings = held;
    }
