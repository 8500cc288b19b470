-- What a valid record is, clause by clause.
use mathlib.Core.Path.{◌≡◌, ◌∙◌}
use mathlib.Core.Bool.{true}
use Prim.Native.Nat.{ℕ}
use borrow.Author.Tests.{eq-eqb, eqb-true}
use Rattle.octets.proofs.Searching.{pick_true, pick_both}
use Rattle.parts.specs.declared.Part.{Part}
use Rattle.session_state.specs.Phases.{is_valid}
use Rattle.settings.specs.Values.{is_allowed}
use Rattle.flash.specs.Regions.{is_main_size}
use Rattle.session.specs.declared.Session.{Session}
use Rattle.session.specs.Records.{is_record}

-- the clauses of 10, each by itself
pub record Valid (part : Part) (session : Session) (main_lent settings_lent : ℕ) : Type 0 where
  pub standing : is_valid part.last_rate session.standing ≡ true
  pub values : is_allowed session.settings.shown ≡ true
  pub main_size : is_main_size part session.main_size ≡ true
  pub settings : settings_lent ≡ part.settings_size
  pub main : main_lent ≡ session.main_size

pub record_by_clauses : (part : Part) (session : Session) (main_lent settings_lent : ℕ)
    → is_record part session main_lent settings_lent ≡ true → Valid part session main_lent settings_lent
unfolding is_record
record_by_clauses part session main_lent settings_lent h =
    let standing = pick_both _ _ h in
    let values = pick_both _ _ standing.1 in
    let lent = pick_both _ _ values.1 in
    let size = pick_both _ _ lent.1 in
    record {
      standing = standing.0;
      values = values.0;
      main_size = size.0;
      settings = eqb-true _ _ lent.0;
      main = eqb-true _ _ size.1;
    }

pub clauses_make_record : (part : Part) (session : Session) (main_lent settings_lent : ℕ)
    → Valid part session main_lent settings_lent → is_record part session main_lent settings_lent ≡ true
unfolding is_record
clauses_make_record part session main_lent settings_lent v =
    pick_true _ _ v.standing ∙ pick_true _ _ v.values ∙ pick_true _ _ (eq-eqb _ _ v.settings)
    ∙ pick_true _ _ v.main_size ∙ eq-eqb _ _ v.main
