-- What a valid standing is, part by part; a session starts in one.
use mathlib.Core.Path.{◌≡◌, refl, ◌∙◌}
use mathlib.Core.Bool.{true}
use Prim.Native.Nat.{ℕ, ◌≤◌}
use borrow.Author.Tests.{le-leb, leb-true}
use Rattle.octets.specs.Choice.{pick}
use Rattle.octets.proofs.Searching.{pick_true, pick_both}
use Rattle.session_state.specs.declared.Standing.{Standing}
use Rattle.line.specs.Acknowledgement.{is_rate}
use Rattle.session_state.specs.Phases.{rate_id_at_start, at_start, most_idle, most_wrong, most_tries, is_valid_phase, counts_fit, is_valid}

-- the clauses of 10, each by itself
pub record Valid (last_rate : ℕ) (standing : Standing) : Type 0 where
  pub idle : standing.idle ≤ most_idle
  pub wrong : standing.wrong ≤ most_wrong
  pub tries : standing.wrong ≤ standing.tries
  pub most : standing.tries ≤ most_tries
  pub rate : is_rate last_rate standing.rate ≡ true
  pub phase : is_valid_phase standing.phase ≡ true

pub valid_by_parts : (last_rate : ℕ) (standing : Standing) → is_valid last_rate standing ≡ true → Valid last_rate standing
unfolding is_valid counts_fit
valid_by_parts last_rate standing h =
    let idle = pick_both _ _ h in
    let counts = pick_both _ _ idle.1 in
    let wrong = pick_both _ _ counts.0 in
    let tries = pick_both _ _ wrong.1 in
    let rate = pick_both _ _ counts.1 in
    record {
      idle = leb-true _ _ idle.0;
      wrong = leb-true _ _ wrong.0;
      tries = leb-true _ _ tries.0;
      most = leb-true _ _ tries.1;
      rate = rate.0;
      phase = rate.1;
    }

-- the three clauses of the counts together
counts_fit_lem : (wrong tries : ℕ) → wrong ≤ most_wrong → wrong ≤ tries → tries ≤ most_tries → counts_fit wrong tries ≡ true
unfolding counts_fit
counts_fit_lem wrong tries w t m = pick_true _ _ (le-leb _ _ w) ∙ pick_true _ _ (le-leb _ _ t) ∙ le-leb _ _ m

pub parts_make_valid : (last_rate : ℕ) (standing : Standing) → Valid last_rate standing → is_valid last_rate standing ≡ true
unfolding is_valid
parts_make_valid last_rate standing v =
    pick_true _ _ (le-leb _ _ v.idle)
    ∙ pick_true _ _ (counts_fit_lem _ _ v.wrong v.tries v.most) ∙ pick_true _ _ v.rate ∙ v.phase

-- the rate id at start is a rate on every part
pub start_is_rate : (last_rate : ℕ) → is_rate last_rate rate_id_at_start ≡ true
unfolding is_rate pick
start_is_rate last_rate = refl

-- a session that has just started is never refused for how it stands
pub start_is_valid : (last_rate : ℕ) → is_valid last_rate at_start ≡ true
unfolding at_start is_valid counts_fit pick
start_is_valid last_rate = pick_true _ _ (start_is_rate last_rate)
