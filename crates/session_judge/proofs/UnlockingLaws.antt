-- What a wrong password leaves: a count of at most three, a total that goes with it, and a valid standing.
use mathlib.Core.Path.{◌≡◌}
use mathlib.Core.Bool.{true}
use Prim.Native.Nat.{ℕ, ◌+◌, ◌≤◌, ◌<◌}
use native.Mathlib.Omega.{arith}
use borrow.Author.Tests.{le-leb, lt-leb, ltb-true, ltb-false, leb-true, leb-false}
use lib.Dec.{ltb, leb}
use Rattle.octets.proofs.Searching.{pick_true, pick_false, by_pick}
use Rattle.session_state.specs.declared.Phase.{Phase}
use Rattle.session_state.specs.declared.Standing.{Standing}
use Rattle.session_state.specs.Phases.{most_wrong, most_tries, is_valid_phase, is_valid}
use Rattle.session_state.proofs.PhaseLaws.{Valid, parts_make_valid, start_is_rate}
use Rattle.session_judge.specs.Unlocking.{counted_up, tried_once, after_wrong}

-- one more is not fewer, and at most three
pub counted_up_lem : (wrong : ℕ) → (wrong ≤ most_wrong → wrong ≤ counted_up wrong) × (counted_up wrong ≤ most_wrong)
unfolding counted_up
counted_up_lem wrong =
    by_pick (λ (n : ℕ). (wrong ≤ most_wrong → wrong ≤ n) × (n ≤ most_wrong)) (ltb wrong most_wrong) _ _
    (λ y. let few = ltb-true wrong most_wrong y in (λ h. omega arith, omega arith))
    (λ n. (λ h. h, omega arith))

-- one more in all: below the most, by one; from there on it stays
pub one_more : (tries : ℕ) → tries < most_tries → tried_once tries ≡ tries + 1
unfolding tried_once
one_more tries h = pick_false _ _ (lt-leb most_tries tries h)

pub no_more : (tries : ℕ) → most_tries ≤ tries → tried_once tries ≡ tries
unfolding tried_once
no_more tries h = pick_true _ _ (le-leb most_tries tries h)

-- so it never falls, and is at most the most
pub tried_once_lem : (tries : ℕ) → (tries ≤ tried_once tries) × (tries ≤ most_tries → tried_once tries ≤ most_tries)
unfolding tried_once
tried_once_lem tries =
    by_pick (λ (n : ℕ). (tries ≤ n) × (tries ≤ most_tries → n ≤ most_tries)) (leb most_tries tries) _ _
    (λ y. (omega arith, λ h. h))
    (λ n. let few = leb-false most_tries tries n in (omega arith, λ h. omega arith))

-- a total that is at least the count stays so
pub tries_cover : (wrong tries : ℕ) → wrong ≤ most_wrong → wrong ≤ tries → counted_up wrong ≤ tried_once tries
unfolding counted_up tried_once
tries_cover wrong tries few h =
    by_pick (λ (n : ℕ). counted_up wrong ≤ n) (leb most_tries tries) _ _
    (λ y. omega (arith, (counted_up_lem wrong).1, leb-true most_tries tries y))
    (λ n. by_pick (λ (n : ℕ). n ≤ tries + 1) (ltb wrong most_wrong) _ _ (λ y. omega arith) (λ n. omega (arith, ltb-false wrong most_wrong n)))

-- a valid standing stays valid, in any phase that is
pub wrong_is_valid : (last_rate : ℕ) (standing : Standing) (phase : Phase) → Valid last_rate standing
    → is_valid_phase phase ≡ true → is_valid last_rate (after_wrong standing phase) ≡ true
wrong_is_valid last_rate standing phase v p =
    parts_make_valid last_rate (after_wrong standing phase)
    (record {
      idle = v.idle;
      wrong = (counted_up_lem standing.wrong).1;
      tries = tries_cover standing.wrong standing.tries v.wrong v.tries;
      most = (tried_once_lem standing.tries).1 v.most;
      rate = start_is_rate last_rate;
      phase = p;
    })
