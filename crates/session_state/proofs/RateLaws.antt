-- Which ids have no rate, and that those in the table have the same on every part.
use mathlib.Core.Path.{◌≡◌, refl, sym, ap, ◌∙◌}
use mathlib.Core.Bool.{true, false, true≢false}
use mathlib.Core.List.{◌∷◌}
use Prim.Native.Nat.{ℕ, zero, suc, ◌-◌, ◌≤◌, ◌<◌}
use native.Mathlib.Omega.{arith}
use borrow.Author.Tests.{le-leb, eq-eqb, ne_eqb}
use lib.ListN.{get_or, get_or-eq_default}
use Rattle.octets.specs.Choice.{pick}
use Rattle.octets.proofs.Searching.{pick_true, pick_false, by_pick}
use Rattle.line.specs.Acknowledgement.{is_rate}
use Rattle.session_state.specs.Rates.{rates, rate_of}

-- an id that is none of the part's has no rate
pub no_rate : (last_rate id : ℕ) → is_rate last_rate id ≡ false → rate_of last_rate id ≡ 0
unfolding rate_of
no_rate last_rate id h = pick_false _ 0 h

-- T-10: "rate id 0x10 means 4000000"
pub fastest : (last_rate id : ℕ) → is_rate last_rate id ≡ true → id ≡ 0x10 → rate_of last_rate id ≡ 4000000
unfolding rate_of
fastest last_rate id h e = pick_true _ 0 h ∙ pick_true _ _ (eq-eqb id 0x10 e)

-- both as the code answers them
pub none_answered : (last_rate id : ℕ) → is_rate last_rate id ≡ false → 0 ≡ rate_of last_rate id
none_answered last_rate id h = sym (no_rate last_rate id h)

pub fastest_answered : (last_rate id : ℕ) → is_rate last_rate id ≡ true → id ≡ 0x10 → 4000000 ≡ rate_of last_rate id
fastest_answered last_rate id h e = sym (fastest last_rate id h e)

-- nor has one past the table
pub past_the_table : (last_rate id : ℕ) → 9 < id → (id ≡ 0x10 → ⊥) → rate_of last_rate id ≡ 0
unfolding rate_of
past_the_table last_rate id h other =
    by_pick (λ rate. rate ≡ 0) (is_rate last_rate id) _ 0
    (λ y. pick_false 4000000 _ (ne_eqb id 0x10 other) ∙ get_or-eq_default rates 0 {n = id - 1} (omega arith)) (λ n. refl)

pub none_past_the_table : (last_rate id : ℕ) → 9 < id → (id ≡ 0x10 → ⊥) → 0 ≡ rate_of last_rate id
none_past_the_table last_rate id h other = sym (past_the_table last_rate id h other)

-- no rate has the id 0
zero_is_none : (last_rate : ℕ) → is_rate last_rate 0 ≡ true → ⊥
unfolding is_rate pick
zero_is_none last_rate h = true≢false (sym h)

-- any other stands in the table, or past its end, where the table has 0
pub rate_in_table : (last_rate id rate : ℕ) → rate ≡ get_or (0 ∷ rates) id 0 → is_rate last_rate id ≡ true → (id ≡ 0x10 → ⊥) → rate ≡ rate_of last_rate id
unfolding rate_of
rate_in_table last_rate zero rate e h other = absurd (zero_is_none last_rate h)
rate_in_table last_rate (suc place) rate e h other =
    let before : place ≡ suc place - 1 = omega arith in
    e ∙ ap (λ (k : ℕ). get_or rates k 0) before ∙ sym (pick_true _ 0 h ∙ pick_false _ _ (ne_eqb (suc place) 0x10 other))

-- and has the same rate on every part
pub same_rate : (last_rate id : ℕ) → id ≤ 9 → rate_of last_rate id ≡ rate_of 9 id
unfolding is_rate rate_of pick
same_rate last_rate id few = rw (le-leb id 9 few)
