-- What a wait keeps, and when a packet is heard. Each law goes through the outcomes of a wait, one by one.
use mathlib.Core.Path.{◌≡◌, refl, ap, ◌∙◌}
use mathlib.Core.Bool.{Bool, true, false, false≢true}
use Prim.Native.Nat.{ℕ, ◌+◌, ◌-◌, ◌≤◌, ◌<◌}
use native.Mathlib.Omega.{arith}
use borrow.Author.Tests.{eqb-true, leb-true, leb-false, le-leb, ltb-true, le-ltb}
use lib.Dec.{ltb}
use Rattle.octets.specs.Choice.{pick}
use Rattle.octets.proofs.Searching.{pick_false, by_pick}
use Rattle.session_state.specs.declared.Phase.{Phase}
use Rattle.session_state.specs.declared.Phase.TheVariants.{Detect, Command, Standby, Ended, Disabled}
use Rattle.session_state.specs.declared.Standing.{Standing}
use Rattle.session_state.specs.declared.Passed.{Passed}
use Rattle.session_state.specs.Phases.{most_idle, most_sleep, is_unlocked, is_valid_phase, is_valid}
use Rattle.session_state.specs.Waits.{moved_to, heard, dropped, idle_limit, is_idle_too_long, detect_idles, command_idles, pass_time_in, pass_time}
use Rattle.session_state.proofs.PhaseLaws.{valid_by_parts, parts_make_valid}

-- below the limit the sum of idle time is small
pub idle_below_limit : (standing : Standing) (rest : ℕ) → is_idle_too_long standing rest ≡ false → standing.idle + rest ≤ most_idle
unfolding is_idle_too_long
idle_below_limit standing rest h = omega (arith, leb-false idle_limit (standing.idle + rest) h)

-- ---- the outcomes of a wait

module _ (P : Passed → Type 0) (standing : Standing) (wait : ℕ) where
  -- what is to be shown of each, to show it of every wait
  pub record AtEach : Type 0 where
    pub still : P (dropped standing)
    pub standby : P (dropped (moved_to standing Standby 0))
    pub detect : standing.idle + wait ≤ most_idle → P (heard (moved_to standing Detect (standing.idle + wait)))
    pub asleep : (unlocked : Bool) (sleep : ℕ) → standing.phase ≡ Command unlocked sleep → wait < sleep
        → P (dropped (moved_to standing (Command unlocked (sleep - wait)) standing.idle))
    pub locked : P (heard (moved_to standing (Command false 0) 0))
    pub awake : (unlocked : Bool) (sleep : ℕ) → standing.phase ≡ Command unlocked sleep → standing.idle + (wait - sleep) ≤ most_idle
        → P (heard (moved_to standing (Command unlocked 0) (standing.idle + (wait - sleep))))

  module _ (each : AtEach) where
    in_detect : P (detect_idles standing wait)
    unfolding detect_idles
    in_detect = by_pick P (is_idle_too_long standing wait) _ _ (λ y. each.standby) (λ n. each.detect (idle_below_limit standing wait n))

    in_command : (unlocked : Bool) (sleep : ℕ) → standing.phase ≡ Command unlocked sleep → P (command_idles standing unlocked (wait - sleep))
    unfolding command_idles
    in_command unlocked sleep e =
        by_pick P (is_idle_too_long standing (wait - sleep)) _ _ (λ y. each.locked)
        (λ n. each.awake unlocked sleep e (idle_below_limit standing (wait - sleep) n))

    in_phase : (phase : Phase) → standing.phase ≡ phase → P (pass_time_in standing wait phase)
    in_phase Detect e = in_detect
    in_phase (Command unlocked sleep) e =
        by_pick P (ltb wait sleep) _ _ (λ y. each.asleep unlocked sleep e (ltb-true wait sleep y)) (λ n. in_command unlocked sleep e)
    in_phase Standby e = each.still
    in_phase Ended e = each.still
    in_phase Disabled e = each.still

    pub time_by_outcome : P (pass_time standing wait)
    unfolding pass_time
    time_by_outcome = in_phase standing.phase refl

-- ---- what every wait keeps

-- a valid standing stays valid at another valid phase and a small idle time
moved_is_valid : (last_rate : ℕ) (standing : Standing) (phase : Phase) (idle : ℕ) → is_valid last_rate standing ≡ true
    → is_valid_phase phase ≡ true → idle ≤ most_idle → is_valid last_rate (moved_to standing phase idle) ≡ true
moved_is_valid last_rate standing phase idle h p i =
    let v = valid_by_parts last_rate standing h in
    parts_make_valid last_rate (moved_to standing phase idle) (record { idle = i; wrong = v.wrong; tries = v.tries; most = v.most; rate = v.rate; phase = p })

-- without sleep the lock may be open or shut
awake_is_valid : (unlocked : Bool) → is_valid_phase (Command unlocked 0) ≡ true
unfolding pick
awake_is_valid true = refl
awake_is_valid false = refl

-- what sleeps is locked, and may sleep on
asleep_is_valid : (unlocked : Bool) (sleep wait : ℕ) → is_valid_phase (Command unlocked sleep) ≡ true → wait < sleep
    → is_valid_phase (Command unlocked (sleep - wait)) ≡ true
unfolding pick
asleep_is_valid true sleep wait p h = absurd (omega (arith, eqb-true sleep 0 p))
asleep_is_valid false sleep wait p h = le-leb (sleep - wait) most_sleep (omega (arith, leb-true sleep most_sleep p))

pub time_keeps_valid : (last_rate : ℕ) (standing : Standing) (wait : ℕ) → is_valid last_rate standing ≡ true → is_valid last_rate (pass_time standing wait).standing ≡ true
time_keeps_valid last_rate standing wait h =
    let v = valid_by_parts last_rate standing h in
    time_by_outcome (λ passed. is_valid last_rate passed.standing ≡ true) standing wait
    (record {
      still = h;
      standby = moved_is_valid last_rate standing Standby 0 h refl (omega arith);
      detect = λ small. moved_is_valid last_rate standing Detect _ h refl small;
      asleep = λ unlocked sleep e longer.
          moved_is_valid last_rate standing (Command unlocked (sleep - wait)) _ h
          (asleep_is_valid unlocked sleep wait (rw e at v.phase) longer) v.idle;
      locked = moved_is_valid last_rate standing (Command false 0) 0 h (awake_is_valid false) (omega arith);
      awake = λ unlocked sleep e small. moved_is_valid last_rate standing (Command unlocked 0) _ h (awake_is_valid unlocked) small;
    })

pub time_keeps_counts_and_rate : (standing : Standing) (wait : ℕ)
    → ((pass_time standing wait).standing.wrong ≡ standing.wrong) × ((pass_time standing wait).standing.rate ≡ standing.rate)
    × ((pass_time standing wait).standing.tries ≡ standing.tries)
time_keeps_counts_and_rate standing wait =
    time_by_outcome (λ passed. (passed.standing.wrong ≡ standing.wrong) × (passed.standing.rate ≡ standing.rate) × (passed.standing.tries ≡ standing.tries)) standing wait
    (record {
      still = (refl, refl, refl);
      standby = (refl, refl, refl);
      detect = λ small. (refl, refl, refl);
      asleep = λ unlocked sleep e longer. (refl, refl, refl);
      locked = (refl, refl, refl);
      awake = λ unlocked sleep e small. (refl, refl, refl);
    })

-- what is unlocked after a wait was unlocked before it
pub time_never_unlocks : (standing : Standing) (wait : ℕ)
    → is_unlocked (pass_time standing wait).standing.phase ≡ true → is_unlocked standing.phase ≡ true
time_never_unlocks standing wait =
    time_by_outcome (λ passed. is_unlocked passed.standing.phase ≡ true → is_unlocked standing.phase ≡ true) standing wait
    (record {
      still = λ h. h;
      standby = λ h. absurd (false≢true h);
      detect = λ small h. absurd (false≢true h);
      asleep = λ unlocked sleep e longer h. ap is_unlocked e ∙ h;
      locked = λ h. absurd (false≢true h);
      awake = λ unlocked sleep e small h. ap is_unlocked e ∙ h;
    })

-- ---- when a packet is heard

-- a valid sleep is at most 2,000
sleep_is_short : (unlocked : Bool) (sleep : ℕ) → is_valid_phase (Command unlocked sleep) ≡ true → sleep ≤ most_sleep
unfolding pick
sleep_is_short true sleep p = omega (arith, eqb-true sleep 0 p)
sleep_is_short false sleep p = leb-true sleep most_sleep p

awake_is_heard : (standing : Standing) (unlocked : Bool) (rest : ℕ) → (command_idles standing unlocked rest).heard ≡ true
unfolding command_idles
awake_is_heard standing unlocked rest =
    by_pick (λ (passed : Passed). passed.heard ≡ true) (is_idle_too_long standing rest) _ _ (λ y. refl) (λ n. refl)

-- 01, Phases and waits: "With waits of 2,000 or more, no packet of the command phase is ever dropped."
pub long_wait_is_heard : (last_rate : ℕ) (standing : Standing) (wait : ℕ) (unlocked : Bool) (sleep : ℕ) → is_valid last_rate standing ≡ true
    → standing.phase ≡ Command unlocked sleep → 2000 ≤ wait → (pass_time standing wait).heard ≡ true
unfolding pass_time
long_wait_is_heard last_rate standing wait unlocked sleep h e long =
    let short = sleep_is_short unlocked sleep (rw e at (valid_by_parts last_rate standing h).phase) in
    let over : sleep ≤ wait = omega arith in
    ap (λ (phase : Phase). (pass_time_in standing wait phase).heard) e
    ∙ rw (pick_false _ _ (le-ltb wait sleep over)) (awake_is_heard standing unlocked (wait - sleep))
