-- What every packet keeps, and what only some can do. Each law goes through the outcomes of a packet, one by one.
use mathlib.Core.Path.{◌≡◌, refl, sym, ap, ◌∙◌}
use mathlib.Core.Bool.{Bool, true, false, true≢false, false≢true}
use mathlib.Core.List.{List}
use Prim.Native.Nat.{ℕ, ◌≤◌, ◌<◌}
use native.Mathlib.Omega.{arith}
use lib.Dec.{eqb}
use lib.ListN.{length}
use Rattle.octets.specs.Choice.{pick}
use Rattle.octets.proofs.Searching.{pick_true, by_test}
use Rattle.session_state.specs.declared.Phase.{Phase}
use Rattle.session_state.specs.declared.Phase.TheVariants.{Detect, Command, Standby, Ended, Disabled}
use Rattle.session_state.specs.declared.Standing.{Standing}
use Rattle.session_state.specs.declared.Passed.{Passed}
use Rattle.session_state.specs.Phases.{most_wrong, is_unlocked, is_valid}
use Rattle.session_state.specs.Waits.{moved_to, dropped, pass_time_in, pass_time}
use Rattle.session_state.proofs.PhaseLaws.{Valid, valid_by_parts, parts_make_valid}
use Rattle.session_state.proofs.WaitLaws.{time_keeps_valid, time_keeps_counts_and_rate, time_never_unlocks, long_wait_is_heard}
use Rattle.session_judge.specs.declared.Effect.TheVariants.{Strike}
use Rattle.session_judge.specs.declared.Judged.{Judged}
use Rattle.session_judge.specs.Unlocking.{asleep, alert_reset, alert_disable}
use Rattle.session_judge.proofs.EffectTests.{is_performed, is_strike}
use Rattle.session_judge.proofs.UnlockingLaws.{counted_up_lem, wrong_is_valid}
use Rattle.session_judge.specs.Hearing.{silently, heard_in, heard_after, judged_of}
use Rattle.session_judge.proofs.OutcomeLaws.{judged_by_outcome}

never : {C : Type 0} → false ≡ true → C
never h = absurd (false≢true h)

-- 01, Phases and waits, (a): "in standby, ended and disabled"
abbrev pub is_over : Phase → Bool
is_over Detect = false
is_over (Command unlocked sleep) = false
is_over Standby = true
is_over Ended = true
is_over Disabled = true

module _ (last_rate : ℕ) (standing : Standing) (alert wait : ℕ) (packet : List ℕ) (right : Bool) where
  -- ---- what every packet keeps

  -- no packet leaves a record that the next call refuses
  pub judge_keeps_valid : is_valid last_rate standing ≡ true → is_valid last_rate (judged_of last_rate standing alert wait packet right).standing ≡ true
  unfolding pick
  judge_keeps_valid h =
      let v = valid_by_parts last_rate _ (time_keeps_valid last_rate standing wait h) in
      judged_by_outcome last_rate (λ j. is_valid last_rate j.standing ≡ true) alert right standing wait packet
      (parts_make_valid last_rate _ (record { idle = omega arith; wrong = v.wrong; tries = v.tries; most = v.most; rate = v.rate; phase = refl }))
      (λ idle less.
      let k : Valid last_rate (moved_to (pass_time standing wait).standing (pass_time standing wait).standing.phase idle)
      = record { idle = omega arith; wrong = v.wrong; tries = v.tries; most = v.most; rate = v.rate; phase = v.phase } in
      record {
        said = λ reply. parts_make_valid last_rate _ k;
        informed = parts_make_valid last_rate _ k;
        performed = λ task u. parts_make_valid last_rate _ k;
        ended = parts_make_valid last_rate _ (record { idle = k.idle; wrong = k.wrong; tries = k.tries; most = k.most; rate = k.rate; phase = refl });
        rated = λ id known. parts_make_valid last_rate _ (record { idle = k.idle; wrong = k.wrong; tries = k.tries; most = k.most; rate = known; phase = k.phase });
        unlocked = λ y. parts_make_valid last_rate _ (record { idle = k.idle; wrong = omega arith; tries = omega arith; most = k.most; rate = k.rate; phase = refl });
        wrong = λ n few. wrong_is_valid last_rate _ asleep k refl;
        struck = λ n third e. wrong_is_valid last_rate _ asleep k refl;
        disabled = λ n third e. wrong_is_valid last_rate _ Disabled k refl;
        warned = λ n third e. wrong_is_valid last_rate _ asleep k refl;
      })

  -- a locked session stays locked while no packet carries its password
  pub wrong_never_unlocks : right ≡ false → is_unlocked (judged_of last_rate standing alert wait packet right).standing.phase ≡ true
      → is_unlocked standing.phase ≡ true
  wrong_never_unlocks w =
      let before = time_never_unlocks standing wait in
      judged_by_outcome last_rate (λ j. is_unlocked j.standing.phase ≡ true → is_unlocked standing.phase ≡ true) alert right standing wait packet
      never
      (λ idle less.
      record {
        said = λ reply. before;
        informed = before;
        performed = λ task u. before;
        ended = never;
        rated = λ id known. before;
        unlocked = λ y. absurd (true≢false (sym y ∙ w));
        wrong = λ n few. never;
        struck = λ n third e. never;
        disabled = λ n third e. never;
        warned = λ n third e. never;
      })

  -- three wrong passwords stay counted while no packet carries the right one
  pub wrong_count_rises : is_valid last_rate standing ≡ true → right ≡ false → standing.wrong ≤ (judged_of last_rate standing alert wait packet right).standing.wrong
  wrong_count_rises h w =
      let few = (valid_by_parts last_rate standing h).wrong in
      let same = (time_keeps_counts_and_rate standing wait).0 in
      let more = (counted_up_lem (pass_time standing wait).standing.wrong).0 (omega arith) in
      judged_by_outcome last_rate (λ j. standing.wrong ≤ j.standing.wrong) alert right standing wait packet
      (omega arith)
      (λ idle less.
      record {
        said = λ reply. omega arith;
        informed = omega arith;
        performed = λ task u. omega arith;
        ended = omega arith;
        rated = λ id known. omega arith;
        unlocked = λ y. absurd (true≢false (sym y ∙ w));
        wrong = λ n below. omega arith;
        struck = λ n third e. omega arith;
        disabled = λ n third e. omega arith;
        warned = λ n third e. omega arith;
      })

  -- ---- what only some packets do

  -- what an effect, and a fuse that is burnt, tell of the session
  record Tells (j : Judged) : Type 0 where
    performed : is_performed j.effect ≡ true → is_unlocked standing.phase ≡ true
    struck : is_strike j.effect ≡ true → (alert ≡ alert_reset) × (j.standing.wrong ≡ most_wrong)
    burnt : j.burn ≡ true → (alert ≡ alert_disable) × (j.standing.phase ≡ Disabled)

  quiet : {j : Judged} → is_performed j.effect ≡ false → is_strike j.effect ≡ false → j.burn ≡ false → Tells j
  quiet p s b = record { performed = λ h. never (sym p ∙ h); struck = λ h. never (sym s ∙ h); burnt = λ h. never (sym b ∙ h) }

  tells : Tells (judged_of last_rate standing alert wait packet right)
  tells =
      judged_by_outcome last_rate Tells alert right standing wait packet
      (quiet refl refl refl)
      (λ idle less.
      record {
        said = λ reply. quiet refl refl refl;
        informed = quiet refl refl refl;
        performed = λ task u. record { performed = λ h. time_never_unlocks standing wait u; struck = never; burnt = never };
        ended = quiet refl refl refl;
        rated = λ id known. quiet refl refl refl;
        unlocked = λ y. quiet refl refl refl;
        wrong = λ n few. quiet refl refl refl;
        struck = λ n third e.
            record {
              performed = never;
              struck = λ h. (e, omega (arith, (counted_up_lem (pass_time standing wait).standing.wrong).1));
              burnt = never;
            };
        disabled = λ n third e. record { performed = never; struck = never; burnt = λ h. (e, refl) };
        warned = λ n third e. quiet refl refl refl;
      })

  -- while a session is locked only the alert touches memory, and only Info shows some of it
  pub locked_performs_nothing : is_unlocked standing.phase ≡ false → is_performed (judged_of last_rate standing alert wait packet right).effect ≡ false
  locked_performs_nothing shut =
      by_test (is_performed (judged_of last_rate standing alert wait packet right).effect)
      (λ y. absurd (true≢false (sym (tells.performed y) ∙ shut)))
      (λ n. n)

  -- an erase that no command asked for is the alert's, with three wrong passwords counted
  pub strikes_at_three : (judged_of last_rate standing alert wait packet right).effect ≡ Strike
      → (alert ≡ alert_reset) × ((judged_of last_rate standing alert wait packet right).standing.wrong ≡ most_wrong)
  strikes_at_three e = tells.struck (ap is_strike e)

  -- the fuse is burnt by the alert that disables, and by nothing else
  pub burns_when_disabled : (judged_of last_rate standing alert wait packet right).burn ≡ true
      → (alert ≡ alert_disable) × ((judged_of last_rate standing alert wait packet right).standing.phase ≡ Disabled)
  burns_when_disabled = tells.burnt

  -- the erase comes at the very call in which the count reaches three: from then on the flash is erased
  pub third_wrong_strikes : alert ≡ alert_reset → standing.wrong < most_wrong
      → (judged_of last_rate standing alert wait packet right).standing.wrong ≡ most_wrong → (judged_of last_rate standing alert wait packet right).effect ≡ Strike
  third_wrong_strikes reset few =
      let same = (time_keeps_counts_and_rate standing wait).0 in
      judged_by_outcome last_rate (λ j. j.standing.wrong ≡ most_wrong → j.effect ≡ Strike) alert right standing wait packet
      (λ h. absurd (omega arith))
      (λ idle less.
      record {
        said = λ reply h. absurd (omega arith);
        informed = λ h. absurd (omega arith);
        performed = λ task u h. absurd (omega arith);
        ended = λ h. absurd (omega arith);
        rated = λ id known h. absurd (omega arith);
        unlocked = λ y h. absurd (omega arith);
        wrong = λ n below h. absurd (omega arith);
        struck = λ n third e h. refl;
        disabled = λ n third e h. absurd (omega arith);
        warned = λ n third e h. absurd (e reset);
      })

  -- ---- which packets are heard

  over_is_dropped : (phase : Phase) → is_over phase ≡ true → pass_time_in standing wait phase ≡ dropped standing
  over_is_dropped Detect h = never h
  over_is_dropped (Command unlocked sleep) h = never h
  over_is_dropped Standby h = refl
  over_is_dropped Ended h = refl
  over_is_dropped Disabled h = refl

  -- 01, Phases and waits, (a): "in standby, ended and disabled: no reply, no change"
  pub silent_phases : is_over standing.phase ≡ true → judged_of last_rate standing alert wait packet right ≡ silently standing
  unfolding judged_of heard_after pass_time pick
  silent_phases h = ap (λ (passed : Passed). heard_after last_rate passed alert packet right) (over_is_dropped standing.phase h)

  -- 01, Unlock: "the answer of that call, and of no other, tells the board to burn its fuse"
  pub disabled_burns_no_more : standing.phase ≡ Disabled → (judged_of last_rate standing alert wait packet right).burn ≡ false
  disabled_burns_no_more e = ap (λ (j : Judged). j.burn) (silent_phases (ap is_over e))

  -- "With waits of 2,000 or more, no packet of the command phase is ever dropped."
  pub long_wait_is_judged : (unlocked : Bool) (sleep : ℕ) → is_valid last_rate standing ≡ true → standing.phase ≡ Command unlocked sleep → 2000 ≤ wait
      → judged_of last_rate standing alert wait packet right
      ≡ pick (eqb (length packet) 0) (silently (pass_time standing wait).standing)
      (heard_in last_rate (pass_time standing wait).standing alert packet right (pass_time standing wait).standing.phase)
  unfolding judged_of heard_after
  long_wait_is_judged unlocked sleep h e long = pick_true _ _ (long_wait_is_heard last_rate standing wait unlocked sleep h e long)
