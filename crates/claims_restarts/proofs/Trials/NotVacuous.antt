-- T-12 speaks of boards that there are and of histories in which the alert strikes and a later Unlock succeeds; and without its conditions it is false.
use mathlib.Core.Path.{◌≡◌, refl, sym, ap, ap₂, ◌∙◌}
use mathlib.Core.Bool.{true, false, true≢false}
use mathlib.Core.List.{List, [], ◌∷◌}
use Prim.Native.Nat.{ℕ, ◌/◌}
use native.Mathlib.Omega.{arith}
use lib.ListN.{length, replicate, length-replicate}
use Rattle.octets.specs.Choice.{pick}
use Rattle.octets.specs.Alike.{are_same}
use Rattle.octets.proofs.Searching.{pick_true}
use Rattle.octets.proofs.AlikeLaws.{equal_are_same}
use Rattle.parts.specs.Parts.{mspm0}
use Rattle.parts.proofs.PartLaws.{mspm0_is_sound}
use Rattle.session_state.specs.Phases.{most_sleep, is_unlocked}
use Rattle.settings.specs.Answers.{SettingsTold}
use Rattle.session.specs.Starting.{settings_read}
use Rattle.flash.specs.Memory.{Memory, memory}
use Rattle.flash.specs.Protection.{is_protected, may_change}
use Rattle.flash.proofs.ProtectionLaws.{changed_at}
use Rattle.session_judge.specs.declared.Effect.TheVariants.{Strike}
use Rattle.session_judge.specs.Unlocking.{alert_reset, counted_up, alerted, tried_wrong, tried}
use Rattle.session_act.proofs.LockedLaws.{is_strike}
use Rattle.session.specs.CallAnswers.{Left}
use Rattle.c_records.specs.Records.{record_size}
use Rattle.claims.specs.TwoBoards.{Images, Running}
use Rattle.claims.specs.Trials.{sector_size, chosen, strict_board, guarded_board, second_ff, all_ff, written_board, connects, unlocks}
use Rattle.claims.proofs.Secrecy.LockedBoard.{image_then, memory_then, later}
use Rattle.claims.proofs.Secrecy.LockedCall.{verdict}
use Rattle.claims.proofs.Trials.SomePackets.{stood, tried_asleep}
use Rattle.claims.proofs.Trials.SomeBoards as boards
use Rattle.claims.proofs.Trials.SomeBoards.{taken, Good, good_read, reset_is_good, reset_are_alike}
use Rattle.claims.proofs.Trials.NotVacuousFromC.{reset_is_lent}
use Rattle.claims.proofs.Trials.SomeSessions.{unlock_is_strange, unlock_is_tried_at, none_protected, resets, guessed_twice, guessed, struck_at_three, second_erased, all_kept}
use Rattle.claims_restarts.specs.Moves.{Move, send, cut, Now, moved, now_after, seen_after, Throughout}
use Rattle.claims_restarts.specs.Cuts.{some_erased, cut_in_main}
use Rattle.claims_restarts.specs.Boards.{fresh, port_one, port_other, is_over}
use Rattle.claims_restarts.specs.Returning.{Roomy, Requested, Advised}
use Rattle.claims_restarts.specs.FromC.{HasRecords, ReturningFromC}
use Rattle.claims_restarts.specs.Trials.{starts, until_struck, after_struck, password_in_struck, first_sector, cut_history, left_of, last_unlocks, HalfErased}
use Rattle.claims_restarts.proofs.SameBoard.{same_through}
use Rattle.claims_restarts.proofs.Twins.{settings_size_lem}
use Rattle.claims_restarts.proofs.Pairs.{cut_of_locked}
use Rattle.claims_restarts.proofs.Trials.Strangers.{unlock_roomy, guesses_roomy, until_roomy, after_roomy, connect_without, unlock_without, until_without}
use Rattle.claims_restarts.proofs.Trials.SomeVisits.{now_is_good, twice_now, strikes_then, left_then_lem, struck_at_once, stays_over, over_by_start, erased_then, unlocks_then}

-- ---- all that T-12 asks for is there

abbrev one_strict : Images
one_strict = strict_board 0x11 0x66

abbrev other_strict : Images
other_strict = strict_board 0x22 0x77

one_is_good : Good one_strict (chosen alert_reset 0 0 0x11)
one_is_good = reset_is_good 0 0x11 0x66 (omega arith) (omega arith)

other_is_good : Good other_strict (chosen alert_reset 0 0 0x22)
other_is_good = reset_is_good 0 0x22 0x77 (omega arith) (omega arith)

-- as they are handed over
one_now_is_good : Good (fresh mspm0 one_strict) (chosen alert_reset 0 0 0x11)
one_now_is_good = now_is_good one_strict _ one_is_good refl (λ e. omega arith)

other_now_is_good : Good (fresh mspm0 other_strict) (chosen alert_reset 0 0 0x22)
other_now_is_good = now_is_good other_strict _ other_is_good refl (λ e. omega arith)

-- what the reader takes of the one board
one_reads : {A : Type 0} (of : SettingsTold → A) → of (settings_read one_strict.settings) ≡ of (taken (chosen alert_reset 0 0 0x11))
one_reads of = ap of (good_read one_strict _ one_is_good)

-- with the start after the session that was struck the condition is over: the password of the one board is sent, and it is not asked about
over_then : is_over mspm0 one_strict (starts 0 ∷ until_struck) ≡ true
over_then = over_by_start one_strict until_struck (strikes_then one_strict _ one_is_good refl (λ e. omega arith))

not_asked : {A : Type 0} (history : List Move) → is_over mspm0 one_strict history ≡ true → is_over mspm0 one_strict history ≡ false → A
not_asked history over before = absurd (true≢false (sym over ∙ before))

pub return_is_asked : Requested mspm0 one_strict other_strict after_struck
return_is_asked =
    let connects_so = connect_without one_strict other_strict _ _ one_is_good other_is_good in
    let guesses_so = unlock_without one_strict other_strict _ _ one_is_good other_is_good 0x33 (λ e. omega arith) (λ e. omega arith) in
    record {
      alert = one_reads (λ told. told.settings.shown.alert);
      returning = record {
        boards = reset_are_alike 0 (omega arith);
        sectors = λ place there. one_reads (λ told. is_protected told.settings.protection (place / sector_size)) ∙ none_protected 32 (place / sector_size);
        settings = one_reads (λ told. told.settings.shown.settings_protected);
        room = after_roomy;
        without = (
          not_asked _ (stays_over one_strict (send (unlocks 0x11)) _ (stays_over one_strict (send connects) _ over_then)),
          (
            not_asked _ (stays_over one_strict (send connects) _ over_then),
            (
              not_asked _ over_then,
              (
                λ e. tt,
                (
                  λ e. guesses_so,
                  (
                    λ e. guesses_so,
                    (
                      λ e. guesses_so,
                      (
                        λ e. connects_so,
                        (
                          λ e. tt,
                          (
                            λ e. tt,
                            (λ e. guesses_so, (λ e. guesses_so, (λ e. connects_so, (λ e. tt, tt)))),
                          ),
                        ),
                      ),
                    ),
                  ),
                ),
              ),
            ),
          ),
        );
      };
    }

-- and so it is from C
area_size : (byte : ℕ) → length (replicate (record_size mspm0) byte) ≡ record_size mspm0
area_size byte = length-replicate (record_size mspm0) byte

records_lent : (fuse : ℕ) → HasRecords mspm0 (starts fuse)
records_lent fuse = record { one = area_size 0; other = area_size 0xFF }

pub return_is_asked_from_c : ReturningFromC mspm0 one_strict other_strict after_struck
return_is_asked_from_c =
    let started = records_lent 0 in
    record {
      returning = return_is_asked.returning;
      lent = record {
        one_bytes = (reset_is_lent 0 0x11 0x66 (replicate (record_size mspm0) 0) (omega arith) (omega arith) (area_size 0)).bytes;
        other_bytes = (reset_is_lent 0 0x22 0x77 (replicate (record_size mspm0) 0) (omega arith) (omega arith) (area_size 0)).bytes;
        records = (tt, (tt, (tt, (started, (tt, (tt, (tt, (tt, (started, (records_lent 1, (tt, (tt, (tt, (started, tt))))))))))))));
      };
    }

-- in the third session all is erased, on both boards, and in the last both unlock
pub both_are_erased : (left_of (now_after (port_one mspm0) one_strict until_struck) ≡ all_ff (fresh mspm0 one_strict)) × (left_of (now_after (port_other mspm0) other_strict until_struck) ≡ all_ff (fresh mspm0 other_strict))
both_are_erased = (
  erased_then 0x11 0x66 (omega arith) (λ e. omega arith),
  ap left_of (sym (same_through mspm0 other_strict until_struck until_roomy).1) ∙ erased_then 0x22 0x77 (omega arith) (λ e. omega arith),
)

pub both_unlock : (last_unlocks (seen_after (port_one mspm0) one_strict after_struck) ≡ true) × (last_unlocks (seen_after (port_other mspm0) other_strict after_struck) ≡ true)
both_unlock = (
  unlocks_then 0x11 0x66 (omega arith) (λ e. omega arith),
  ap last_unlocks (sym (same_through mspm0 other_strict after_struck after_roomy).0) ∙ unlocks_then 0x22 0x77 (omega arith) (λ e. omega arith),
)

-- ---- with a password in the session that is struck, they are told apart

-- the session keeps its password, and one of them unlocks
one_opens : last_unlocks (seen_after (port_one mspm0) one_strict password_in_struck) ≡ true
unfolding tried pick
one_opens =
    rw (struck_at_once one_strict _ one_is_good refl (λ e. omega arith))
    (ap (λ (left : Left). is_unlocked left.session.standing.phase)
    (unlock_is_tried_at (fresh mspm0 one_strict) _ one_now_is_good 0x11 (omega arith) _ (stood most_sleep 3)
    (guessed (fresh mspm0 one_strict) _ one_now_is_good refl (λ e. omega arith)) 3 (tried_asleep 0x11 (omega arith) 3) true (equal_are_same (replicate 32 0x11))))

other_refuses : last_unlocks (seen_after (port_one mspm0) other_strict password_in_struck) ≡ false
unfolding are_same tried tried_wrong alerted counted_up pick
other_refuses =
    rw (struck_at_once other_strict _ other_is_good refl (λ e. omega arith))
    (ap (λ (left : Left). is_unlocked left.session.standing.phase)
    (unlock_is_tried_at (fresh mspm0 other_strict) _ other_now_is_good 0x11 (omega arith) _ (stood most_sleep 3)
    (guessed (fresh mspm0 other_strict) _ other_now_is_good refl (λ e. omega arith)) 3 (tried_asleep 0x11 (omega arith) 3) false refl)
    ∙ ap (λ (alert : ℕ). is_unlocked (tried (stood 0 3) alert false).standing.phase) (resets (fresh mspm0 other_strict) _ other_now_is_good refl (λ e. omega arith)))

pub password_tells_them_apart : seen_after (port_one mspm0) one_strict password_in_struck ≡ seen_after (port_other mspm0) other_strict password_in_struck → ⊥
password_tells_them_apart same =
    let roomy_so : Throughout Roomy password_in_struck = (unlock_roomy 0x11, guesses_roomy [] tt) in
    true≢false (sym one_opens ∙ ap last_unlocks (same ∙ sym (same_through mspm0 other_strict password_in_struck roomy_so).0) ∙ other_refuses)

-- ---- the power goes within the strike's erase

-- the third guess strikes
third_strikes : (verdict mspm0 (fresh mspm0 one_strict) (stood most_sleep 2) (unlocks 0x33)).effect ≡ Strike
unfolding tried tried_wrong alerted counted_up pick
third_strikes = rw (resets (fresh mspm0 one_strict) _ one_now_is_good refl (λ e. omega arith), tried_asleep 0x33 (omega arith) 2 alert_reset false) refl

twice_kept : (later mspm0 (fresh mspm0 one_strict) (stood most_sleep 2)).memory ≡ fresh mspm0 one_strict
unfolding image_then pick
twice_kept = ap (memory_then mspm0 (fresh mspm0 one_strict)) (struck_at_three (fresh mspm0 one_strict) _ one_now_is_good refl (λ e. omega arith)).0

cut_then : left_of (now_after (port_one mspm0) one_strict cut_history) ≡ cut_in_main mspm0 (replicate 32 0) first_sector (fresh mspm0 one_strict)
cut_then =
    let twice = guessed_twice (fresh mspm0 one_strict) _ one_now_is_good refl (λ e. omega arith) in
    let strange = unlock_is_strange (fresh mspm0 one_strict) _ one_now_is_good 0x33 (λ e. omega arith) in
    ap (λ (now : Now Running). left_of (moved (port_one mspm0) now (cut (unlocks 0x33) first_sector))) (twice_now one_strict _ one_is_good refl (λ e. omega arith))
    ∙ cut_of_locked mspm0 mspm0_is_sound one_strict other_strict (fresh mspm0 one_strict) (stood most_sleep 2) twice.locked (unlocks 0x33) first_sector strange
    ∙ pick_true _ _ (ap is_strike third_strikes)
    ∙ ap₂ (λ (bits : List ℕ) (before : Memory). cut_in_main mspm0 bits first_sector before) (one_reads (λ told. told.settings.protection)) twice_kept

pub cut_leaves_half : HalfErased one_strict (left_of (now_after (port_one mspm0) one_strict cut_history))
unfolding some_erased may_change is_protected written_board pick
cut_leaves_half = rw cut_then (record { first = changed_at _ _ _ one_strict.main 0 (omega arith); second = changed_at _ _ _ one_strict.main sector_size (omega arith); settings = refl })

-- ---- the board as we advise it

guarded_is_good : Good (guarded_board 0x11 0x66) (chosen alert_reset 1 0 0x11)
guarded_is_good = reset_is_good 1 0x11 0x66 (omega arith) (omega arith)

-- a protected sector and protected settings: the second sector is erased in the third session, and the settings stay
pub advised_is_asked : Advised mspm0 (guarded_board 0x11 0x66) (guarded_board 0x22 0x77) until_struck
advised_is_asked = record {
  boards = reset_are_alike 1 (omega arith);
  kept = λ e. ap (λ (told : SettingsTold). told.settings.shown.settings_protected) (good_read (guarded_board 0x11 0x66) _ guarded_is_good);
  room = until_roomy;
  without =
      until_without (guarded_board 0x11 0x66) (guarded_board 0x22 0x77) _ _ guarded_is_good (reset_is_good 1 0x22 0x77 (omega arith) (omega arith))
      (λ e. omega arith) (λ e. omega arith);
}

pub advised_are_struck : left_of (now_after (port_one mspm0) (guarded_board 0x11 0x66) until_struck) ≡ second_ff (fresh mspm0 (guarded_board 0x11 0x66))
advised_are_struck =
    left_then_lem (guarded_board 0x11 0x66) _ guarded_is_good refl (λ e. omega arith)
    ∙ ap₂ (λ (flash image : List ℕ). memory flash image (fresh mspm0 (guarded_board 0x11 0x66)).window)
    (second_erased (guarded_board 0x11 0x66).main guarded_is_good.size) (all_kept (guarded_board 0x11 0x66).settings (settings_size_lem mspm0 (guarded_board 0x11 0x66) (boards.starts (guarded_board 0x11 0x66) _ guarded_is_good)))
