-- Sessions one after the other, on the boards on which T-12 is tried.
use mathlib.Core.Path.{◌≡◌, refl, ap, ap₂, ◌∙◌}
use mathlib.Core.Bool.{true, false}
use mathlib.Core.List.{List, [], ◌∷◌}
use Prim.Native.Nat.{ℕ, ◌<◌}
use native.Mathlib.Omega.{arith}
use borrow.Author.Tests.{eq-eqb}
use lib.ListN.{length, get_or, replicate, length-replicate}
use Rattle.octets.specs.Choice.{pick}
use Rattle.octets.proofs.Searching.{pick_true, pick_false, by_test}
use Rattle.octets.proofs.AlikeLaws.{equal_are_same}
use Rattle.parts.specs.Parts.{mspm0}
use Rattle.session_state.specs.Phases.{most_sleep, is_unlocked}
use Rattle.settings.specs.Held.{Settings}
use Rattle.settings.specs.Values.{blank_settings}
use Rattle.settings.specs.Kept.{filled_up}
use Rattle.settings.specs.Answers.{settings_only}
use Rattle.flash.specs.Memory.{memory}
use Rattle.session_judge.specs.Unlocking.{alert_reset, tried}
use Rattle.session_act.specs.Board.{settings_protection}
use Rattle.session.specs.CallAnswers.{Left}
use Rattle.session.specs.Starting.{start_of}
use Rattle.c_records.specs.Boundary.{start_by_fuse}
use Rattle.claims.specs.TwoBoards.{Images, Running, Sending, started, called, next}
use Rattle.claims.specs.Trials.{sector_size, chosen, strict_board, all_ff, connects, unlocks, two_guesses, three_guesses, ran}
use Rattle.claims.proofs.Settings.SettingsRule.{blank_reads}
use Rattle.claims.proofs.Secrecy.LockedBoard.{image_then, alert_of, later}
use Rattle.claims.proofs.Trials.SomePackets.{stood, tried_asleep, first_is_counted}
use Rattle.claims.proofs.Trials.SomeBoards.{Good, starts, reset_is_good}
use Rattle.claims.proofs.Trials.SomeSessions.{Stands, guess, connected, unlock_is_tried_at, guessed_twice, guessed, struck_at_three, two_guesses_keep, all_erased, strike_leaves}
use Rattle.claims_restarts.specs.Moves.{Move, send, Now, off, on, moved, now_after, seen_after}
use Rattle.claims_restarts.specs.Boards.{fresh, started_by, port_one, has_struck, is_over}
use Rattle.claims_restarts.specs.Trials as trials
use Rattle.claims_restarts.specs.Trials.{calls, session, until_struck, after_struck, left_of, last_unlocks}
use Rattle.claims_restarts.proofs.Twins.{zeros_size, settings_size_lem}

-- ---- a session, from what the last one left

abbrev Starts : Images → Type 0
Starts images = (start_of mspm0 false images.main images.settings images.window).answer.number ≡ 0

-- what a session leaves, with the window handed over anew
abbrev pub handed : Now Running → Images
handed now = fresh mspm0 (left_of now)

abbrev started_fresh : Images → Now Running
started_fresh images = started_by (start_by_fuse mspm0 0 images.main images.settings images.window) images

start_goes_on : (now : Now Running) (images : Images) → handed now ≡ images → Starts images → moved (port_one mspm0) now (trials.starts 0) ≡ on (started mspm0 images)
unfolding started_by
start_goes_on (off before) images e good = ap started_fresh e ∙ pick_true _ _ (eq-eqb _ _ good)
start_goes_on (on board) images e good = ap started_fresh e ∙ pick_true _ _ (eq-eqb _ _ good)

-- with the fuse set it is refused
start_is_refused : (now : Now Running) → handed (moved (port_one mspm0) now (trials.starts 1)) ≡ handed now
unfolding started_by start_of pick
start_is_refused (off before) = refl
start_is_refused (on board) = refl

module _ (images : Images) where
  calls_run : (sendings : List Sending) (earlier : List Move) (board : Running) → now_after (port_one mspm0) images earlier ≡ on board
      → now_after (port_one mspm0) images (calls sendings earlier) ≡ on (ran board sendings)
  calls_run [] earlier board e = e
  calls_run (sending ∷ sendings) earlier board e =
      calls_run sendings (send sending ∷ earlier) (next (called mspm0 board sending sending.one_area)) (ap (λ (now : Now Running). moved (port_one mspm0) now (send sending)) e)

  pub session_runs : (sendings : List Sending) (earlier : List Move) (before : Images) → handed (now_after (port_one mspm0) images earlier) ≡ before → Starts before
      → now_after (port_one mspm0) images (session sendings earlier) ≡ on (ran (started mspm0 before) sendings)
  session_runs sendings earlier before e good =
      calls_run sendings (trials.starts 0 ∷ earlier) (started mspm0 before) (start_goes_on (now_after (port_one mspm0) images earlier) before e good)

  -- once the condition is over it stays so
  pub stays_over : (move : Move) (earlier : List Move) → is_over mspm0 images earlier ≡ true → is_over mspm0 images (move ∷ earlier) ≡ true
  unfolding is_over
  stays_over move earlier over = pick_true _ _ over

  -- it is over with the start after the session that was struck
  pub over_by_start : (earlier : List Move) → has_struck (now_after (port_one mspm0) images earlier) ≡ true → is_over mspm0 images (trials.starts 0 ∷ earlier) ≡ true
  unfolding is_over
  over_by_start earlier struck =
      by_test (is_over mspm0 images earlier) (λ y. pick_true _ _ y) (λ n. pick_false _ _ n ∙ pick_true _ _ refl ∙ struck)

-- ---- a board whose alert resets

module _ (images : Images) (settings : Settings) (good : Good images settings)
    (reset : settings.shown.alert ≡ alert_reset) (other : 0x33 ≡ get_or settings.password 0 0 → ⊥)
  where
    -- as it is handed over
    abbrev pub now : Images
    now = fresh mspm0 images

    pub now_is_good : Good now settings
    now_is_good = record { size = good.size; window = zeros_size mspm0; read = good.read }

    -- after two guesses it stands so, and it is as it was
    pub twice_now : now_after (port_one mspm0) images (session two_guesses []) ≡ on (later mspm0 now (stood most_sleep 2))
    twice_now =
        session_runs images two_guesses [] now refl (starts now settings now_is_good) ∙ ap (λ (board : Running). on board) (guessed_twice now settings now_is_good reset other).so

    left_by_two : handed (now_after (port_one mspm0) images (trials.starts 1 ∷ session two_guesses [])) ≡ now
    left_by_two =
        start_is_refused (now_after (port_one mspm0) images (session two_guesses []))
        ∙ ap handed (session_runs images two_guesses [] now refl (starts now settings now_is_good))
        ∙ ap (fresh mspm0) (two_guesses_keep now settings now_is_good reset other)

    -- three more, and the alert strikes
    pub struck_now : now_after (port_one mspm0) images until_struck ≡ on (ran (started mspm0 now) three_guesses)
    struck_now = session_runs images three_guesses (trials.starts 1 ∷ session two_guesses []) now left_by_two (starts now settings now_is_good)

    pub strikes_then : has_struck (now_after (port_one mspm0) images until_struck) ≡ true
    strikes_then =
        ap has_struck (struck_now ∙ ap (λ (board : Running). on board) (guessed now settings now_is_good reset other).so)
        ∙ (struck_at_three now settings now_is_good reset other).1

    -- and leaves what the bits say
    pub left_then_lem : left_of (now_after (port_one mspm0) images until_struck)
        ≡ memory (image_then sector_size true (filled_up settings.protection) images.main) (image_then sector_size true (settings_protection settings.shown) images.settings) now.window
    left_then_lem = ap left_of struck_now ∙ strike_leaves now settings now_is_good reset other

    -- by three at once it does too
    pub struck_at_once : now_after (port_one mspm0) images (session three_guesses []) ≡ on (ran (started mspm0 now) three_guesses)
    struck_at_once = session_runs images three_guesses [] now refl (starts now settings now_is_good)

-- ---- nothing of it is protected

module _ (byte main : ℕ) (small : byte < 256) (other : 0x33 ≡ byte → ⊥) where
  abbrev board : Images
  board = strict_board byte main

  good_then : Good board (chosen alert_reset 0 0 byte)
  good_then = reset_is_good 0 byte main (omega arith) small

  -- all is erased
  abbrev erased : Images
  erased = all_ff (fresh mspm0 board)

  pub erased_then : left_of (now_after (port_one mspm0) board until_struck) ≡ erased
  erased_then =
      left_then_lem board _ good_then refl other
      ∙ ap₂ (λ (flash image : List ℕ). memory flash image (fresh mspm0 board).window) (all_erased 32 board.main) (all_erased 1 board.settings)

  -- and the board is blank
  blank_then : Good erased blank_settings
  blank_then = record {
    size = length-replicate {A = ℕ} (length board.main) 0xFF ∙ good_then.size;
    window = zeros_size mspm0;
    read = rw (settings_size_lem mspm0 board (starts board _ good_then)) (ap settings_only blank_reads);
  }

  -- a password that one of the boards had is wrong then, and that of a blank board is right
  guessed_then : Stands erased (ran (started mspm0 erased) (connects ∷ unlocks 0x11 ∷ [])) (stood most_sleep 1)
  guessed_then =
      guess erased _ blank_then _ _ (connected erased _ blank_then) 0x11 (λ e. omega arith) _
      (first_is_counted 0x11 (omega arith) (alert_of erased))

  unlocked_then : is_unlocked
      (called mspm0 (ran (started mspm0 erased) (connects ∷ unlocks 0x11 ∷ [])) (unlocks 0xFF) (unlocks 0xFF).one_area).session.standing.phase ≡ true
  unfolding tried pick
  unlocked_then =
      ap (λ (left : Left). is_unlocked left.session.standing.phase)
      (unlock_is_tried_at erased _ blank_then 0xFF (omega arith) _ (stood most_sleep 1) guessed_then 1 (tried_asleep 0xFF (omega arith) 1) true
      (equal_are_same (replicate 32 0xFF)))

  pub unlocks_then : last_unlocks (seen_after (port_one mspm0) board after_struck) ≡ true
  unlocks_then =
      rw
      (session_runs board (connects ∷ unlocks 0x11 ∷ []) until_struck erased (ap (fresh mspm0) erased_then) (starts erased _ blank_then))
      unlocked_then
