-- Demand 1 and 2: what holds of every start and of every call, over the definitions that `start` and `call` are proved to meet. That a refused call
-- changes nothing, and that no reply has more than 1,729 bytes, stands in the loader's own CallLaws; which numbers there are, in NumberRule.
use Rattle.std.specs.Prelude.{Some, None, Result, Ok, Err, IsErr}
use mathlib.Core.Path.{◌≡◌, refl, sym, ap, subst, ◌∙◌}
use mathlib.Core.Bool.{Bool, true, false, true≢false, not}
use mathlib.Core.List.{List, ◌∷◌}
use Prim.Native.Nat.{ℕ, ◌≤◌}
use native.Mathlib.Omega.{arith}
use borrow.Author.Tests.{le-ltb, eq-eqb, ne_eqb, eqb-true, eqb-false, not-false}
use lib.Dec.{eqb}
use lib.ListN.{length}
use Rattle.octets.specs.Choice.{pick}
use Rattle.octets.proofs.Searching.{pick_false, pick_both, by_pick, by_test}
use Rattle.parts.specs.declared.Part.{Part}
use Rattle.parts.specs.Parts.{mspm0, am13e230x}
use Rattle.line.specs.Codes.{acknowledged, unlock, reply_limit}
use Rattle.line.specs.Packet.{password_in}
use Rattle.line.specs.declared.Command.TheVariants.{Unlock}
use Rattle.line.specs.Acknowledgement.{acknowledgement}
use Rattle.line.specs.Commands.{command_of}
use Rattle.line.specs.Replies.{reply_bytes, sent_of}
use Rattle.line.proofs.PacketLaws.{unlock_is_password}
use Rattle.session_state.specs.declared.Phase.TheVariants as phase
use Rattle.session_state.specs.Phases.{most_wrong, is_unlocked, is_valid}
use Rattle.session_state.specs.Waits.{pass_time}
use Rattle.session_state.proofs.PhaseLaws.{valid_by_parts, start_is_valid}
use Rattle.session_state.proofs.WaitLaws.{long_wait_is_heard}
use Rattle.settings.specs.Values.{is_allowed, blank_settings}
use Rattle.settings.specs.declared.Forms.TheVariants.{Both}
use Rattle.settings.specs.Answers.{numbered, SettingsTold, settings_only}
use Rattle.settings.specs.Reader.{Checked, checked_of, read_as, read_of}
use Rattle.settings.proofs.ReaderLaws.{refuses}
use Rattle.settings.specs.Layout.{image_size}
use Rattle.settings_large.specs.Contents.{kept_in}
use Rattle.settings_large.specs.Image.{large_size}
use Rattle.settings_large.specs.Reader as larger
use Rattle.flash.specs.Memory.{Memory}
use Rattle.session_judge.specs.declared.Effect.{Effect}
use Rattle.session_judge.specs.declared.Judged.{Judged}
use Rattle.session_judge.proofs.JudgeLaws.{judge_keeps_valid, wrong_count_rises, locked_performs_nothing}
use Rattle.session_judge.proofs.StrangerLaws.{only_unlock_is_compared}
use Rattle.session_act.specs.declared.Order.TheVariants.{Keep, EraseBoth}
use Rattle.session_act.specs.declared.Planned.{Planned}
use Rattle.session_act.proofs.PlanLaws.{bytes_need_no_order}
use Rattle.session_act.proofs.ActingLaws.{SameLengths, act_keeps_lengths}
use Rattle.session_act.proofs.LockedLaws.{is_strike, locked_orders}
use Rattle.session_send.specs.Answering.{hushed, answer_of}
use Rattle.session.specs.declared.Session.{Session}
use Rattle.session.specs.declared.StartError.{StartError}
use Rattle.session.specs.StartAnswers.{StartTold}
use Rattle.session.specs.CallAnswers.{Left}
use Rattle.octets.specs.Alike.{are_same}
use Rattle.flash.specs.Regions.{is_main_size}
use Rattle.session.specs.Records.{is_record}
use Rattle.session.specs.Starting.{session_of, no_session, start_read, settings_read, start_of, start_told}
use Rattle.session.specs.Calling.{board_of, carries_reset, judgement, intent, deed, serve_of, call_of}
use Rattle.session.proofs.CallLaws.{every_call}
use Rattle.octets.proofs.AlikeLaws.{same_are_equal}
use Rattle.session.proofs.RecordLaws.{record_by_clauses, clauses_make_record}
use Rattle.claims.specs.TwoBoards.{Carries}
use Rattle.settings.proofs.PassingLaws as Checks
use Rattle.settings_large.proofs.PassingLaws as Larger
use Rattle.settings.proofs.AgainLaws.{read_is_allowed}

module _ (part : Part) where
  -- the comparison finds the password only in a packet that carries it
  pub not_found : (packet password : List ℕ) → (Carries part packet password → ⊥) → acknowledgement part.last_rate packet ≡ acknowledged → command_of packet ≡ Unlock
      → are_same password (password_in packet) ≡ false
  not_found packet password stranger fine asked =
      by_test (are_same password (password_in packet))
      (λ y. absurd
      (stranger
      (record {
        acknowledged = fine;
        core = unlock_is_password part.last_rate packet fine asked ∙ ap (λ (bytes : List ℕ). unlock ∷ bytes) (sym (same_are_equal _ _ y));
      })))
      (λ n. n)

  module _ (session : Session) (before : Memory) (wait : ℕ) (packet area : List ℕ) where
    abbrev after : Left
    after = call_of part session before wait packet area

    -- a valid record, beside the images that are lent
    abbrev IsValidRecord : Type 0
    IsValidRecord = is_record part session (length before.main) (length before.settings) ≡ true

    -- a window of the part's size
    abbrev IsWindowSize : Type 0
    IsWindowSize = length before.window ≡ part.window_size

    -- both images and the window keep their lengths: no sequence of calls leads to a refusal 11
    pub call_keeps_lengths : SameLengths before after.memory
    unfolding serve_of
    call_keeps_lengths =
        every_call part session before wait packet area (λ left. SameLengths before left.memory)
        (λ number. record { main = refl; settings = refl; window = refl })
        (act_keeps_lengths (board_of part session) before _ packet (judgement part.last_rate session wait packet).effect)

    -- a valid record is served, where the window has its size and there is room for a reply
    pub valid_is_served : IsValidRecord → IsWindowSize → reply_limit ≤ length area → after ≡ serve_of part session before wait packet area
    unfolding call_of
    valid_is_served valid window room =
        pick_false _ _ (le-ltb (length area) reply_limit room) ∙ pick_false _ _ (ap not (eq-eqb _ _ window)) ∙ pick_false _ _ (ap not valid)

    -- the record that a call gives back is valid again: no sequence of calls leads to a refusal 10
    pub valid_stays_valid : IsValidRecord → is_record part after.session (length after.memory.main) (length after.memory.settings) ≡ true
    unfolding serve_of
    valid_stays_valid valid =
        every_call part session before wait packet area (λ left. is_record part left.session (length left.memory.main) (length left.memory.settings) ≡ true)
        (λ number. valid)
        (let v = record_by_clauses part session _ _ valid in
        let kept = act_keeps_lengths (board_of part session) before _ packet (judgement part.last_rate session wait packet).effect in
        clauses_make_record part _ _ _
        (record {
          standing = judge_keeps_valid part.last_rate session.standing _ wait packet _ v.standing;
          values = v.values;
          main_size = v.main_size;
          settings = kept.settings ∙ v.settings;
          main = kept.main ∙ v.main;
        }))

    -- 01, Commands: "count up by one to at most 3"
    pub wrong_count_is_at_most_3 : IsValidRecord → after.session.standing.wrong ≤ most_wrong
    wrong_count_is_at_most_3 valid =
        (valid_by_parts part.last_rate _ (record_by_clauses part _ _ _ (valid_stays_valid valid)).standing).wrong

    -- the wrong count falls only by a packet that carries the session's password
    pub wrong_count_falls_by_password : IsValidRecord → (Carries part packet session.settings.password → ⊥)
        → session.standing.wrong ≤ after.session.standing.wrong
    unfolding serve_of
    wrong_count_falls_by_password valid stranger =
        let alert = session.settings.shown.alert in
        every_call part session before wait packet area (λ left. session.standing.wrong ≤ left.session.standing.wrong) (λ number. omega arith)
        (subst (λ (judged : Judged). session.standing.wrong ≤ judged.standing.wrong)
        (sym (only_unlock_is_compared part.last_rate alert _ packet (not_found packet session.settings.password stranger) session.standing wait))
        (wrong_count_rises part.last_rate session.standing alert wait packet false (record_by_clauses part session _ _ valid).standing refl))

    -- 01, Phases and waits: "With waits of 2,000 or more, no packet of the command phase is ever dropped."
    pub long_wait_drops_nothing : (unlocked : Bool) (sleep : ℕ) → IsValidRecord → session.standing.phase ≡ phase.Command unlocked sleep → 2000 ≤ wait
        → (pass_time session.standing wait).heard ≡ true
    long_wait_drops_nothing unlocked sleep valid phase long =
        long_wait_is_heard part.last_rate session.standing wait unlocked sleep (record_by_clauses part session _ _ valid).standing phase long

    -- ---- what is decided of the packet is planned, and then done

    abbrev effect : Effect
    effect = (judgement part.last_rate session wait packet).effect

    abbrev plans : Planned
    plans = intent part session packet before effect

    -- no reply depends on memory after the order: written before it or after it, what is sent is the same
    pub answer_needs_no_order : answer_of plans.reply plans.region plans.offset plans.count packet (deed part session packet before effect).memory area
        ≡ answer_of plans.reply plans.region plans.offset plans.count packet before area
    unfolding answer_of
    answer_needs_no_order =
        ap (λ (beside : List ℕ). sent_of (reply_bytes (hushed packet plans.reply) beside) area)
        (bytes_need_no_order part session.settings.shown session.settings.protection packet before session.main_size (carries_reset session packet) effect)

    -- a locked session orders nothing to be done to memory, or what the alert's reset does
    pub locked_session_orders : is_unlocked session.standing.phase ≡ false → plans.order ≡ pick (is_strike effect) EraseBoth Keep
    locked_session_orders shut =
        locked_orders part session.main_size session.settings.shown session.settings.protection (carries_reset session packet) before effect
        (locked_performs_nothing part.last_rate session.standing session.settings.shown.alert wait packet _ shut)

  -- ---- start

  blank_is_allowed : is_allowed blank_settings.shown ≡ true
  unfolding is_allowed pick
  blank_is_allowed = refl

  -- what an accepted image promises, whichever part it is of
  module _ (image : List ℕ) where
    found_is_allowed : (found : Checked) → Checks.Good Both image found → (read_as image found).number ≡ 0
        → is_allowed (read_as image found).contents.settings.shown ≡ true
    unfolding Checks.Good
    found_is_allowed (Ok None) blank e = blank_is_allowed
    found_is_allowed (Ok (Some form)) good e = read_is_allowed form image good.0.size good.0.value
    found_is_allowed (Err refusal) good e = absurd (eqb-false _ _ (refuses refusal) e)

    larger_is_allowed : (found : Checked) → Larger.Good image found → (larger.read_as image found).number ≡ 0
        → is_allowed (larger.read_as image found).contents.settings.shown ≡ true
    unfolding Larger.Good kept_in larger.value_not_allowed
    larger_is_allowed (Ok None) blank e = blank_is_allowed
    larger_is_allowed (Ok (Some form)) passed e = (pick_both _ _ (not-false _ passed.value)).0
    larger_is_allowed (Err refusal) good e = absurd (eqb-false _ _ (refuses refusal) e)

    pub accepted_is_allowed : (settings_read image).number ≡ 0 → is_allowed (settings_read image).settings.shown ≡ true
    unfolding settings_read read_of larger.read_of
    accepted_is_allowed =
        by_pick (λ (told : SettingsTold). told.number ≡ 0 → is_allowed told.settings.shown ≡ true) (eqb (length image) large_size) _ _
        (λ y. larger_is_allowed (larger.checked_of image) (Larger.checked_is_good image))
        (λ n. found_is_allowed (checked_of Both image) (Checks.checked_is_good image Both))

  -- an image that the MSPM0's reader accepts has its size, and a start takes of it what that reader says
  module _ (image : List ℕ) where
    found_has_size : (found : Checked) → Checks.Good Both image found → (read_as image found).number ≡ 0 → length image ≡ image_size
    unfolding Checks.Good
    found_has_size (Ok None) blank e = eqb-true _ _ (pick_both _ _ blank).0
    found_has_size (Ok (Some form)) good e = good.0.size
    found_has_size (Err refusal) good e = absurd (eqb-false _ _ (refuses refusal) e)

    pub accepted_has_size : (read_of image).number ≡ 0 → length image ≡ image_size
    unfolding read_of
    accepted_has_size = found_has_size (checked_of Both image) (Checks.checked_is_good image Both)

    pub small_is_taken : length image ≡ image_size → settings_read image ≡ settings_only (read_of image)
    unfolding settings_read
    small_is_taken size = pick_false _ _ (ne_eqb (length image) large_size (λ e. omega arith))

  -- what stands beside a refused start in the definitions is refused by every call
  pub no_session_is_refused : (main settings : ℕ) → is_record part no_session main settings ≡ false
  unfolding is_record is_allowed pick
  no_session_is_refused main settings =
      by_pick (λ test. test ≡ false) (is_valid part.last_rate no_session.standing) _ _ (λ y. refl) (λ n. refl)

  -- what start tells where it is not refused
  abbrev pub starts_as : Session → StartTold
  starts_as session = record { answer = numbered 0 0; session = session }

  module _ (fuse : Bool) (main settings window : List ℕ) where
    -- what holds of the session of the settings that are read holds wherever a session is started
    pub every_start : (P : StartTold → Type 0)
        → (is_main_size part (length main) ≡ true → length settings ≡ part.settings_size → length window ≡ part.window_size → (settings_read settings).number ≡ 0
        → P (starts_as (session_of (length main) (settings_read settings).settings)))
        → (start_of part fuse main settings window).answer.number ≡ 0 → P (start_of part fuse main settings window)
    unfolding start_of start_read
    every_start P holds =
        by_pick Promised fuse _ _ (λ y e. absurd (omega arith))
        (λ n. by_pick Promised (not (is_main_size part (length main))) _ _ (λ y e. absurd (omega arith))
        (λ sized. by_pick Promised (not (eqb (length settings) part.settings_size)) _ _ (λ y e. absurd (omega arith))
        (λ whole. by_pick Promised (not (eqb (length window) part.window_size)) _ _ (λ y e. absurd (omega arith))
        (λ lent. by_pick Promised (eqb (settings_read settings).number 0) _ _
        (λ y e. holds (not-false _ sized) (eqb-true _ _ (not-false _ whole)) (eqb-true _ _ (not-false _ lent)) (eqb-true _ _ y))
        (λ n e. absurd (true≢false (sym (eq-eqb _ _ e) ∙ n)))))))
      where
        Promised : StartTold → Type 0
        Promised told = told.answer.number ≡ 0 → P told

    -- a session that was started is valid beside the images it was started with
    pub started_is_valid : (start_of part fuse main settings window).answer.number ≡ 0
        → is_record part (start_of part fuse main settings window).session (length main) (length settings) ≡ true
    started_is_valid =
        every_start (λ told. is_record part told.session (length main) (length settings) ≡ true)
        (λ size whole lent read.
        clauses_make_record part _ _ _
        (record { standing = start_is_valid part.last_rate; values = accepted_is_allowed settings read; main_size = size; settings = whole; main = refl }))

    -- 01, Phases and waits: "Settings are taken at start"
    pub started_session : (start_of part fuse main settings window).answer.number ≡ 0
        → (start_of part fuse main settings window).session ≡ session_of (length main) (settings_read settings).settings
    started_session = every_start (λ told. told.session ≡ session_of (length main) (settings_read settings).settings) (λ size whole lent read. refl)

    -- and its window has the part's size
    pub started_has_window : (start_of part fuse main settings window).answer.number ≡ 0 → length window ≡ part.window_size
    started_has_window = every_start (λ told. length window ≡ part.window_size) (λ size whole lent read. lent)

    pub started_has_settings : (start_of part fuse main settings window).answer.number ≡ 0 → length settings ≡ part.settings_size
    started_has_settings = every_start (λ told. length settings ≡ part.settings_size) (λ size whole lent read. whole)

-- ---- the MSPM0

pub mspm0_valid_stays_valid : (session : Session) (before : Memory) (wait : ℕ) (packet area : List ℕ)
    → is_record mspm0 session (length before.main) (length before.settings) ≡ true
    → is_record mspm0 (call_of mspm0 session before wait packet area).session
    (length (call_of mspm0 session before wait packet area).memory.main) (length (call_of mspm0 session before wait packet area).memory.settings) ≡ true
mspm0_valid_stays_valid = valid_stays_valid mspm0

pub mspm0_wrong_count_is_at_most_3 : (session : Session) (before : Memory) (wait : ℕ) (packet area : List ℕ)
    → is_record mspm0 session (length before.main) (length before.settings) ≡ true
    → (call_of mspm0 session before wait packet area).session.standing.wrong ≤ most_wrong
mspm0_wrong_count_is_at_most_3 = wrong_count_is_at_most_3 mspm0

pub mspm0_started_is_valid : (fuse : Bool) (main settings window : List ℕ) → (start_of mspm0 fuse main settings window).answer.number ≡ 0
    → is_record mspm0 (start_of mspm0 fuse main settings window).session (length main) (length settings) ≡ true
mspm0_started_is_valid = started_is_valid mspm0

-- ---- the AM13E230x

pub am13e230x_valid_stays_valid : (session : Session) (before : Memory) (wait : ℕ) (packet area : List ℕ)
    → is_record am13e230x session (length before.main) (length before.settings) ≡ true
    → is_record am13e230x (call_of am13e230x session before wait packet area).session
    (length (call_of am13e230x session before wait packet area).memory.main) (length (call_of am13e230x session before wait packet area).memory.settings) ≡ true
am13e230x_valid_stays_valid = valid_stays_valid am13e230x

pub am13e230x_wrong_count_is_at_most_3 : (session : Session) (before : Memory) (wait : ℕ) (packet area : List ℕ)
    → is_record am13e230x session (length before.main) (length before.settings) ≡ true
    → (call_of am13e230x session before wait packet area).session.standing.wrong ≤ most_wrong
am13e230x_wrong_count_is_at_most_3 = wrong_count_is_at_most_3 am13e230x

pub am13e230x_started_is_valid : (fuse : Bool) (main settings window : List ℕ) → (start_of am13e230x fuse main settings window).answer.number ≡ 0
    → is_record am13e230x (start_of am13e230x fuse main settings window).session (length main) (length settings) ≡ true
am13e230x_started_is_valid = started_is_valid am13e230x

-- ---- a start that is refused, on either part

-- no session goes to its caller
pub refused_start_gives_none : (started : Result Session StartError) → ((start_told started).answer.number ≡ 0 → ⊥) → IsErr started
refused_start_gives_none (Ok session) refused = absurd (refused refl)
refused_start_gives_none (Err error) refused = refl
