-- Demand 3 as C sees it. A record area says all of its session, so what holds of two boards by their sessions holds of them by their areas.
use mathlib.Core.Path.{◌≡◌, refl, sym, ap, ap₂, subst, ◌∙◌}
use mathlib.Core.Bool.{Bool, true, false, true≢false, not}
use mathlib.Core.List.{List, [], ◌∷◌, ◌++◌}
use Prim.Native.Nat.{ℕ, ◌%◌, ◌≤◌, ◌<◌}
use native.Mathlib.Omega.{arith}
use borrow.Author.Tests.{le-ltb, eq-eqb}
use lib.ListN.{length, take}
use Rattle.octets.specs.Choice.{pick}
use Rattle.octets.specs.Number.{bytes_of}
use Rattle.octets.proofs.Searching.{pick_true, pick_false}
use Rattle.parts.specs.declared.Part.{Part}
use Rattle.parts.specs.Parts.{mspm0, am13e230x, Sound}
use Rattle.parts.proofs.PartLaws.{mspm0_is_sound, am13e230x_is_sound}
use Rattle.line.specs.Codes.{reply_limit}
use Rattle.session_state.specs.declared.Phase.{Phase}
use Rattle.session_state.specs.declared.Phase.TheVariants.{Detect, Command, Standby, Ended, Disabled}
use Rattle.session_state.specs.declared.Standing.{Standing}
use Rattle.session_state.specs.Phases.{is_unlocked}
use Rattle.settings.specs.Answers.{numbered}
use Rattle.session.specs.declared.Session.{Session}
use Rattle.session.specs.CallAnswers.{CallTold, Left}
use Rattle.session.specs.Starting.{settings_read, start_of}
use Rattle.session.specs.Calling.{serve_of, call_of}
use Rattle.session.proofs.CallLaws.{every_call, call_size_fits}
use Rattle.session.proofs.RecordLaws.{record_by_clauses}
use Rattle.c_records.specs.OneNumber.{refusal_unit, burn_unit, one_number}
use Rattle.c_records.specs.Stored.{Stored, stored, stored_by}
use Rattle.c_records.specs.Records.{record_size, lock_code, standing_bytes, record_of}
use Rattle.c_records.specs.Boundary.{Called, stored_after, called_from, called_after, call_from_c}
use Rattle.claims.specs.Held.{HeldKept}
use Rattle.claims.specs.TwoBoards.{Images, Running, started, AlikeBoards, Sending, called, next, replied, Flash, Alike, AlikeThroughout}
use Rattle.claims.specs.TwoBoardsFromC.{RunningFromC, started_on, started_from_c, Lent, called_from_c, replied_from_c, stands_from_c, lock_in, wrong_in, AlikeFromC, AlikeCallsFromC, AlikeSessionsFromC}
use Rattle.claims.proofs.Sessions.CallRules.{every_start, call_keeps_lengths, valid_is_served, valid_stays_valid, started_is_valid, started_session, started_has_window, started_has_settings}
use Rattle.claims.proofs.Sessions.RecordRule.{record_is, decode_after_encode, encoded_is_record}
use Rattle.claims.proofs.Secrecy.LockedBoard.{HasRecord, HasWindow}
use Rattle.claims.proofs.Settings.HeldSettings.{taken_is_held}
use Rattle.claims.proofs.Sessions.HeldSessions.{valid_is_held}
use Rattle.claims.proofs.Secrecy.ToldApart.{two_boards_are_alike}

-- ---- a board, as C has it

abbrev pub from_c : Part → Running → RunningFromC
from_c part board = record { area = record_of part board.session; memory = board.memory }

-- what a call leaves, as C has it
abbrev pub left_from_c : Part → Left → Called
left_from_c part left =
    record {
      answer = one_number 0 left.answer.burn left.answer.size;
      area = record_of part left.session;
      memory = left.memory;
      reply = left.area;
    }

-- ---- what a record area and a number say

pub stands_are : (part : Part) (session : Session) → stands_from_c (record_of part session) ≡ standing_bytes session.standing ++ bytes_of 4 session.main_size
unfolding bytes_of
stands_are part session = ap stands_from_c (record_is part session)

pub locked_says_0 : (phase : Phase) → is_unlocked phase ≡ false → lock_code phase ≡ 0
unfolding pick
locked_says_0 Detect h = refl
locked_says_0 (Command true sleep) h = absurd (true≢false h)
locked_says_0 (Command false sleep) h = refl
locked_says_0 Standby h = refl
locked_says_0 Ended h = refl
locked_says_0 Disabled h = refl

pub lock_is_0 : (part : Part) (session : Session) → is_unlocked session.standing.phase ≡ false → lock_in (record_of part session) ≡ 0
lock_is_0 part session shut = ap lock_in (record_is part session) ∙ locked_says_0 session.standing.phase shut

pub wrong_is : (part : Part) (session : Session) → wrong_in (record_of part session) ≡ session.standing.wrong
wrong_is part session = ap wrong_in (record_is part session)

-- the top byte of a call's number is 0, and its low half is the size
number_says : (burn : Bool) (size : ℕ) → size ≤ 1729 → (one_number 0 burn size < refusal_unit) × (one_number 0 burn size % burn_unit ≡ size)
unfolding pick
number_says true size h = (omega arith, omega arith)
number_says false size h = (omega arith, omega arith)

stands_alike : (part : Part) (one other : Session) → one.standing ≡ other.standing → one.main_size ≡ other.main_size
    → stands_from_c (record_of part one) ≡ stands_from_c (record_of part other)
stands_alike part one other standing size =
    stands_are part one ∙ ap₂ (λ (stands : Standing) (main : ℕ). standing_bytes stands ++ bytes_of 4 main) standing size ∙ sym (stands_are part other)

pub replied_is : (part : Part) (left : Left) → left.answer.size ≤ 1729 → replied_from_c (left_from_c part left) ≡ replied left
replied_is part left fits = ap (λ (size : ℕ). take size left.area) (number_says left.answer.burn left.answer.size fits).1

-- ---- a board of a sound part, and a call of it

module _ (part : Part) (sound : Sound part) where
  -- a board whose record is valid, and whose settings can be held
  pub record Fine (board : Running) : Type 0 where
    pub valid : HasRecord part board
    pub window : HasWindow part board
    pub held : HeldKept part board.session.settings

  module _ (board : Running) (fine : Fine board) (sending : Sending) (reply : List ℕ) where
    abbrev after : Left
    after = called part board sending reply

    pub fine_then : Fine (next after)
    unfolding serve_of
    fine_then = record {
      valid = valid_stays_valid part board.session board.memory sending.wait sending.packet reply fine.valid;
      window = (call_keeps_lengths part board.session board.memory sending.wait sending.packet reply).window ∙ fine.window;
      held =
          every_call part board.session board.memory sending.wait sending.packet reply (λ left. HeldKept part left.session.settings)
          (λ number. fine.held) fine.held;
    }

    module _ (room : reply_limit ≤ length reply) where
      served : after.answer.number ≡ 0
      unfolding serve_of
      served =
          ap (λ (left : Left). left.answer.number)
          (valid_is_served part board.session board.memory sending.wait sending.packet reply fine.valid fine.window room)

      -- a call from C does what the call on the session does
      pub call_from_c_lem : called_from_c part (from_c part board) sending reply ≡ left_from_c part after
      unfolding call_from_c stored_after
      call_from_c_lem =
          let held = valid_is_held part sound board.session _ _ fine.valid fine.held in
          pick_false _ _ (le-ltb (length reply) reply_limit room)
          ∙ pick_false _ _ (ap not (eq-eqb _ _ fine.window))
          ∙ pick_false _ _ (ap not (encoded_is_record part board.session held))
          ∙ ap (λ (session : Session). called_after part (record_of part board.session) (call_of part session board.memory sending.wait sending.packet reply))
          (decode_after_encode part board.session held)
          ∙ ap (λ (told : Stored). called_from told after) (pick_true _ _ (eq-eqb _ _ served))

  -- ---- one call

  -- the size of MAIN in a valid record is that at the start
  main_size_is : (images : Images) (left : Left) → Fine (next left) → Flash part images left.session.standing.wrong left.memory → left.session.main_size ≡ length images.main
  main_size_is images left fine flash = sym (record_by_clauses part _ _ _ fine.valid).main ∙ flash.main_size

  module _ (one other : Images) (size : length one.main ≡ length other.main) (one_left other_left : Left) where
    -- what is alike by the sessions is alike by the areas
    alike_from_c : Alike part one other one_left other_left → Fine (next one_left) → Fine (next other_left)
        → one_left.answer.size ≤ 1729 → other_left.answer.size ≤ 1729
        → AlikeFromC part one other (left_from_c part one_left) (left_from_c part other_left)
    alike_from_c alike one_fine other_fine one_fits other_fits =
        let sizes = main_size_is one one_left one_fine alike.one_flash ∙ size ∙ sym (main_size_is other other_left other_fine alike.other_flash) in
        record {
          served = (number_says one_left.answer.burn one_left.answer.size one_fits).0;
          answers = ap (λ (told : CallTold). one_number 0 told.burn told.size) alike.answers;
          replies = replied_is part one_left one_fits ∙ alike.replies ∙ sym (replied_is part other_left other_fits);
          stands = stands_alike part one_left.session other_left.session alike.standing sizes;
          locked = lock_is_0 part one_left.session alike.locked;
          one_flash = subst (λ (wrong : ℕ). Flash part one wrong one_left.memory) (sym (wrong_is part one_left.session)) alike.one_flash;
          other_flash = subst (λ (wrong : ℕ). Flash part other wrong other_left.memory) (sym (wrong_is part other_left.session)) alike.other_flash;
        }

  -- ---- any list of calls

  module _ (one other : Images) (size : length one.main ≡ length other.main) where
    calls_alike : (sendings : List Sending) (one_now other_now : Running) → Fine one_now → Fine other_now
        → AlikeThroughout part one other one_now other_now sendings → AlikeCallsFromC part one other (from_c part one_now) (from_c part other_now) sendings
    calls_alike [] one_now other_now one_fine other_fine through = tt
    calls_alike (sending ∷ sendings) one_now other_now one_fine other_fine through = λ without.
        let here = through without in
        let one_then = fine_then one_now one_fine sending sending.one_area in
        let other_then = fine_then other_now other_fine sending sending.other_area in
        let one_is = call_from_c_lem one_now one_fine sending sending.one_area without.one_room in
        let other_is = call_from_c_lem other_now other_fine sending sending.other_area without.other_room in
        rw (one_is, other_is) (
          alike_from_c one other size _ _ here.0 one_then other_then
              (call_size_fits part one_now.session one_now.memory sending.wait sending.packet sending.one_area)
              (call_size_fits part other_now.session other_now.memory sending.wait sending.packet sending.other_area),
          calls_alike sendings _ _ one_then other_then here.1,
        )

  -- ---- start

  -- a start that answers 0 names no entry, and its settings were accepted
  start_accepts : (main settings window : List ℕ) → (start_of part false main settings window).answer.number ≡ 0
      → ((start_of part false main settings window).answer ≡ numbered 0 0) × ((settings_read settings).number ≡ 0)
  start_accepts main settings window =
      every_start part false main settings window (λ told. (told.answer ≡ numbered 0 0) × ((settings_read settings).number ≡ 0)) (λ size whole lent read. (refl, read))

  module _ (images : Images) (area : List ℕ) (lent : Lent part images area) (starts : (start_of part false images.main images.settings images.window).answer.number ≡ 0) where
    start_from_c_lem : started_on part images area ≡ stored 0 (record_of part (started part images).session)
    unfolding stored_by pick
    start_from_c_lem =
        rw ((start_accepts images.main images.settings images.window starts).0, eq-eqb (length area) (record_size part) lent.size)

    pub started_from_c_lem : started_from_c part images area ≡ from_c part (started part images)
    started_from_c_lem = ap (λ (left : Stored). record { area = left.area; memory = images }) start_from_c_lem

    started_is_fine : Fine (started part images)
    started_is_fine = record {
      valid = started_is_valid part false images.main images.settings images.window starts;
      window = started_has_window part false images.main images.settings images.window starts;
      held =
          rw (started_session part false images.main images.settings images.window starts)
          (taken_is_held part images.settings lent.bytes (started_has_settings part false images.main images.settings images.window starts)
          (start_accepts images.main images.settings images.window starts).1);
    }

  -- over any one session from C of two boards of one sound part, at every point of it
  pub two_boards_are_alike_from_c : (one other : Images) (one_area other_area : List ℕ) → AlikeBoards part one other → Lent part one one_area → Lent part other other_area
      → (sendings : List Sending) → AlikeSessionsFromC part one other one_area other_area sendings
  two_boards_are_alike_from_c one other one_area other_area alike one_lent other_lent sendings =
      let one_is = start_from_c_lem one one_area one_lent alike.one_starts in
      let other_is = start_from_c_lem other other_area other_lent alike.other_starts in
      record {
        one_starts = ap (λ (left : Stored). left.answer) one_is;
        other_starts = ap (λ (left : Stored). left.answer) other_is;
        stands =
            rw (one_is, other_is, started_session part false one.main one.settings one.window alike.one_starts, started_session part false other.main other.settings other.window alike.other_starts)
            (stands_alike part _ _ refl alike.size);
        calls =
            rw (started_from_c_lem one one_area one_lent alike.one_starts, started_from_c_lem other other_area other_lent alike.other_starts)
            (calls_alike one other alike.size sendings (started part one) (started part other)
            (started_is_fine one one_area one_lent alike.one_starts) (started_is_fine other other_area other_lent alike.other_starts)
            (two_boards_are_alike part sound one other alike sendings));
      }

-- two boards of the MSPM0
pub mspm0_boards_are_alike_from_c : (one other : Images) (one_area other_area : List ℕ) → AlikeBoards mspm0 one other → Lent mspm0 one one_area → Lent mspm0 other other_area
    → (sendings : List Sending) → AlikeSessionsFromC mspm0 one other one_area other_area sendings
mspm0_boards_are_alike_from_c = two_boards_are_alike_from_c mspm0 mspm0_is_sound

-- T-10: two boards of the AM13E230x
pub am13e230x_boards_are_alike_from_c : (one other : Images) (one_area other_area : List ℕ) → AlikeBoards am13e230x one other
    → Lent am13e230x one one_area → Lent am13e230x other other_area
    → (sendings : List Sending) → AlikeSessionsFromC am13e230x one other one_area other_area sendings
am13e230x_boards_are_alike_from_c = two_boards_are_alike_from_c am13e230x am13e230x_is_sound
