-- T-12 as C sees it. A record area says all of its session, so all that is seen from C follows from what is seen by value.
use mathlib.Core.Path.{◌≡◌, refl, sym, ap, ap₂, subst, ◌∙◌}
use mathlib.Core.Bool.{Bool, true, false, not}
use mathlib.Core.List.{List, [], ◌∷◌, ◌++◌, map}
use Prim.Native.Nat.{ℕ, ◌≤◌}
use native.Mathlib.Omega.{arith}
use borrow.Author.Tests.{eq-eqb, ne_eqb, eqb-true, eqb-false}
use lib.Dec.{eqb}
use lib.ListN.{length}
use Rattle.octets.specs.Choice.{pick}
use Rattle.octets.specs.Number.{bytes_of}
use Rattle.octets.proofs.Searching.{pick_true, pick_false, by_test, by_pick}
use Rattle.parts.specs.declared.Part.{Part}
use Rattle.parts.specs.Parts.{mspm0, am13e230x, Sound}
use Rattle.parts.proofs.PartLaws.{mspm0_is_sound, am13e230x_is_sound}
use Rattle.line.specs.Codes.{reply_limit}
use Rattle.settings.specs.Answers.{Numbered, numbered}
use Rattle.flash.specs.Memory.{Memory}
use Rattle.session_act.proofs.ActingLaws.{orders_keep_lengths}
use Rattle.session.specs.declared.Session.{Session}
use Rattle.session.specs.StartAnswers.{StartTold}
use Rattle.session.specs.CallAnswers.{Left}
use Rattle.session.proofs.CallLaws.{call_size_fits, call_keeps_settings}
use Rattle.session.proofs.RecordLaws.{record_by_clauses}
use Rattle.c_records.specs.OneNumber.{one_number, refusal_of}
use Rattle.c_records.specs.Stored.{Stored, stored, stored_by}
use Rattle.c_records.specs.Records.{record_size, standing_bytes, record_of, session_in}
use Rattle.claims.specs.Held.{HeldKept}
use Rattle.claims.specs.TwoBoards.{Images, Running, Sending, called, next}
use Rattle.claims.specs.TwoBoardsFromC.{RunningFromC, called_from_c}
use Rattle.claims.specs.Visits.{Step, Seen, step_of, SeenFromC, step_from_c}
use Rattle.claims.proofs.Sessions.CallRules.{every_start, started_has_window, started_is_valid}
use Rattle.claims.proofs.Sessions.HeldSessions.{valid_is_held}
use Rattle.claims.proofs.Sessions.RecordRule.{decode_after_encode}
use Rattle.claims.proofs.Settings.HeldSettings.{taken_is_held}
use Rattle.claims.proofs.Secrecy.ToldApartFromC.{from_c, stands_are, locked_says_0, replied_is, Fine, fine_then, call_from_c_lem}
use Rattle.claims_restarts.specs.Moves.{Starting, Move, start, send, cut, Now, off, on, Sight, nothing, of_start, of_call, moved, sight, now_after, seen_after, Throughout}
use Rattle.claims_restarts.specs.Cuts.{is_erase_both, cut_within}
use Rattle.claims_restarts.specs.Boards.{fresh, begun, started_by, ordered, cut_off, port_by, port_one, port_other}
use Rattle.claims_restarts.specs.Returning.{Roomy, IsLocked, StaysLocked, AlikeAndLocked}
use Rattle.claims_restarts.specs.FromC.{begun_from_c, started_from, port_by_from_c, port_one_from_c, port_other_from_c, HasRecords, FromC, ReturningFromC, AdvisedFromC, UntilStruckFromC, AlikeFromC, PersonFromC, AlikeToFromC, history_of_from_c, IsLockedFromC, StaysLockedFromC, AlikeAndLockedFromC}
use Rattle.claims_restarts.proofs.BytesStay.{Each, orders_keep_bytes, call_keeps_bytes}
use Rattle.claims_restarts.proofs.CutLaws.{cut_keeps_length}
use Rattle.claims_restarts.proofs.Restarts.{any_person, returning_before, boards_stay_alike, advised_boards_stay_alike, any_boards_are_alike_until_struck}

-- ---- what C has, by what there is by value; the size is that of MAIN

abbrev now_from_c : Part → Now Running → Now RunningFromC
now_from_c part (off images) = off images
now_from_c part (on board) = on (from_c part board)

abbrev seen_from_c : ℕ → Seen → SeenFromC
seen_from_c size seen =
    record { reply = seen.reply; answer = one_number 0 seen.answer.burn seen.answer.size; stands = standing_bytes seen.standing ++ bytes_of 4 size }

abbrev sight_from_c : ℕ → Sight Numbered Seen → Sight ℕ SeenFromC
sight_from_c size nothing = nothing
sight_from_c size (of_start told) = of_start (refusal_of told)
sight_from_c size (of_call seen) = of_call (seen_from_c size seen)

-- ---- a start

-- a number that is not 0 is not 0 in the top byte
refused_is_not_0 : (told : Numbered) → eqb told.number 0 ≡ false → eqb (refusal_of told) 0 ≡ false
refused_is_not_0 told n = ne_eqb (refusal_of told) 0 (λ e. absurd (eqb-false told.number 0 n (omega arith)))

module _ (part : Part) (told : StartTold) (images : Memory) (area : List ℕ) (size : length area ≡ record_size part)
    (accepted : told.answer.number ≡ 0 → told.answer ≡ numbered 0 0)
  where
    abbrev left : Stored
    left = stored_by told.answer (record_size part) (record_of part told.session) area

    accepted_is : eqb told.answer.number 0 ≡ true → (left.answer ≡ refusal_of told.answer) × (started_from left images ≡ now_from_c part (started_by told images))
    unfolding stored_by started_from started_by pick
    accepted_is y = rw (accepted (eqb-true _ _ y), eq-eqb (length area) (record_size part) size) (refl, refl)

    refused_is : eqb told.answer.number 0 ≡ false → (left.answer ≡ refusal_of told.answer) × (started_from left images ≡ now_from_c part (started_by told images))
    unfolding stored_by started_from started_by
    refused_is n =
        let not_0 = refused_is_not_0 told.answer n in
        let kept : left ≡ stored (refusal_of told.answer) area = pick_true _ _ (ap not not_0) in (
          ap (λ (left : Stored). left.answer) kept,
          ap (λ (left : Stored). started_from left images) kept ∙ pick_false _ _ not_0 ∙ ap (now_from_c part) (sym (pick_false _ _ n)),
        )

    stored_is : (left.answer ≡ refusal_of told.answer) × (started_from left images ≡ now_from_c part (started_by told images))
    stored_is = by_test (eqb told.answer.number 0) accepted_is refused_is

-- ---- one board of a sound part, lent its areas

module _ (part : Part) (sound : Sound part) (size : ℕ) where
  -- between two sessions the settings are bytes; in one, the record is valid, and its settings can be held
  record SaneOff (images : Memory) : Type 0 where
    main : length images.main ≡ size
    bytes : Each images.settings

  record SaneOn (board : Running) : Type 0 where
    fine : Fine part sound board
    main : board.session.main_size ≡ size
    bytes : Each board.memory.settings

  abbrev Sane : Now Running → Type 0
  Sane (off images) = SaneOff images
  Sane (on board) = SaneOn board

  sane_memory : (board : Running) → SaneOn board → SaneOff board.memory
  sane_memory board sane = record { main = (record_by_clauses part _ _ _ sane.fine.valid).main ∙ sane.main; bytes = sane.bytes }

  -- ---- a start

  module _ (starting : Starting) (images : Memory) (sane : SaneOff images) where
    abbrev fuse : Bool
    fuse = not (eqb starting.fuse 0)

    abbrev tells : StartTold
    tells = begun part starting images

    start_from_c_lem : (area : List ℕ) → length area ≡ record_size part
        → ((begun_from_c part area starting images).answer ≡ refusal_of tells.answer)
        × (started_from (begun_from_c part area starting images) images ≡ now_from_c part (started_by tells images))
    start_from_c_lem area fits =
        stored_is part tells images area fits (every_start part fuse images.main images.settings images.window (λ told. told.answer ≡ numbered 0 0) (λ good whole lent read. refl))

    start_is_sane : Sane (started_by tells images)
    unfolding started_by
    start_is_sane =
        by_pick Sane (eqb tells.answer.number 0) _ _
        (λ y.
        let starts = eqb-true _ _ y in
        record {
          fine = record {
            valid = started_is_valid part fuse images.main images.settings images.window starts;
            window = started_has_window part fuse images.main images.settings images.window starts;
            held =
                every_start part fuse images.main images.settings images.window (λ told. HeldKept part told.session.settings)
                (λ good whole lent read. taken_is_held part images.settings sane.bytes whole read) starts;
          };
          main = every_start part fuse images.main images.settings images.window (λ told. told.session.main_size ≡ size) (λ good whole lent read. sane.main) starts;
          bytes = sane.bytes;
        })
        (λ n. sane)

  -- ---- a call

  module _ (board : Running) (sane : SaneOn board) (sending : Sending) (reply : List ℕ) where
    abbrev after : Left
    after = called part board sending reply

    call_is_sane : SaneOn (next after)
    call_is_sane = record {
      fine = fine_then part sound board sane.fine sending reply;
      main =
          ap (λ (session : Session). session.main_size) (call_keeps_settings part board.session board.memory sending.wait sending.packet reply)
          ∙ sane.main;
      bytes = call_keeps_bytes part board.session board.memory sending.wait sending.packet reply sane.bytes;
    }

    step_from_c_lem : reply_limit ≤ length reply
        → step_from_c (called_from_c part (from_c part board) sending reply)
        ≡ record { board = from_c part (next after); seen = seen_from_c size (step_of after).seen }
    step_from_c_lem room =
        ap step_from_c (call_from_c_lem part sound board sane.fine sending reply room)
        ∙ rw (replied_is part after (call_size_fits part board.session board.memory sending.wait sending.packet reply), stands_are part after.session, call_is_sane.main) refl

    cut_from_c : (erased : ℕ → Bool) → cut_off part (record { session = session_in (record_of part board.session); memory = board.memory }) sending erased ≡ cut_off part board sending erased
    cut_from_c erased =
        ap (λ (session : Session). cut_off part (record { session = session; memory = board.memory }) sending erased)
        (decode_after_encode part board.session (valid_is_held part sound board.session _ _ sane.fine.valid sane.fine.held))

    cut_is_sane : (erased : ℕ → Bool) → SaneOff (cut_off part board sending erased)
    unfolding cut_within
    cut_is_sane erased = record {
      main =
          by_pick (λ (left : Memory). length left.main ≡ length board.memory.main) (is_erase_both (ordered part board sending)) _ _
          (λ y. cut_keeps_length _ _ erased board.memory.main)
          (λ n. (orders_keep_lengths part board.session.settings.shown board.session.settings.protection sending.packet board.memory (ordered part board sending)).main)
          ∙ (sane_memory board sane).main;
      bytes =
          by_pick (λ (left : Memory). Each left.settings) (is_erase_both (ordered part board sending)) _ _ (λ y. sane.bytes)
          (λ n. orders_keep_bytes part board.session.settings.shown board.session.settings.protection sending.packet board.memory sane.bytes (ordered part board sending));
    }

  -- ---- any move, and any history

  module _ (area : Starting → List ℕ) (reply : Sending → List ℕ) where
    abbrev Fits : Move → Type 0
    Fits (start starting) = length (area starting) ≡ record_size part
    Fits (send sending) = reply_limit ≤ length (reply sending)
    Fits (cut sending erased) = Unit

    record MovesAlong (now : Now Running) (move : Move) : Type 0 where
      seen : sight (port_by_from_c part area reply) (now_from_c part now) move ≡ sight_from_c size (sight (port_by part reply) now move)
      board : moved (port_by_from_c part area reply) (now_from_c part now) move ≡ now_from_c part (moved (port_by part reply) now move)
      sane : Sane (moved (port_by part reply) now move)

    started_along : (starting : Starting) (images : Memory) → SaneOff images → length (area starting) ≡ record_size part → MovesAlong (off images) (start starting)
    started_along starting images sane fits =
        let handed : SaneOff (fresh part images) = record { main = sane.main; bytes = sane.bytes } in
        let both = start_from_c_lem starting (fresh part images) handed (area starting) fits in
        record { seen = ap (λ (told : ℕ). of_start told) both.0; board = both.1; sane = start_is_sane starting (fresh part images) handed }

    moves_along : (now : Now Running) → Sane now → (move : Move) → Fits move → MovesAlong now move
    moves_along (off images) sane (start starting) fits = started_along starting images sane fits
    moves_along (off images) sane (send sending) fits = record { seen = refl; board = refl; sane = sane }
    moves_along (off images) sane (cut sending erased) fits = record { seen = refl; board = refl; sane = sane }
    moves_along (on board) sane (start starting) fits =
        let both = started_along starting board.memory (sane_memory board sane) fits in
        record { seen = both.seen; board = both.board; sane = both.sane }
    moves_along (on board) sane (send sending) fits =
        let step = step_from_c_lem board sane sending (reply sending) fits in
        record {
          seen = ap (λ (step : Step RunningFromC SeenFromC). of_call step.seen) step;
          board = ap (λ (step : Step RunningFromC SeenFromC). on step.board) step;
          sane = call_is_sane board sane sending (reply sending);
        }
    moves_along (on board) sane (cut sending erased) fits =
        record {
          seen = refl;
          board = ap (λ (images : Memory). off images) (cut_from_c board sane sending (reply sending) erased);
          sane = cut_is_sane board sane sending (reply sending) erased;
        }

    record Follows (images : Memory) (history : List Move) : Type 0 where
      seen : seen_after (port_by_from_c part area reply) images history ≡ map (sight_from_c size) (seen_after (port_by part reply) images history)
      board : now_after (port_by_from_c part area reply) images history ≡ now_from_c part (now_after (port_by part reply) images history)
      sane : Sane (now_after (port_by part reply) images history)

    follows : (images : Memory) → SaneOff images → (history : List Move) → Throughout Fits history → Follows images history
    follows images sane [] fits = record { seen = refl; board = refl; sane = sane }
    follows images sane (move ∷ earlier) fits =
        let so = follows images sane earlier fits.1 in
        let here = moves_along (now_after (port_by part reply) images earlier) so.sane move fits.0 in
        record {
          seen =
              ap₂ (λ (last : Sight ℕ SeenFromC) (seen : List (Sight ℕ SeenFromC)). last ∷ seen)
              (ap (λ (now : Now RunningFromC). sight (port_by_from_c part area reply) now move) so.board ∙ here.seen) so.seen;
          board = ap (λ (now : Now RunningFromC). moved (port_by_from_c part area reply) now move) so.board ∙ here.board;
          sane = here.sane;
        }

-- ---- two boards

module _ (part : Part) (sound : Sound part) (one other : Images) where
  -- both callers' areas fit
  one_fits : (history : List Move) → Throughout Roomy history → Throughout (HasRecords part) history
      → Throughout (Fits part sound (length one.main) (λ starting. starting.one_record) (λ sending. sending.one_area)) history
  one_fits [] room records = tt
  one_fits (start starting ∷ earlier) room records = (records.0.one, one_fits earlier room.1 records.1)
  one_fits (send sending ∷ earlier) room records = (room.0.one, one_fits earlier room.1 records.1)
  one_fits (cut sending erased ∷ earlier) room records = (tt, one_fits earlier room.1 records.1)

  other_fits : (history : List Move) → Throughout Roomy history → Throughout (HasRecords part) history
      → Throughout (Fits part sound (length other.main) (λ starting. starting.other_record) (λ sending. sending.other_area)) history
  other_fits [] room records = tt
  other_fits (start starting ∷ earlier) room records = (records.0.other, other_fits earlier room.1 records.1)
  other_fits (send sending ∷ earlier) room records = (room.0.other, other_fits earlier room.1 records.1)
  other_fits (cut sending erased ∷ earlier) room records = (tt, other_fits earlier room.1 records.1)

  module _ (history : List Move) (lent : FromC part one other history) (room : Throughout Roomy history) where
    one_from_c : seen_after (port_one_from_c part) one history ≡ map (sight_from_c (length one.main)) (seen_after (port_one part) one history)
    one_from_c =
        (follows part sound (length one.main) (λ starting. starting.one_record) (λ sending. sending.one_area) one (record { main = refl; bytes = lent.one_bytes }) history
        (one_fits history room lent.records)).seen

    other_from_c : seen_after (port_other_from_c part) other history ≡ map (sight_from_c (length other.main)) (seen_after (port_other part) other history)
    other_from_c =
        (follows part sound (length other.main) (λ starting. starting.other_record) (λ sending. sending.other_area) other (record { main = refl; bytes = lent.other_bytes }) history
        (other_fits history room lent.records)).seen

    -- what is seen alike by value is seen alike from C
    alike_from_c : length one.main ≡ length other.main → seen_after (port_one part) one history ≡ seen_after (port_other part) other history
        → seen_after (port_one_from_c part) one history ≡ seen_after (port_other_from_c part) other history
    alike_from_c size seen = one_from_c ∙ ap₂ (λ (size : ℕ) (seen : List (Sight Numbered Seen)). map (sight_from_c size) seen) size seen ∙ sym other_from_c

    -- and what stays locked by value stays so from C
    lock_from_c : (last : Sight Numbered Seen) → IsLocked last → IsLockedFromC (sight_from_c (length one.main) last)
    lock_from_c nothing locked = tt
    lock_from_c (of_start told) locked = tt
    lock_from_c (of_call seen) locked = locked_says_0 seen.standing.phase locked

    locks_from_c : (seen : List (Sight Numbered Seen)) → StaysLocked seen → StaysLockedFromC (map (sight_from_c (length one.main)) seen)
    locks_from_c [] locked = tt
    locks_from_c (last ∷ earlier) locked = (lock_from_c last locked.0, locks_from_c earlier locked.1)

    locked_from_c : length one.main ≡ length other.main → AlikeAndLocked part one other history → AlikeAndLockedFromC part one other history
    locked_from_c size alike =
        record { seen = alike_from_c size alike.seen; locked = subst StaysLockedFromC (sym one_from_c) (locks_from_c (seen_after (port_one part) one history) alike.locked) }

  -- ---- the theorems

  pub boards_stay_alike_from_c : (history : List Move) → ReturningFromC part one other history → AlikeFromC part one other history
  boards_stay_alike_from_c history asked =
      let returning = asked.returning in
      record { seen = alike_from_c history asked.lent returning.room returning.boards.size (boards_stay_alike part sound one other history returning).seen }

  pub no_returning_person_tells_boards_apart_from_c : (person : PersonFromC) (moves : ℕ) → ReturningFromC part one other (history_of_from_c part one person moves)
      → AlikeToFromC part one other person moves
  no_returning_person_tells_boards_apart_from_c person =
      any_person (port_one_from_c part) (port_other_from_c part) one other (ReturningFromC part one other)
      (λ move earlier asked. record { returning = returning_before part one other move earlier asked.returning; lent = lent_before move earlier asked.lent })
      boards_stay_alike_from_c person
    where
      lent_before : (move : Move) (earlier : List Move) → FromC part one other (move ∷ earlier) → FromC part one other earlier
      lent_before move earlier lent = record { one_bytes = lent.one_bytes; other_bytes = lent.other_bytes; records = lent.records.1 }

  pub advised_boards_stay_alike_from_c : part.settings_size ≤ part.sector_size → (history : List Move) → AdvisedFromC part one other history
      → AlikeAndLockedFromC part one other history
  advised_boards_stay_alike_from_c one_sector history asked =
      let advised = asked.advised in
      locked_from_c history asked.lent advised.room advised.boards.size (advised_boards_stay_alike part sound one other one_sector history advised)

  pub any_boards_are_alike_until_struck_from_c : (history : List Move) → UntilStruckFromC part one other history → AlikeAndLockedFromC part one other history
  any_boards_are_alike_until_struck_from_c history asked =
      let until = asked.until in
      locked_from_c history asked.lent until.room until.boards.size (any_boards_are_alike_until_struck part sound one other history until)

-- ---- two boards of the MSPM0

module _ (one other : Images) where
  pub mspm0_boards_stay_alike_from_c : (history : List Move) → ReturningFromC mspm0 one other history → AlikeFromC mspm0 one other history
  mspm0_boards_stay_alike_from_c = boards_stay_alike_from_c mspm0 mspm0_is_sound one other

  pub no_returning_person_tells_mspm0_boards_apart_from_c : (person : PersonFromC) (moves : ℕ) → ReturningFromC mspm0 one other (history_of_from_c mspm0 one person moves)
      → AlikeToFromC mspm0 one other person moves
  no_returning_person_tells_mspm0_boards_apart_from_c = no_returning_person_tells_boards_apart_from_c mspm0 mspm0_is_sound one other

  pub advised_mspm0_boards_stay_alike_from_c : (history : List Move) → AdvisedFromC mspm0 one other history → AlikeAndLockedFromC mspm0 one other history
  advised_mspm0_boards_stay_alike_from_c = advised_boards_stay_alike_from_c mspm0 mspm0_is_sound one other (omega arith)

  pub any_mspm0_boards_are_alike_until_struck_from_c : (history : List Move) → UntilStruckFromC mspm0 one other history → AlikeAndLockedFromC mspm0 one other history
  any_mspm0_boards_are_alike_until_struck_from_c = any_boards_are_alike_until_struck_from_c mspm0 mspm0_is_sound one other

-- ---- two boards of the AM13E230x, whose window has no bytes

module _ (one other : Images) where
  pub am13e230x_boards_stay_alike_from_c : (history : List Move) → ReturningFromC am13e230x one other history → AlikeFromC am13e230x one other history
  am13e230x_boards_stay_alike_from_c = boards_stay_alike_from_c am13e230x am13e230x_is_sound one other

  pub no_returning_person_tells_am13e230x_boards_apart_from_c : (person : PersonFromC) (moves : ℕ) → ReturningFromC am13e230x one other (history_of_from_c am13e230x one person moves)
      → AlikeToFromC am13e230x one other person moves
  no_returning_person_tells_am13e230x_boards_apart_from_c = no_returning_person_tells_boards_apart_from_c am13e230x am13e230x_is_sound one other

  pub advised_am13e230x_boards_stay_alike_from_c : (history : List Move) → AdvisedFromC am13e230x one other history → AlikeAndLockedFromC am13e230x one other history
  advised_am13e230x_boards_stay_alike_from_c = advised_boards_stay_alike_from_c am13e230x am13e230x_is_sound one other (omega arith)

  pub any_am13e230x_boards_are_alike_until_struck_from_c : (history : List Move) → UntilStruckFromC am13e230x one other history → AlikeAndLockedFromC am13e230x one other history
  any_am13e230x_boards_are_alike_until_struck_from_c = any_boards_are_alike_until_struck_from_c am13e230x am13e230x_is_sound one other
