-- One board, lent two reply areas: it leaves and shows the same, since every reply is sent whole. So boards that are the same stay so by any moves.
use mathlib.Core.Path.{◌≡◌, refl, ap, ap₂, ◌∙◌}
use mathlib.Core.Bool.{not}
use mathlib.Core.List.{List, [], ◌∷◌}
use Prim.Native.Nat.{ℕ, ◌≤◌}
use borrow.Author.Tests.{le-ltb}
use lib.Dec.{eqb}
use lib.ListN.{length, drop}
use lib.Seq.{take-append_seam}
use Rattle.octets.proofs.Searching.{pick_true, pick_false, by_test}
use Rattle.parts.specs.declared.Part.{Part}
use Rattle.line.specs.Codes.{reply_limit}
use Rattle.settings.specs.Answers.{Numbered}
use Rattle.flash.specs.Memory.{Memory}
use Rattle.session_judge.specs.declared.Judged.{Judged}
use Rattle.session_act.specs.declared.Planned.{Planned}
use Rattle.session_act.specs.Board.{Acted}
use Rattle.session_send.proofs.AnsweringLaws.{whole, answer_bytes}
use Rattle.session.specs.declared.Session.{Session}
use Rattle.session.specs.Records.{is_record}
use Rattle.session.specs.Calling.{carries_reset, judgement, intent, deed, served, call_refused, serve_of, call_of}
use Rattle.session.proofs.ToldLaws.{plan_is_told_whole}
use Rattle.claims.specs.TwoBoards.{Running}
use Rattle.claims.specs.Visits.{Step, Seen, step_of}
use Rattle.claims_restarts.specs.Moves.{Move, start, send, cut, Now, off, on, Sight, of_call, moved, sight, now_after, seen_after, Throughout}
use Rattle.claims_restarts.specs.Boards.{port_one, port_other}
use Rattle.claims_restarts.specs.Returning.{Roomy}

module _ (part : Part) (session : Session) (before : Memory) (wait : ℕ) (packet : List ℕ) where
  abbrev decides : Judged
  decides = judgement part.last_rate session wait packet

  abbrev plans : Planned
  plans = intent part session packet before decides.effect

  abbrev does : Acted
  does = deed part session packet before decides.effect

  abbrev bytes : List ℕ
  bytes = answer_bytes plans.reply plans.region plans.offset plans.count packet does.memory

  -- a call that is served sends its reply whole
  serve_is : (area : List ℕ) → reply_limit ≤ length area → serve_of part session before wait packet area ≡ served session decides does (whole bytes area)
  unfolding serve_of
  serve_is area room =
      ap (served session decides does)
      (plan_is_told_whole part session.main_size session.settings.shown session.settings.protection (carries_reset session packet) before does.memory decides.effect packet area room)

  -- so what is left of the board, and what is seen, does not hang on the area
  same_step : (one other : List ℕ) → reply_limit ≤ length one → reply_limit ≤ length other
      → step_of (call_of part session before wait packet one) ≡ step_of (call_of part session before wait packet other)
  unfolding call_of
  same_step one other one_room other_room =
      rw (pick_false (call_refused 9 session before one) _ (le-ltb (length one) reply_limit one_room), pick_false (call_refused 9 session before other) _ (le-ltb (length other) reply_limit other_room))
      (by_test (not (eqb (length before.window) part.window_size))
      (λ y. rw (pick_true (call_refused 11 session before one) _ y, pick_true (call_refused 11 session before other) _ y) refl)
      (λ lent. rw (pick_false (call_refused 11 session before one) _ lent, pick_false (call_refused 11 session before other) _ lent)
      (by_test (not (is_record part session (length before.main) (length before.settings)))
      (λ y. rw (pick_true (call_refused 10 session before one) (serve_of part session before wait packet one) y, pick_true (call_refused 10 session before other) (serve_of part session before wait packet other) y) refl)
      (λ n. rw (pick_false (call_refused 10 session before one) (serve_of part session before wait packet one) n, pick_false (call_refused 10 session before other) (serve_of part session before wait packet other) n, serve_is one one_room, serve_is other other_room)
      (rw (take-append_seam bytes (drop (length bytes) one), take-append_seam bytes (drop (length bytes) other)) refl)))))

-- one move
module _ (part : Part) where
  pub same_stays : (now : Now Running) (move : Move) → Roomy move
      → (sight (port_one part) now move ≡ sight (port_other part) now move) × (moved (port_one part) now move ≡ moved (port_other part) now move)
  same_stays (off images) (start starting) room = (refl, refl)
  same_stays (off images) (send sending) room = (refl, refl)
  same_stays (off images) (cut sending erased) room = (refl, refl)
  same_stays (on board) (start starting) room = (refl, refl)
  same_stays (on board) (cut sending erased) room = (refl, refl)
  same_stays (on board) (send sending) room =
      let same = same_step part board.session board.memory sending.wait sending.packet sending.one_area sending.other_area room.one room.other in
      (ap (λ (step : Step Running Seen). of_call step.seen) same, ap (λ (step : Step Running Seen). on step.board) same)

  -- and so by any history
  pub same_through : (images : Memory) (history : List Move) → Throughout Roomy history
      → (seen_after (port_one part) images history ≡ seen_after (port_other part) images history) × (now_after (port_one part) images history ≡ now_after (port_other part) images history)
  same_through images [] room = (refl, refl)
  same_through images (move ∷ earlier) room =
      let so = same_through images earlier room.1 in
      let here = same_stays (now_after (port_one part) images earlier) move room.0 in (
        ap₂ (λ (last : Sight Numbered Seen) (seen : List (Sight Numbered Seen)). last ∷ seen)
            (here.0 ∙ ap (λ (now : Now Running). sight (port_other part) now move) so.1) so.0,
        here.1 ∙ ap (λ (now : Now Running). moved (port_other part) now move) so.1,
      )
