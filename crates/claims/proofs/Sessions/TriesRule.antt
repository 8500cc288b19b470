-- T-08: "how many wrong passwords a session has seen in all": the total never falls, rises by one at each wrong password while it is below 65,535
-- and at nothing else, and is at least the wrong count.
use mathlib.Core.Path.{◌≡◌, refl, ap, ◌∙◌}
use mathlib.Core.Bool.{Bool, true, false}
use mathlib.Core.List.{List, [], ◌∷◌}
use Prim.Native.Nat.{ℕ, ◌+◌, ◌≤◌, ◌<◌}
use native.Mathlib.Omega.{arith}
use lib.ListN.{length}
use Rattle.octets.specs.Choice.{pick}
use Rattle.octets.specs.Alike.{are_same}
use Rattle.octets.proofs.Searching.{pick_true, pick_false, by_pick}
use Rattle.parts.specs.declared.Part.{Part}
use Rattle.line.specs.Codes.{reply_limit}
use Rattle.line.specs.Packet.{password_in}
use Rattle.session_state.specs.Phases.{most_tries}
use Rattle.session_state.proofs.PhaseLaws.{valid_by_parts}
use Rattle.flash.specs.Memory.{Memory}
use Rattle.session_judge.specs.Unlocking.{tried_once}
use Rattle.session_judge.specs.Tries.{is_wrong_password}
use Rattle.session_judge.proofs.UnlockingLaws.{one_more, no_more, tried_once_lem}
use Rattle.session_judge.proofs.TriesLaws.{wrong_passwords_add}
use Rattle.session.specs.declared.Session.{Session}
use Rattle.session.specs.CallAnswers.{Left}
use Rattle.session.specs.Records.{is_record}
use Rattle.session.specs.Calling.{serve_of, call_of}
use Rattle.session.proofs.CallLaws.{every_call}
use Rattle.session.proofs.RecordLaws.{record_by_clauses}
use Rattle.claims.specs.TwoBoards.{Running, Sending, called, next}
use Rattle.claims.proofs.Sessions.CallRules.{valid_is_served, valid_stays_valid}

module _ (part : Part) where
  module _ (session : Session) (before : Memory) (wait : ℕ) (packet area : List ℕ) where
    abbrev after : Left
    after = call_of part session before wait packet area

    abbrev IsValidRecord : Type 0
    IsValidRecord = is_record part session (length before.main) (length before.settings) ≡ true

    -- the packet is a wrong password of this session
    abbrev is_wrong : Bool
    is_wrong = is_wrong_password part.last_rate session.standing wait packet (are_same session.settings.password (password_in packet))

    -- a call that is served leaves one more for a wrong password, and else the same
    pub total_then : (serve_of part session before wait packet area).session.standing.tries
        ≡ pick is_wrong (tried_once session.standing.tries) session.standing.tries
    unfolding serve_of
    total_then = wrong_passwords_add part.last_rate session.settings.shown.alert packet _ session.standing wait

    -- no call lets it fall, refused or not
    pub total_never_falls : session.standing.tries ≤ after.session.standing.tries
    total_never_falls =
        every_call part session before wait packet area (λ left. session.standing.tries ≤ left.session.standing.tries) (λ number. omega arith)
        (rw total_then
        (by_pick (λ (tries : ℕ). session.standing.tries ≤ tries) is_wrong _ _ (λ y. (tried_once_lem session.standing.tries).0) (λ n. omega arith)))

    -- nothing but a wrong password adds to it, in any call
    pub nothing_else_adds : is_wrong ≡ false → after.session.standing.tries ≡ session.standing.tries
    nothing_else_adds other =
        every_call part session before wait packet area (λ left. left.session.standing.tries ≡ session.standing.tries) (λ number. refl)
        (total_then ∙ pick_false _ _ other)

    module _ (valid : IsValidRecord) (window : length before.window ≡ part.window_size) (room : reply_limit ≤ length area) (wrong : is_wrong ≡ true) where
      wrong_is_served : after.session.standing.tries ≡ tried_once session.standing.tries
      wrong_is_served =
          ap (λ (left : Left). left.session.standing.tries) (valid_is_served part session before wait packet area valid window room) ∙ total_then ∙ pick_true _ _ wrong

      -- a wrong password adds one, also while the session is unlocked, also the fourth and each later one
      pub wrong_password_adds_one : session.standing.tries < most_tries → after.session.standing.tries ≡ session.standing.tries + 1
      wrong_password_adds_one below = wrong_is_served ∙ one_more session.standing.tries below

      -- "it stops at 65,535"
      pub total_stops : session.standing.tries ≡ most_tries → after.session.standing.tries ≡ most_tries
      total_stops most = wrong_is_served ∙ no_more session.standing.tries (omega arith) ∙ most

    -- a valid record is never one that 10 refuses for its total
    pub total_goes_with_count : IsValidRecord
        → (after.session.standing.wrong ≤ after.session.standing.tries) × (after.session.standing.tries ≤ most_tries)
    total_goes_with_count valid =
        let left = valid_stays_valid part session before wait packet area valid in
        let parts = valid_by_parts part.last_rate _ (record_by_clauses part _ _ _ left).standing in
        (parts.tries, parts.most)

  -- ---- over a session

  -- a board after so many calls
  abbrev pub runs : Running → List Sending → Running
  runs board [] = board
  runs board (sending ∷ sendings) = runs (next (called part board sending sending.one_area)) sendings

  -- "no success clears it", and nothing else does
  pub total_never_falls_in_a_session : (sendings : List Sending) (board : Running) → board.session.standing.tries ≤ (runs board sendings).session.standing.tries
  total_never_falls_in_a_session [] board = omega arith
  total_never_falls_in_a_session (sending ∷ sendings) board =
      omega (
        arith,
        total_never_falls board.session board.memory sending.wait sending.packet sending.one_area,
        total_never_falls_in_a_session sendings (next (called part board sending sending.one_area)),
      )
