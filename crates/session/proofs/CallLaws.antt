-- What holds of every call, refused or served.
use mathlib.Core.Path.{◌≡◌, refl}
use mathlib.Core.Bool.{not}
use mathlib.Core.List.{List}
use Prim.Native.Nat.{ℕ, ◌≤◌}
use native.Mathlib.Omega.{arith}
use lib.Dec.{ltb, eqb}
use lib.ListN.{length}
use Rattle.octets.proofs.Searching.{by_pick}
use Rattle.line.specs.Codes.{reply_limit}
use Rattle.parts.specs.declared.Part.{Part}
use Rattle.flash.specs.Memory.{Memory}
use Rattle.session_send.proofs.AnsweringLaws.{answer_fits}
use Rattle.session.specs.declared.Session.{Session}
use Rattle.session.specs.Records.{is_record}
use Rattle.session.specs.CallAnswers.{Left}
use Rattle.session.specs.Calling.{stands_then, call_refused, serve_of, call_of}

module _ (part : Part) (session : Session) (before : Memory) (wait : ℕ) (packet area : List ℕ) where
  abbrev after : Left
  after = call_of part session before wait packet area

  -- what holds of a refused call and of one that is served holds of every call
  pub every_call : (P : Left → Type 0) → ((number : ℕ) → P (call_refused number session before area))
      → P (serve_of part session before wait packet area) → P after
  unfolding call_of
  every_call P refused served =
      by_pick P (ltb (length area) reply_limit) _ _ (λ y. refused 9)
      (λ n. by_pick P (not (eqb (length before.window) part.window_size)) _ _ (λ y. refused 11)
      (λ n. by_pick P (not (is_record part session (length before.main) (length before.settings))) _ _ (λ y. refused 10) (λ n. served)))

  -- 01, Numbers of refused calls: "each changes nothing lent and returns the record it was given"
  pub refused_changes_nothing : (after.answer.number ≡ 0 → ⊥) → after ≡ call_refused after.answer.number session before area
  unfolding serve_of
  refused_changes_nothing =
      every_call (λ left. (left.answer.number ≡ 0 → ⊥) → left ≡ call_refused left.answer.number session before area)
      (λ number h. refl) (λ h. absurd (h refl))

  -- no reply has more than 1,729 bytes
  pub call_size_fits : after.answer.size ≤ 1729
  unfolding serve_of
  call_size_fits =
      every_call (λ left. left.answer.size ≤ 1729) (λ number. omega arith)
      (answer_fits _ _ _ _ packet _ area)

  -- 01, Phases and waits: "Settings are taken at start": a call changes only how the session stands
  pub call_keeps_settings : after.session ≡ stands_then session after.session.standing
  unfolding serve_of
  call_keeps_settings = every_call (λ left. left.session ≡ stands_then session left.session.standing) (λ number. refl) refl
