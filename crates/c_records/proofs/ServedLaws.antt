-- What the session's call leaves, told to C: of a served one the record is stored by how it stands alone, of a refused one nothing is.
use Rattle.std.specs.Prelude.{Ok, Err}
use mathlib.Core.Path.{◌≡◌, sym, ap, subst}
use mathlib.Core.Bool.{true}
use mathlib.Core.List.{List}
use lib.ListN.{length, get_or}
use lib.Seq.{sets}
use Rattle.octets.specs.Choice.{pick}
use Prim.Native.Nat.{ℕ, ◌<◌, ◌≤◌}
use native.Mathlib.Omega.{arith}
use borrow.Author.Tests.{eq-eqb, le-ltb}
use Rattle.line.specs.Codes.{reply_limit}
use Rattle.parts.specs.declared.Part.{Part}
use Rattle.flash.specs.Memory.{Memory}
use Rattle.session.specs.declared.Session.{Session}
use Rattle.session.specs.declared.Called.{Called}
use Rattle.session.specs.declared.CallError.{CallError}
use Rattle.session.specs.declared.CallError.TheVariants as call
use Rattle.session.specs.CallAnswers.{Left, call_numbered, call_left}
use Rattle.session.specs.Calling.{stands_then, call_of}
use Rattle.session.proofs.CallLaws.{call_size_fits, call_keeps_settings}
use Rattle.c_records.specs.OneNumber.{one_number, refusal}
use Rattle.c_records.specs.Records.{standing_bytes, session_in, is_record_area}
use Rattle.c_records.specs.Boundary as rig
use Rattle.c_records.specs.Boundary.{stored_after, called_after, call_from_c}
use Rattle.c_records.proofs.RecordAgain.{next_stored}

module _ (part : Part) (session : Session) (before after : Memory) (wait : ℕ) (packet reply reply' : List ℕ) where
  -- no reply is too large for its place in the one number
  pub served_is_small : (called : Called) → call_left session (Ok called) after reply' ≡ call_of part session before wait packet reply
      → called.size < 4294967296
  served_is_small called e =
      omega (arith, ap (λ (left : Left). left.answer.size) e, call_size_fits part session before wait packet reply)

  module _ (area : List ℕ) (read : session ≡ session_in area) where
    pub served_is_told : (called : Called) → call_left session (Ok called) after reply' ≡ call_of part session before wait packet reply
        → ((k : ℕ) → get_or area k 0 < 256) → is_record_area part area ≡ true
        → rig.called (one_number 0 called.burn called.size) (sets area 0 (standing_bytes called.session.standing)) after reply'
        ≡ called_after part area (call_of part (session_in area) before wait packet reply)
    unfolding stored_after pick
    served_is_told called e each valid =
        let stands = subst (λ (left : Left). left.session ≡ stands_then session left.session.standing) (sym e) (call_keeps_settings part session before wait packet reply) in
        rw (← read, ← e, next_stored part area each valid session called.session read stands)

    pub refused_is_told : (error : CallError) → call_left session (Err error) after reply' ≡ call_of part session before wait packet reply
        → rig.called (refusal (call_numbered error).number) area after reply'
        ≡ called_after part area (call_of part (session_in area) before wait packet reply)
    unfolding stored_after pick
    refused_is_told call.ReplyAreaTooSmall e = rw (← read, ← e)
    refused_is_told call.WindowSizeWrong e = rw (← read, ← e)
    refused_is_told call.RecordNotValid e = rw (← read, ← e)

-- past the three refusals that C is told of first
pub past_the_tests : (part : Part) (area : List ℕ) (before : Memory) (wait : ℕ) (packet reply : List ℕ)
    → reply_limit ≤ length reply → length before.window ≡ part.window_size → is_record_area part area ≡ true
    → called_after part area (call_of part (session_in area) before wait packet reply) ≡ call_from_c part area before wait packet reply
unfolding call_from_c pick
past_the_tests part area before wait packet reply room size valid = rw (le-ltb _ _ room, eq-eqb _ _ size, valid)
