-- Demand 3: "Every reply is the same, sleep, rate and phase included. Neither unlocks."
-- Both boards follow from their start and from how they stand, and at every call they stand alike.
use mathlib.Core.Path.{◌≡◌, refl, sym, ap, ap₂, subst, ◌∙◌}
use mathlib.Core.Bool.{false}
use mathlib.Core.List.{List, [], ◌∷◌}
use Prim.Native.Nat.{ℕ}
use lib.ListN.{length}
use lib.Seq.{take-append_seam}
use Rattle.parts.specs.declared.Part.{Part}
use Rattle.parts.specs.Parts.{mspm0, am13e230x, Sound}
use Rattle.parts.proofs.PartLaws.{mspm0_is_sound, am13e230x_is_sound}
use Rattle.session_state.specs.declared.Standing.{Standing}
use Rattle.session_state.specs.Phases.{at_start, is_unlocked}
use Rattle.settings.specs.declared.Shown.{Shown}
use Rattle.session_judge.specs.declared.Effect.{Effect}
use Rattle.session_judge.specs.declared.Judged.{Judged}
use Rattle.session_judge.proofs.EffectTests.{is_performed}
use Rattle.session_judge.specs.Hearing.{judged_of}
use Rattle.session_act.specs.Info.{version_of}
use Rattle.session.specs.CallAnswers.{call_told}
use Rattle.session.proofs.ToldLaws.{told_alike}
use Rattle.claims.specs.TwoBoards.{Images, settings_of, started, AlikeBoards, Sending, WithoutPassword, called, is_struck, Alike, AlikeThroughout}
use Rattle.claims.proofs.Secrecy.LockedBoard.{image_then, versions_stay_alike, alert_of, later, Locked, flash_is_as_claimed, started_is_later, started_is_locked}
use Rattle.claims.proofs.Secrecy.LockedCall.{verdict, bytes_then, left_then, performs_nothing, call_is, stays_locked}

module _ (part : Part) (sound : Sound part) where
  -- both boards stand locked, and alike
  pub record Together (one other : Images) (standing : Standing) : Type 0 where
    pub one_locked : Locked part one standing
    pub other_locked : Locked part other standing

  module _ (one other : Images) (alike : AlikeBoards part one other) where
    -- ---- what both share

    alert_alike : alert_of one ≡ alert_of other
    alert_alike = ap (λ (shown : Shown). shown.alert) alike.shown

    -- the same packet is judged alike
    pub verdict_alike : (standing : Standing) (sending : Sending) → verdict part other standing sending ≡ verdict part one standing sending
    verdict_alike standing sending = ap (λ (alert : ℕ). judged_of part.last_rate standing alert sending.wait sending.packet false) (sym alert_alike)

    -- the version that is published stays the same, also where the alert has struck
    version_alike : (standing : Standing)
        → version_of part (settings_of one).shown (later part one standing).memory.main
        ≡ version_of part (settings_of other).shown (later part other standing).memory.main
    version_alike standing =
        let same = alike.version ∙ ap (λ (shown : Shown). version_of part shown other.main) (sym alike.shown) in
        versions_stay_alike part sound (settings_of one).shown (settings_of one).protection one.main other.main alike.size same (is_struck (alert_of one) standing.wrong)
        ∙ ap₂ (λ (shown : Shown) (protection : List ℕ). version_of part shown (image_then part.sector_size (is_struck shown.alert standing.wrong) protection other.main))
        alike.shown alike.protection

    -- ---- one call

    module _ (standing : Standing) (sending : Sending) where
      -- the same effect is told in the same bytes
      bytes_alike : (effect : Effect) → is_performed effect ≡ false → bytes_then part one standing sending effect ≡ bytes_then part other standing sending effect
      bytes_alike effect nothing =
          told_alike sending.packet part _ _ (settings_of one).shown (settings_of other).shown _ _ _ _ (later part one standing).memory (later part other standing).memory alike.shown (version_alike standing) effect nothing

      -- what two calls leave that decide alike
      left_alike : (judged : Judged) → is_performed judged.effect ≡ false → is_unlocked judged.standing.phase ≡ false
          → Alike part one other (left_then part one standing sending sending.one_area judged) (left_then part other standing sending sending.other_area judged)
      left_alike judged nothing shut =
          let same = bytes_alike judged.effect nothing in
          record {
            served = refl;
            answers = ap (λ (bytes : List ℕ). call_told 0 (length bytes) judged.burn) same;
            replies = take-append_seam _ _ ∙ same ∙ sym (take-append_seam _ _);
            standing = refl;
            locked = shut;
            one_flash = flash_is_as_claimed part one judged.standing;
            other_flash = flash_is_as_claimed part other judged.standing;
          }

    module _ (standing : Standing) (together : Together one other standing) (sending : Sending) (without : WithoutPassword part one other sending) where
      -- what both decide
      abbrev pub decided : Judged
      decided = verdict part one standing sending

      -- what both calls leave
      pub one_is_lem : called part (later part one standing) sending sending.one_area ≡ left_then part one standing sending sending.one_area decided
      one_is_lem = call_is part one standing together.one_locked sending sending.one_area without.not_one without.one_room

      pub other_is_lem : called part (later part other standing) sending sending.other_area ≡ left_then part other standing sending sending.other_area decided
      other_is_lem =
          call_is part other standing together.other_locked sending sending.other_area without.not_other without.other_room
          ∙ ap (left_then part other standing sending sending.other_area) (verdict_alike standing sending)

      pub stay_together : Together one other decided.standing
      stay_together = record {
        one_locked = stays_locked part one standing together.one_locked sending sending.one_area without.not_one without.one_room;
        other_locked =
            subst (λ (judged : Judged). Locked part other judged.standing) (verdict_alike standing sending)
            (stays_locked part other standing together.other_locked sending sending.other_area without.not_other without.other_room);
      }

      pub call_alike : Alike part one other (called part (later part one standing) sending sending.one_area) (called part (later part other standing) sending sending.other_area)
      call_alike =
          rw (one_is_lem, other_is_lem)
          (left_alike standing sending decided (performs_nothing part one standing together.one_locked sending) stay_together.one_locked.shut)

    -- ---- any list of calls

    alike_from : (sendings : List Sending) (standing : Standing) → Together one other standing
        → AlikeThroughout part one other (later part one standing) (later part other standing) sendings
    alike_from [] standing together = tt
    alike_from (sending ∷ sendings) standing together = λ without. (
      call_alike standing together sending without,
      rw (one_is_lem standing together sending without, other_is_lem standing together sending without)
          (alike_from sendings _ (stay_together standing together sending without)),
    )

  -- over any one session of two boards of one sound part, at every point of it
  pub two_boards_are_alike : (one other : Images) → AlikeBoards part one other → (sendings : List Sending)
      → AlikeThroughout part one other (started part one) (started part other) sendings
  two_boards_are_alike one other alike sendings =
      rw (started_is_later part one alike.one_starts, started_is_later part other alike.other_starts)
      (alike_from one other alike sendings at_start
      (record { one_locked = started_is_locked part one alike.one_starts; other_locked = started_is_locked part other alike.other_starts }))

-- two boards of the MSPM0
pub mspm0_boards_are_alike : (one other : Images) → AlikeBoards mspm0 one other → (sendings : List Sending)
    → AlikeThroughout mspm0 one other (started mspm0 one) (started mspm0 other) sendings
mspm0_boards_are_alike = two_boards_are_alike mspm0 mspm0_is_sound

-- T-10: two boards of the AM13E230x, which publish eight version bytes
pub am13e230x_boards_are_alike : (one other : Images) → AlikeBoards am13e230x one other → (sendings : List Sending)
    → AlikeThroughout am13e230x one other (started am13e230x one) (started am13e230x other) sendings
am13e230x_boards_are_alike = two_boards_are_alike am13e230x am13e230x_is_sound
