-- A call on a locked board, by a packet without its password: all that it leaves follows from the board's start and from how it stands.
use mathlib.Core.Path.{◌≡◌, refl, sym, ap, ap₂, subst, ◌∙◌}
use mathlib.Core.Bool.{Bool, true, false, true≢false}
use mathlib.Core.List.{List}
use Prim.Native.Nat.{ℕ, ◌≤◌}
use borrow.Author.Tests.{eq-eqb, eqb-true}
use lib.Dec.{eqb}
use lib.ListN.{length}
use Rattle.octets.specs.Choice.{pick}
use Rattle.octets.proofs.Searching.{pick_true, pick_false, by_test}
use Rattle.parts.specs.declared.Part.{Part}
use Rattle.line.specs.Codes.{reply_limit}
use Rattle.line.specs.Replies.{reply_bytes, Sent}
use Rattle.session_state.specs.declared.Standing.{Standing}
use Rattle.session_state.specs.Phases.{is_unlocked}
use Rattle.flash.specs.Memory.{Memory}
use Rattle.session_judge.specs.declared.Effect.{Effect}
use Rattle.session_judge.specs.declared.Effect.TheVariants.{Strike}
use Rattle.session_judge.specs.declared.Judged.{Judged}
use Rattle.session_judge.specs.Unlocking.{alert_reset}
use Rattle.session_judge.proofs.EffectTests.{is_performed}
use Rattle.session_judge.specs.Hearing.{judged_of}
use Rattle.session_judge.proofs.JudgeLaws.{wrong_never_unlocks, locked_performs_nothing, strikes_at_three}
use Rattle.session_judge.proofs.StrangerLaws.{only_unlock_is_compared, no_third_without_strike}
use Rattle.session_act.specs.declared.Planned.{Planned}
use Rattle.session_act.specs.Board.{Acted}
use Rattle.session_act.proofs.PlanLaws.{bytes_need_no_order}
use Rattle.session_act.proofs.LockedLaws.{only_strikes_change}
use Rattle.session_send.specs.Answering.{hushed, answer_of}
use Rattle.session_send.proofs.AnsweringLaws.{whole}
use Rattle.session.specs.CallAnswers.{Left, left, call_told}
use Rattle.session.specs.Calling.{carries_reset, judgement, intent, deed, followed, serve_of}
use Rattle.session.proofs.RecordLaws.{record_by_clauses}
use Rattle.session.proofs.ToldLaws.{plan_is_told_whole, told_in}
use Rattle.claims.specs.TwoBoards.{Images, settings_of, Carries, Sending, called, next, is_struck}
use Rattle.claims.proofs.Sessions.CallRules.{not_found, valid_is_served, valid_stays_valid}
use Rattle.claims.proofs.Secrecy.LockedBoard.{alert_of, lets, memory_then, session_then, later, HasRecord, Locked, strike_erases}

module _ (part : Part) where
  -- what is decided of a packet without the password
  abbrev pub verdict : Images → Standing → Sending → Judged
  verdict images standing sending = judged_of part.last_rate standing (alert_of images) sending.wait sending.packet false

  -- what the board plans and does then, and the bytes that it sends
  abbrev intent_then : Images → Standing → Sending → Effect → Planned
  intent_then images standing sending effect = intent part (session_then images standing) sending.packet (later part images standing).memory effect

  abbrev pub deed_then : Images → Standing → Sending → Effect → Acted
  deed_then images standing sending effect = deed part (session_then images standing) sending.packet (later part images standing).memory effect

  abbrev pub bytes_then : Images → Standing → Sending → Effect → List ℕ
  bytes_then images standing sending effect =
      told_in sending.packet (later part images standing).memory (intent_then images standing sending effect)

  -- all that the call leaves
  abbrev pub left_then : Images → Standing → Sending → List ℕ → Judged → Left
  left_then images standing sending area judged =
      left (call_told 0 (length (bytes_then images standing sending judged.effect)) judged.burn)
      (session_then images judged.standing) (later part images judged.standing).memory
      (whole (bytes_then images standing sending judged.effect) area).area

  module _ (images : Images) (standing : Standing) (locked : Locked part images standing) (sending : Sending) where
    abbrev alert : ℕ
    alert = alert_of images

    abbrev decided : Judged
    decided = verdict images standing sending

    -- no protected command is performed
    pub performs_nothing : is_performed decided.effect ≡ false
    performs_nothing = locked_performs_nothing part.last_rate standing alert sending.wait sending.packet false locked.shut

    -- ---- both images

    -- a strike comes with the third wrong password
    strike_is_counted : decided.effect ≡ Strike → is_struck alert decided.standing.wrong ≡ true
    unfolding is_struck
    strike_is_counted e =
        let three = strikes_at_three part.last_rate standing alert sending.wait sending.packet false e in
        pick_true _ _ (eq-eqb _ _ three.0) ∙ eq-eqb _ _ three.1

    -- and the third wrong password with a strike
    count_is_kept : (decided.effect ≡ Strike → ⊥) → is_struck alert decided.standing.wrong ≡ is_struck alert standing.wrong
    unfolding is_struck
    count_is_kept none =
        by_test (eqb alert alert_reset)
        (λ y.
        ap (λ (third : Bool). pick (eqb alert alert_reset) third false)
        (no_third_without_strike part.last_rate standing alert sending.wait sending.packet (record_by_clauses part _ _ _ locked.valid).standing (eqb-true _ _ y) none))
        (λ n. pick_false _ _ n ∙ sym (pick_false _ _ n))

    -- so what is done to them follows from how the board then stands
    memory_follows : (deed_then images standing sending decided.effect).memory ≡ (later part images decided.standing).memory
    memory_follows =
        only_strikes_change (lets part images) _ sending.packet _ (λ left. left ≡ (later part images decided.standing).memory) decided.effect performs_nothing
        (λ e. strike_erases part images sending.packet _ ∙ ap (memory_then part images) (sym (strike_is_counted e)))
        (λ none. ap (memory_then part images) (sym (count_is_kept none)))

    -- ---- the call

    module _ (area : List ℕ) (stranger : Carries part sending.packet (settings_of images).password → ⊥) (room : reply_limit ≤ length area) where
      -- the packet is judged by a wrong password
      judged_as_wrong : judgement part.last_rate (session_then images standing) sending.wait sending.packet ≡ decided
      judged_as_wrong =
          only_unlock_is_compared part.last_rate alert _ sending.packet (not_found part sending.packet (settings_of images).password stranger) standing sending.wait

      abbrev does : Acted
      does = deed_then images standing sending decided.effect

      abbrev plans : Planned
      plans = intent_then images standing sending decided.effect

      -- the reply is sent whole, and the bytes beside it are those of before the order
      told_whole : answer_of does.reply plans.region plans.offset plans.count sending.packet does.memory area
          ≡ whole (bytes_then images standing sending decided.effect) area
      told_whole =
          let right = carries_reset (session_then images standing) sending.packet in
          let before = (later part images standing).memory in
          plan_is_told_whole part (length images.main) (settings_of images).shown (settings_of images).protection right before does.memory decided.effect sending.packet area room
          ∙ ap (λ (beside : List ℕ). whole (reply_bytes (hushed sending.packet does.reply) beside) area)
          (bytes_need_no_order part (settings_of images).shown (settings_of images).protection sending.packet before (length images.main) right decided.effect)

      -- all that the call leaves follows from the verdict
      pub call_is : called part (later part images standing) sending area ≡ left_then images standing sending area (verdict images standing sending)
      unfolding serve_of
      call_is =
          valid_is_served part (session_then images standing) (later part images standing).memory sending.wait sending.packet area locked.valid locked.window room
          ∙ ap (followed part (session_then images standing) (later part images standing).memory sending.packet area) judged_as_wrong
          ∙ ap₂ (λ (sent : Sent) (after : Memory). left (call_told 0 sent.size decided.burn) (session_then images decided.standing) after sent.area)
          told_whole memory_follows

      -- without the password a locked session stays locked
      stays_shut : is_unlocked decided.standing.phase ≡ false
      stays_shut =
          by_test (is_unlocked decided.standing.phase)
          (λ y. absurd (true≢false (sym (wrong_never_unlocks part.last_rate standing alert sending.wait sending.packet false refl y) ∙ locked.shut)))
          (λ n. n)

      -- the board stands as the next call wants it
      pub stays_locked : Locked part images (verdict images standing sending).standing
      stays_locked = record {
        valid =
            subst (λ (left : Left). HasRecord part (next left)) call_is
            (valid_stays_valid part (session_then images standing) (later part images standing).memory sending.wait sending.packet area locked.valid);
        window = locked.window;
        shut = stays_shut;
      }
