-- Two boards that are alike, from move to move: both are off and hold twins, or both are in a session, by their start and by how they stand.
use mathlib.Core.Path.{◌≡◌, refl, sym, ap, subst, ◌∙◌}
use mathlib.Core.Logic.{◌⊎◌, inl, inr, ⊎_elim}
use mathlib.Core.Bool.{Bool, true, false, not}
use mathlib.Core.List.{List, []}
use Prim.Native.Nat.{ℕ}
use borrow.Author.Tests.{eq-eqb}
use lib.Dec.{eqb}
use Rattle.octets.specs.Choice.{pick}
use Rattle.octets.proofs.Searching.{pick_true, by_test}
use Rattle.parts.specs.declared.Part.{Part}
use Rattle.parts.specs.Parts.{Sound}
use Rattle.session_state.specs.declared.Standing.{Standing}
use Rattle.session_state.specs.Phases.{at_start}
use Rattle.settings.specs.declared.Shown.{Shown}
use Rattle.settings.specs.Held.{Kept}
use Rattle.settings.specs.Answers.{Numbered, numbered}
use Rattle.flash.specs.Memory.{Memory}
use Rattle.session_judge.specs.declared.Judged.{Judged}
use Rattle.session_judge.proofs.StrangerLaws.{only_unlock_is_compared}
use Rattle.session_act.specs.declared.Order.TheVariants.{Keep, EraseBoth}
use Rattle.session_act.proofs.LockedLaws.{is_strike}
use Rattle.session.specs.StartAnswers.{StartTold}
use Rattle.session.specs.Starting.{settings_read, start_of}
use Rattle.session.specs.CallAnswers.{Left}
use Rattle.claims.specs.TwoBoards.{Images, Running, settings_of, AlikeBoards, Carries, Sending, WithoutPassword, next, is_struck}
use Rattle.claims.proofs.Sessions.CallRules.{not_found, every_start, locked_session_orders}
use Rattle.claims.proofs.Secrecy.LockedBoard.{alert_of, memory_then, session_then, later, Locked, started_is_later, started_is_locked}
use Rattle.claims.proofs.Secrecy.LockedCall.{verdict}
use Rattle.claims.proofs.Secrecy.ToldApart.{Together, verdict_alike, decided, one_is_lem, other_is_lem, stay_together, call_alike}
use Rattle.claims_restarts.specs.Moves.{Starting, Move, start, send, cut, ends_session, Now, off, on, of_start, moved, sight}
use Rattle.claims_restarts.specs.Cuts.{cut_in_main, cut_within}
use Rattle.claims_restarts.specs.Boards.{fresh, begun, started_by, cut_off, port_one, port_other, has_struck}
use Rattle.claims_restarts.specs.Returning.{NoPassword, Without, Roomy, IsLocked}
use Rattle.claims_restarts.proofs.Twins.{windows_are_same, Twins, KeepsSettings, first_twins, fresh_twins, cut_twins, memory_twins}

module _ (part : Part) (sound : Sound part) (one other : Images) where
  -- ---- both boards as they are now

  -- no session is on
  pub record BothOff (one_now other_now : Now Running) : Type 0 where
    pub a : Images
    pub b : Images
    pub twins : Twins part sound one other a b
    pub one_is : one_now ≡ off a
    pub other_is : other_now ≡ off b

  -- both are in a session that was started from twins, and stand locked and alike
  pub record BothOn (one_now other_now : Now Running) : Type 0 where
    pub a : Images
    pub b : Images
    pub standing : Standing
    pub twins : Twins part sound one other a b
    pub together : Together part sound a b standing
    pub windows : a.window ≡ b.window
    pub one_is : one_now ≡ on (later part a standing)
    pub other_is : other_now ≡ on (later part b standing)

  abbrev pub Pair : Now Running → Now Running → Type 0
  Pair one_now other_now = BothOff one_now other_now ⊎ BothOn one_now other_now

  pub first_pair : AlikeBoards part one other → Pair (off one) (off other)
  first_pair alike = inl (record { a = one; b = other; twins = first_twins part sound one other alike; one_is = refl; other_is = refl })

  -- ---- a start from images that are alike

  module _ (fuse : Bool) (images : Images) where
    abbrev told : StartTold
    told = start_of part fuse images.main images.settings images.window

    -- with the fuse set it is refused
    refused_start : fuse ≡ true → (told.answer ≡ numbered 1 0) × (started_by told images ≡ off images)
    unfolding started_by start_of pick
    refused_start set = rw set (refl, refl)

    -- else it is not
    clear_start : fuse ≡ false → (start_of part false images.main images.settings images.window).answer.number ≡ 0
        → (told.answer ≡ numbered 0 0) × (started_by told images ≡ on (later part images at_start))
    unfolding started_by
    clear_start clear starts =
        rw clear (
          every_start part false images.main images.settings images.window (λ told. told.answer ≡ numbered 0 0) (λ size whole lent read. refl) starts,
          pick_true _ _ (eq-eqb _ _ starts) ∙ ap (λ (board : Running). on board) (started_is_later part images starts),
        )

  -- of images that were handed over
  handed_pair : (starting : Starting) (a b : Images) → Twins part sound one other a b → a.window ≡ b.window
      → ((begun part starting a).answer ≡ (begun part starting b).answer) × Pair (started_by (begun part starting a) a) (started_by (begun part starting b) b)
  handed_pair starting a b twins windows =
      by_test (not (eqb starting.fuse 0))
      (λ set.
      let one_is = refused_start (not (eqb starting.fuse 0)) a set in
      let other_is = refused_start (not (eqb starting.fuse 0)) b set in
      (one_is.0 ∙ sym other_is.0, inl (record { a = a; b = b; twins = twins; one_is = one_is.1; other_is = other_is.1 })))
      (λ clear.
      let one_is = clear_start (not (eqb starting.fuse 0)) a clear twins.alike.one_starts in
      let other_is = clear_start (not (eqb starting.fuse 0)) b clear twins.alike.other_starts in (
        one_is.0 ∙ sym other_is.0,
        inr (record {
          a = a;
          b = b;
          standing = at_start;
          twins = twins;
          together = record { one_locked = started_is_locked part a twins.alike.one_starts; other_locked = started_is_locked part b twins.alike.other_starts };
          windows = windows;
          one_is = one_is.1;
          other_is = other_is.1;
        }),
      ))

  -- ---- one move

  -- the same is seen, no board unlocks, and they are such a pair again
  pub record Stepped (one_now other_now : Now Running) (move : Move) : Type 0 where
    pub seen : sight (port_one part) one_now move ≡ sight (port_other part) other_now move
    pub locked : IsLocked (sight (port_one part) one_now move)
    pub pair : Pair (moved (port_one part) one_now move) (moved (port_other part) other_now move)

  started_step : (starting : Starting) (a b : Images) → Twins part sound one other a b → Stepped (off a) (off b) (start starting)
  started_step starting a b twins =
      let both = handed_pair starting (fresh part a) (fresh part b) (fresh_twins part sound one other a b twins) (windows_are_same part a b) in
      record { seen = ap (λ (told : Numbered). of_start told) both.0; locked = tt; pair = both.1 }

  off_step : (a b : Images) → Twins part sound one other a b → (move : Move) → Stepped (off a) (off b) move
  off_step a b twins (start starting) = started_step starting a b twins
  off_step a b twins (send sending) = record { seen = refl; locked = tt; pair = inl (record { a = a; b = b; twins = twins; one_is = refl; other_is = refl }) }
  off_step a b twins (cut sending erased) = record { seen = refl; locked = tt; pair = inl (record { a = a; b = b; twins = twins; one_is = refl; other_is = refl }) }

  -- a locked board to which a packet without its password is sent, and the power goes: nothing is done, or the strike's erase is cut
  cut_by_bit : (settings : Kept) (packet : List ℕ) (erased : ℕ → Bool) (before : Memory) (bit : Bool)
      → cut_within part settings packet erased before (pick bit EraseBoth Keep) ≡ pick bit (cut_in_main part settings.protection erased before) before
  unfolding cut_within pick
  cut_by_bit settings packet erased before true = refl
  cut_by_bit settings packet erased before false = refl

  pub cut_of_locked : (images : Images) (standing : Standing) → Locked part images standing → (sending : Sending) (erased : ℕ → Bool)
      → (Carries part sending.packet (settings_of images).password → ⊥)
      → cut_off part (later part images standing) sending erased
      ≡ pick (is_strike (verdict part images standing sending).effect)
      (cut_in_main part (settings_of images).protection erased (later part images standing).memory) (later part images standing).memory
  cut_of_locked images standing locked sending erased stranger =
      let before = (later part images standing).memory in
      let order = locked_session_orders part (session_then images standing) before sending.wait sending.packet [] locked.shut in
      let judged = only_unlock_is_compared part.last_rate (alert_of images) _ sending.packet (not_found part sending.packet (settings_of images).password stranger) standing sending.wait in
      ap (cut_within part (settings_of images) sending.packet erased before) order
      ∙ cut_by_bit (settings_of images) sending.packet erased before _
      ∙ ap (λ (judged : Judged). pick (is_strike judged.effect) (cut_in_main part (settings_of images).protection erased before) before) judged

  module _ (a b : Images) (standing : Standing) (twins : Twins part sound one other a b) (together : Together part sound a b standing) (windows : a.window ≡ b.window) where
    abbrev pub struck : Bool
    struck = is_struck (alert_of a) standing.wrong

    pub alert_alike : alert_of a ≡ alert_of b
    alert_alike = ap (λ (shown : Shown). shown.alert) twins.alike.shown

    -- what the session leaves where it ends
    leaves_twins : (struck ≡ true → KeepsSettings part sound one other) → Twins part sound one other (later part a standing).memory (later part b standing).memory
    leaves_twins kept =
        subst (λ (alert : ℕ). Twins part sound one other (memory_then part a struck) (memory_then part b (is_struck alert standing.wrong))) alert_alike
        (memory_twins part sound one other a b twins struck kept)

    without_here : (sending : Sending) → NoPassword part one other sending → NoPassword part a b sending
    without_here sending without = rw (twins.one_settings, twins.other_settings) (record { not_one = without.not_one; not_other = without.not_other })

    -- the power goes within a call
    module _ (sending : Sending) (erased : ℕ → Bool) (without : NoPassword part one other sending) where
      abbrev pub strikes : Bool
      strikes = is_strike (verdict part a standing sending).effect

      unfoldable pub cut_on : Images → Memory
      cut_on images = pick strikes (cut_in_main part (settings_of images).protection erased (later part images standing).memory) (later part images standing).memory

      pub one_is_cut : cut_off part (later part a standing) sending erased ≡ cut_on a
      unfolding cut_on
      one_is_cut = cut_of_locked a standing together.one_locked sending erased (without_here sending without).not_one

      pub other_is_cut : cut_off part (later part b standing) sending erased ≡ cut_on b
      unfolding cut_on
      other_is_cut =
          cut_of_locked b standing together.other_locked sending erased (without_here sending without).not_other
          ∙ ap (λ (judged : Judged). pick (is_strike judged.effect) (cut_in_main part (settings_of b).protection erased (later part b standing).memory) (later part b standing).memory)
          (verdict_alike part sound a b twins.alike standing sending)

      cut_leaves_twins : (struck ≡ true → KeepsSettings part sound one other) → Twins part sound one other (cut_on a) (cut_on b)
      unfolding cut_on pick
      cut_leaves_twins kept =
          let then = leaves_twins kept in
          let after_cut = cut_twins part sound one other (later part a standing).memory (later part b standing).memory then erased in
          let one_kept = ap (λ (image : List ℕ). (settings_read image).settings.protection) (then.one_settings ∙ sym twins.one_settings) in
          let other_kept = ap (λ (image : List ℕ). (settings_read image).settings.protection) (then.other_settings ∙ sym twins.other_settings) in
          by_test strikes
          (λ y. rw y
          (subst (λ (bits : List ℕ). Twins part sound one other (cut_in_main part bits erased (later part a standing).memory) (cut_in_main part (settings_of b).protection erased (later part b standing).memory)) one_kept
          (subst (λ (bits : List ℕ). Twins part sound one other (cut_in_main part (settings_of (later part a standing).memory).protection erased (later part a standing).memory) (cut_in_main part bits erased (later part b standing).memory)) other_kept after_cut)))
          (λ n. rw n then)

    on_step : (move : Move) → Without part one other move → Roomy move → (ends_session move ≡ true → struck ≡ true → KeepsSettings part sound one other)
        → Stepped (on (later part a standing)) (on (later part b standing)) move
    on_step (start starting) without room kept =
        let both = started_step starting (later part a standing).memory (later part b standing).memory (leaves_twins (kept refl)) in
        record { seen = both.seen; locked = tt; pair = both.pair }
    on_step (send sending) without room kept =
        let here = without_here sending without in
        let asked : WithoutPassword part a b sending = record { not_one = here.not_one; not_other = here.not_other; one_room = room.one; other_room = room.other } in
        let same = call_alike part sound a b twins.alike standing together sending asked in
        record {
          seen = rw (same.replies, same.answers, same.standing) refl;
          locked = same.locked;
          pair =
              inr (record {
                a = a;
                b = b;
                standing = (decided part sound a b twins.alike standing together sending asked).standing;
                twins = twins;
                together = stay_together part sound a b twins.alike standing together sending asked;
                windows = windows;
                one_is = ap (λ (left : Left). on (next left)) (one_is_lem part sound a b twins.alike standing together sending asked);
                other_is = ap (λ (left : Left). on (next left)) (other_is_lem part sound a b twins.alike standing together sending asked);
              });
        }
    on_step (cut sending erased) without room kept =
        record {
          seen = refl;
          locked = tt;
          pair =
              inl (record {
                a = cut_on sending erased without a;
                b = cut_on sending erased without b;
                twins = cut_leaves_twins sending erased without (kept refl);
                one_is = ap (λ (images : Memory). off images) (one_is_cut sending erased without);
                other_is = ap (λ (images : Memory). off images) (other_is_cut sending erased without);
              });
        }

  -- one move of both
  pub step : (one_now other_now : Now Running) → Pair one_now other_now → (move : Move) → Without part one other move → Roomy move
      → (ends_session move ≡ true → has_struck one_now ≡ true → KeepsSettings part sound one other) → Stepped one_now other_now move
  step one_now other_now pair move without room kept =
      ⊎_elim
      (λ p. rw (p.one_is, p.other_is) (off_step p.a p.b p.twins move))
      (λ p. rw (p.one_is, p.other_is)
      (on_step p.a p.b p.standing p.twins p.together p.windows move without room (λ e s. kept e (ap has_struck p.one_is ∙ s))))
      pair
