-- T-12: before the alert strikes every session begins from images that are alike; after it both boards are one and the same.
use mathlib.Core.Path.{◌≡◌, refl, sym, ap, ap₂, ◌∙◌}
use mathlib.Core.Logic.{⊎_elim}
use mathlib.Core.Bool.{true, false, true≢false}
use mathlib.Core.List.{List, [], ◌∷◌}
use Prim.Native.Nat.{ℕ, zero, suc, ◌≤◌}
use native.Mathlib.Omega.{arith}
use borrow.Author.Tests.{eqb-true}
use Rattle.octets.specs.Choice.{pick}
use Rattle.octets.proofs.Searching.{pick_true, pick_false, pick_both, by_test}
use Rattle.parts.specs.declared.Part.{Part}
use Rattle.parts.specs.Parts.{mspm0, am13e230x, Sound}
use Rattle.parts.proofs.PartLaws.{mspm0_is_sound, am13e230x_is_sound}
use Rattle.settings.specs.Answers.{Numbered}
use Rattle.flash.specs.Memory.{Memory}
use Rattle.session_judge.specs.Unlocking.{alert_reset}
use Rattle.claims.specs.TwoBoards.{Images, Running, settings_of, AlikeBoards, is_struck}
use Rattle.claims.specs.Visits.{Seen}
use Rattle.claims_restarts.specs.Moves.{Move, ends_session, Now, Sight, Port, moved, sight, now_after, seen_after, chosen, SeenAlike, AlikeToPerson, Throughout}
use Rattle.claims_restarts.specs.Boards.{port_one, port_other, has_struck, is_over}
use Rattle.claims_restarts.specs.Returning.{Without, Roomy, WithoutUntilOver, OpenSectors, OpenSettings, Returning, Alike, Requested, Person, AlikeTo, history_of, Advised, UntilStruck, StaysLocked, AlikeAndLocked}
use Rattle.claims_restarts.proofs.SameBoard.{same_stays}
use Rattle.claims_restarts.proofs.Twins.{KeepsSettings}
use Rattle.claims_restarts.proofs.Pairs.{Pair, first_pair, step}
use Rattle.claims_restarts.proofs.Struck.{strike_ends_same}

-- ---- a person who chooses by what was seen

-- where every history that is asked for is seen alike, so is that of every person, however boards are called
module _ {Running Told Seen : Type 0} (one_port other_port : Port Running Told Seen) (one other : Memory) (Asked : List Move → Type 0)
    (before : (move : Move) (earlier : List Move) → Asked (move ∷ earlier) → Asked earlier)
    (alike : (history : List Move) → Asked history → SeenAlike one_port other_port one other history) (person : List (Sight Told Seen) → Move)
  where
    pub any_person : (moves : ℕ) → Asked (chosen one_port person one moves) → AlikeToPerson one_port other_port one other person moves
    any_person zero asked = record { history = refl; seen = refl }
    any_person (suc moves) asked =
        let so = any_person moves (before _ _ asked) in
        let same = ap₂ (λ (move : Move) (earlier : List Move). move ∷ earlier) (ap person so.seen) so.history in
        record { history = same; seen = (alike _ asked).seen ∙ ap (seen_after other_port other) same }

-- what is asked of a history is asked of each beginning of it
pub returning_before : (part : Part) (one other : Images) (move : Move) (earlier : List Move) → Returning part one other (move ∷ earlier) → Returning part one other earlier
returning_before part one other move earlier asked =
    record { boards = asked.boards; sectors = asked.sectors; settings = asked.settings; room = asked.room.1; without = asked.without.1 }

module _ (part : Part) (sound : Sound part) (one other : Images) where
  abbrev one_after : List Move → Now Running
  one_after history = now_after (port_one part) one history

  abbrev other_after : List Move → Now Running
  other_after history = now_after (port_other part) other history

  -- what is seen of one more move
  seen_further : (move : Move) (earlier : List Move) → sight (port_one part) (one_after earlier) move ≡ sight (port_other part) (other_after earlier) move
      → seen_after (port_one part) one earlier ≡ seen_after (port_other part) other earlier
      → seen_after (port_one part) one (move ∷ earlier) ≡ seen_after (port_other part) other (move ∷ earlier)
  seen_further move earlier here so = ap₂ (λ (last : Sight Numbered Seen) (seen : List (Sight Numbered Seen)). last ∷ seen) here so

  -- ---- the question

  -- alike until the session has ended in which the alert struck, and the same from then on
  record Held (history : List Move) : Type 0 where
    seen : seen_after (port_one part) one history ≡ seen_after (port_other part) other history
    pair : is_over part one history ≡ false → Pair part sound one other (one_after history) (other_after history)
    same : is_over part one history ≡ true → one_after history ≡ other_after history

  module _ (boards : AlikeBoards part one other)
      (sectors : OpenSectors part one)
      (open_settings : OpenSettings one)
    where
      held : (history : List Move) → Throughout Roomy history → WithoutUntilOver part one other history → Held history
      unfolding is_over
      held [] room without = record { seen = refl; pair = λ e. first_pair part sound one other boards; same = λ e. absurd (true≢false (sym e)) }
      held (move ∷ earlier) room without =
          let so = held earlier room.1 without.1 in
          let ends = pick (ends_session move) (has_struck (one_after earlier)) false in
          by_test (is_over part one earlier)
          (λ over.
          let now = so.same over in
          let here = same_stays part (one_after earlier) move room.0 in
          record {
            seen = seen_further move earlier (here.0 ∙ ap (λ (now : Now Running). sight (port_other part) now move) now) so.seen;
            pair = λ e. absurd (true≢false (sym (pick_true true ends over) ∙ e));
            same = λ e. here.1 ∙ ap (λ (now : Now Running). moved (port_other part) now move) now;
          })
          (λ before.
          by_test ends
          (λ y.
          let both = pick_both _ _ y in
          let here = strike_ends_same part sound one other sectors open_settings _ _ (so.pair before) both.1 move (without.0 before) both.0 in
          record {
            seen = seen_further move earlier here.0 so.seen;
            pair = λ e. absurd (true≢false (sym (pick_false true ends before ∙ y) ∙ e));
            same = λ e. here.1;
          })
          (λ n.
          let here =
          step part sound one other _ _ (so.pair before) move (without.0 before) room.0
          (λ e struck. absurd (true≢false (sym (pick_true (has_struck (one_after earlier)) false e ∙ struck) ∙ n))) in
          record {
            seen = seen_further move earlier here.seen so.seen;
            pair = λ e. here.pair;
            same = λ e. absurd (true≢false (sym e ∙ (pick_false true ends before ∙ n)));
          }))

  -- "Every reply is alike, and after that session stays alike even when later Unlocks succeed."
  pub boards_stay_alike : (history : List Move) → Returning part one other history → Alike part one other history
  boards_stay_alike history asked =
      record { seen = (held asked.boards asked.sectors asked.settings history asked.room asked.without).seen }

  pub no_returning_person_tells_boards_apart : (person : Person) (moves : ℕ) → Returning part one other (history_of part one person moves) → AlikeTo part one other person moves
  no_returning_person_tells_boards_apart person = any_person (port_one part) (port_other part) one other (Returning part one other) (returning_before part one other) boards_stay_alike person

  -- ---- boards that never unlock

  record HeldLocked (history : List Move) : Type 0 where
    seen : seen_after (port_one part) one history ≡ seen_after (port_other part) other history
    locked : StaysLocked (seen_after (port_one part) one history)
    pair : Pair part sound one other (one_after history) (other_after history)

  -- as long as no session ends that was struck, but where the settings outlast it
  module _ (boards : AlikeBoards part one other) (Asked : List Move → Type 0)
      (before : (move : Move) (earlier : List Move) → Asked (move ∷ earlier) → Asked earlier)
      (kept : (move : Move) (earlier : List Move) → Asked (move ∷ earlier) → Pair part sound one other (one_after earlier) (other_after earlier)
      → ends_session move ≡ true → has_struck (one_after earlier) ≡ true → KeepsSettings part sound one other)
    where
      held_locked : (history : List Move) → Asked history → Throughout Roomy history → Throughout (Without part one other) history → HeldLocked history
      held_locked [] asked room without = record { seen = refl; locked = tt; pair = first_pair part sound one other boards }
      held_locked (move ∷ earlier) asked room without =
          let so = held_locked earlier (before move earlier asked) room.1 without.1 in
          let here = step part sound one other _ _ so.pair move without.0 room.0 (kept move earlier asked so.pair) in
          record { seen = seen_further move earlier here.seen so.seen; locked = (here.locked, so.locked); pair = here.pair }

  -- a board whose alert has struck has it set to reset
  struck_resets : (one_now other_now : Now Running) → Pair part sound one other one_now other_now → has_struck one_now ≡ true → (settings_of one).shown.alert ≡ alert_reset
  unfolding is_struck
  struck_resets one_now other_now pair struck =
      ⊎_elim
      (λ p. absurd (true≢false (sym struck ∙ ap has_struck p.one_is)))
      (λ p. rw (sym p.twins.one_settings) (eqb-true _ _ (pick_both _ _ (sym (ap has_struck p.one_is) ∙ struck)).0))
      pair

  pub advised_boards_stay_alike : part.settings_size ≤ part.sector_size → (history : List Move) → Advised part one other history → AlikeAndLocked part one other history
  advised_boards_stay_alike one_sector history asked =
      let so =
      held_locked asked.boards (λ history. Unit) (λ move earlier u. tt)
      (λ move earlier u pair ends struck. record { bit = asked.kept (struck_resets _ _ pair struck); one_sector = one_sector }) history tt asked.room asked.without in
      record { seen = so.seen; locked = so.locked }

  -- what is not over was not over before, and did not end a session that was struck
  not_over_before : (move : Move) (earlier : List Move) → is_over part one (move ∷ earlier) ≡ false
      → (is_over part one earlier ≡ false) × (ends_session move ≡ true → has_struck (one_after earlier) ≡ true → ⊥)
  unfolding is_over
  not_over_before move earlier e =
      by_test (is_over part one earlier)
      (λ y. absurd (true≢false (sym (pick_true _ _ y) ∙ e)))
      (λ n. (n, λ ends struck. true≢false (sym (pick_false true _ n ∙ pick_true (has_struck (one_after earlier)) false ends ∙ struck) ∙ e)))

  pub any_boards_are_alike_until_struck : (history : List Move) → UntilStruck part one other history → AlikeAndLocked part one other history
  any_boards_are_alike_until_struck history asked =
      let so =
      held_locked asked.boards (λ history. is_over part one history ≡ false) (λ move earlier e. (not_over_before move earlier e).0)
      (λ move earlier e pair ends struck. absurd ((not_over_before move earlier e).1 ends struck)) history asked.before asked.room asked.without in
      record { seen = so.seen; locked = so.locked }

  pub no_returning_person_tells_advised_boards_apart : part.settings_size ≤ part.sector_size → (person : Person) (moves : ℕ) → Advised part one other (history_of part one person moves)
      → AlikeTo part one other person moves
  no_returning_person_tells_advised_boards_apart one_sector person =
      any_person (port_one part) (port_other part) one other (Advised part one other)
      (λ move earlier asked. record { boards = asked.boards; kept = asked.kept; room = asked.room.1; without = asked.without.1 })
      (λ history asked. record { seen = (advised_boards_stay_alike one_sector history asked).seen }) person

-- ---- two boards of the MSPM0

module _ (one other : Images) where
  -- T-12, as a whole
  pub mspm0_boards_stay_alike : (history : List Move) → Returning mspm0 one other history → Alike mspm0 one other history
  mspm0_boards_stay_alike = boards_stay_alike mspm0 mspm0_is_sound one other

  -- the request's own sentence
  pub the_question_over_restarts : (history : List Move) → Requested mspm0 one other history → Alike mspm0 one other history
  the_question_over_restarts history asked = mspm0_boards_stay_alike history asked.returning

  -- for a person who chooses each packet, wait and restart by the replies so far
  pub no_returning_person_tells_mspm0_boards_apart : (person : Person) (moves : ℕ) → Returning mspm0 one other (history_of mspm0 one person moves)
      → AlikeTo mspm0 one other person moves
  no_returning_person_tells_mspm0_boards_apart = no_returning_person_tells_boards_apart mspm0 mspm0_is_sound one other

  -- the board as we advise it
  pub advised_mspm0_boards_stay_alike : (history : List Move) → Advised mspm0 one other history → AlikeAndLocked mspm0 one other history
  advised_mspm0_boards_stay_alike = advised_boards_stay_alike mspm0 mspm0_is_sound one other (omega arith)

  -- any board, until the session has ended in which the alert first strikes
  pub any_mspm0_boards_are_alike_until_struck : (history : List Move) → UntilStruck mspm0 one other history → AlikeAndLocked mspm0 one other history
  any_mspm0_boards_are_alike_until_struck = any_boards_are_alike_until_struck mspm0 mspm0_is_sound one other

-- ---- two boards of the AM13E230x, whose window has no bytes

module _ (one other : Images) where
  -- T-12, as a whole
  pub am13e230x_boards_stay_alike : (history : List Move) → Returning am13e230x one other history → Alike am13e230x one other history
  am13e230x_boards_stay_alike = boards_stay_alike am13e230x am13e230x_is_sound one other

  -- the request's own sentence
  pub the_question_over_am13e230x_restarts : (history : List Move) → Requested am13e230x one other history → Alike am13e230x one other history
  the_question_over_am13e230x_restarts history asked = am13e230x_boards_stay_alike history asked.returning

  -- for a person who chooses each packet, wait and restart by the replies so far
  pub no_returning_person_tells_am13e230x_boards_apart : (person : Person) (moves : ℕ) → Returning am13e230x one other (history_of am13e230x one person moves)
      → AlikeTo am13e230x one other person moves
  no_returning_person_tells_am13e230x_boards_apart = no_returning_person_tells_boards_apart am13e230x am13e230x_is_sound one other

  -- the board as we advise it
  pub advised_am13e230x_boards_stay_alike : (history : List Move) → Advised am13e230x one other history → AlikeAndLocked am13e230x one other history
  advised_am13e230x_boards_stay_alike = advised_boards_stay_alike am13e230x am13e230x_is_sound one other (omega arith)

  -- any board, until the session has ended in which the alert first strikes
  pub any_am13e230x_boards_are_alike_until_struck : (history : List Move) → UntilStruck am13e230x one other history → AlikeAndLocked am13e230x one other history
  any_am13e230x_boards_are_alike_until_struck = any_boards_are_alike_until_struck am13e230x am13e230x_is_sound one other
