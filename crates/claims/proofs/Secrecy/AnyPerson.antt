-- Demand 3 for a person who chooses each wait and packet by the replies so far. As long as the replies are the same, so is what is chosen, and so are
-- the next replies: the boards are alike whatever list of calls follows.
use mathlib.Core.Path.{◌≡◌, refl, sym, ap, subst, ◌∙◌}
use mathlib.Core.Bool.{false}
use mathlib.Core.List.{List, [], ◌∷◌}
use Prim.Native.Nat.{ℕ, zero, suc}
use Rattle.parts.specs.declared.Part.{Part}
use Rattle.parts.specs.Parts.{mspm0, am13e230x, Sound}
use Rattle.parts.proofs.PartLaws.{mspm0_is_sound, am13e230x_is_sound}
use Rattle.session_state.specs.Phases.{at_start}
use Rattle.session.specs.Starting.{start_of}
use Rattle.claims.specs.TwoBoards.{Images, Running, started, AlikeBoards, Sending, WithoutPassword, called, next, Flash, AlikeThroughout}
use Rattle.claims.specs.TwoBoardsFromC.{RunningFromC, started_from_c, Lent, called_from_c, next_from_c, lock_in, wrong_in, AlikeCallsFromC, AlikeSessionsFromC}
use Rattle.claims.specs.Visits.{Person, Step, Visit, visited, AllWithout, AlikeVisits, Seen, step_of, visit_one, visit_other, StandAlike, SeenFromC, step_from_c, visit_one_from_c, visit_other_from_c, StandAlikeFromC}
use Rattle.claims.proofs.Secrecy.LockedBoard.{later, flash_is_as_claimed, started_is_later, started_is_locked}
use Rattle.claims.proofs.Secrecy.ToldApart.{two_boards_are_alike}
use Rattle.claims.proofs.Secrecy.ToldApartFromC.{from_c, lock_is_0, wrong_is, started_from_c_lem, two_boards_are_alike_from_c}

module _ (part : Part) (sound : Sound part) where
  -- ---- boards that are alike and stay so by every call without a password, however they are called

  module _ (one other : Images) {Board Seen : Type 0} (call_one call_other : Board → Sending → Step Board Seen) (Pair : Board → Board → Type 0)
      (stays : (one_now other_now : Board) → Pair one_now other_now → (sending : Sending) → WithoutPassword part one other sending
      → Pair (call_one one_now sending).board (call_other other_now sending).board × ((call_one one_now sending).seen ≡ (call_other other_now sending).seen))
    where
      any_visit : (person : Person Seen) (one_now other_now : Board) → Pair one_now other_now → (calls : ℕ)
          → AllWithout part one other (visited call_one person one_now calls).sent
          → AlikeVisits Pair (visited call_one person one_now calls) (visited call_other person other_now calls)
      any_visit person one_now other_now pair zero without = record { sent = refl; seen = refl; boards = pair }
      any_visit person one_now other_now pair (suc calls) without =
          let before : Visit Board Seen = visited call_one person one_now calls in
          let so = any_visit person one_now other_now pair calls without.1 in
          let after = stays _ _ so.boards (person before.seen) without.0 in
          rw (← so.seen)
          (record {
            sent = ap (λ (sent : List Sending). person before.seen ∷ sent) so.sent;
            seen = ap (λ (last : Seen). last ∷ before.seen) after.1;
            boards = after.0;
          })

  -- ---- by value

  module _ (one other : Images) where
    -- two boards that are alike now, and after any list of calls
    record Pair (one_now other_now : Running) : Type 0 where
      here : StandAlike part one other one_now other_now
      later : (sendings : List Sending) → AlikeThroughout part one other one_now other_now sendings

    -- a call without a password leaves such a pair
    pair_stays : (one_now other_now : Running) → Pair one_now other_now → (sending : Sending) → WithoutPassword part one other sending
        → Pair (next (called part one_now sending sending.one_area)) (next (called part other_now sending sending.other_area))
        × ((step_of (called part one_now sending sending.one_area)).seen ≡ (step_of (called part other_now sending sending.other_area)).seen)
    pair_stays one_now other_now pair sending without =
        let alike = (pair.later (sending ∷ []) without).0 in (
          record {
            here = record { standing = alike.standing; locked = alike.locked; one_flash = alike.one_flash; other_flash = alike.other_flash };
            later = λ sendings. (pair.later (sending ∷ sendings) without).1;
          },
          rw (alike.replies, alike.answers, alike.standing),
        )

  -- whoever stands at the port: where no packet of the visit to the one board carries a password of the two, the visit to the other is the same,
  -- after any number of calls
  pub no_person_tells_boards_apart : (one other : Images) → AlikeBoards part one other → (person : Person Seen) (calls : ℕ)
      → AllWithout part one other (visit_one part person one calls).sent
      → AlikeVisits (StandAlike part one other) (visit_one part person one calls) (visit_other part person other calls)
  no_person_tells_boards_apart one other alike person calls without =
      let visits = any_visit one other _ _ (Pair one other) (pair_stays one other) person (started part one) (started part other) at_start_lem calls without in
      record { sent = visits.sent; seen = visits.seen; boards = visits.boards.here }
    where
      at_start_lem : Pair one other (started part one) (started part other)
      at_start_lem = record {
        here =
            rw (started_is_later part one alike.one_starts, started_is_later part other alike.other_starts)
            (record {
              standing = refl;
              locked = (started_is_locked part one alike.one_starts).shut;
              one_flash = flash_is_as_claimed part one at_start;
              other_flash = flash_is_as_claimed part other at_start;
            });
        later = two_boards_are_alike part sound one other alike;
      }

  -- ---- from C

  module _ (one other : Images) where
    record PairFromC (one_now other_now : RunningFromC) : Type 0 where
      here : StandAlikeFromC part one other one_now other_now
      later : (sendings : List Sending) → AlikeCallsFromC part one other one_now other_now sendings

    pair_stays_from_c : (one_now other_now : RunningFromC) → PairFromC one_now other_now → (sending : Sending) → WithoutPassword part one other sending
        → PairFromC (next_from_c (called_from_c part one_now sending sending.one_area)) (next_from_c (called_from_c part other_now sending sending.other_area))
        × ((step_from_c (called_from_c part one_now sending sending.one_area)).seen ≡ (step_from_c (called_from_c part other_now sending sending.other_area)).seen)
    pair_stays_from_c one_now other_now pair sending without =
        let alike = (pair.later (sending ∷ []) without).0 in (
          record {
            here = record { stands = alike.stands; locked = alike.locked; one_flash = alike.one_flash; other_flash = alike.other_flash };
            later = λ sendings. (pair.later (sending ∷ sendings) without).1;
          },
          rw (alike.replies, alike.answers, alike.stands),
        )

  -- a board that starts: its record says that it is locked, and its flash is as claimed
  module _ (images : Images) (area : List ℕ) (lent : Lent part images area) (starts : (start_of part false images.main images.settings images.window).answer.number ≡ 0) where
    starts_as_claimed : (lock_in (started_from_c part images area).area ≡ 0) × Flash part images (wrong_in (started_from_c part images area).area) (started_from_c part images area).memory
    starts_as_claimed =
        subst (λ (board : RunningFromC). (lock_in board.area ≡ 0) × Flash part images (wrong_in board.area) board.memory)
        (sym (started_from_c_lem part sound images area lent starts ∙ ap (from_c part) (started_is_later part images starts)))
        (lock_is_0 part (later part images at_start).session (started_is_locked part images starts).shut, subst (λ (wrong : ℕ). Flash part images wrong (later part images at_start).memory) (sym (wrong_is part (later part images at_start).session)) (flash_is_as_claimed part images at_start))

  pub no_person_tells_boards_apart_from_c : (one other : Images) (one_area other_area : List ℕ) → AlikeBoards part one other → Lent part one one_area → Lent part other other_area
      → (person : Person SeenFromC) (calls : ℕ) → AllWithout part one other (visit_one_from_c part person one one_area calls).sent
      → AlikeVisits (StandAlikeFromC part one other) (visit_one_from_c part person one one_area calls) (visit_other_from_c part person other other_area calls)
  no_person_tells_boards_apart_from_c one other one_area other_area alike one_lent other_lent person calls without =
      let visits =
      any_visit one other _ _ (PairFromC one other) (pair_stays_from_c one other) person (started_from_c part one one_area) (started_from_c part other other_area) at_start_lem calls without in
      record { sent = visits.sent; seen = visits.seen; boards = visits.boards.here }
    where
      session : (sendings : List Sending) → AlikeSessionsFromC part one other one_area other_area sendings
      session = two_boards_are_alike_from_c part sound one other one_area other_area alike one_lent other_lent

      at_start_lem : PairFromC one other (started_from_c part one one_area) (started_from_c part other other_area)
      at_start_lem = record {
        here = record {
          stands = (session []).stands;
          locked = (starts_as_claimed one one_area one_lent alike.one_starts).0;
          one_flash = (starts_as_claimed one one_area one_lent alike.one_starts).1;
          other_flash = (starts_as_claimed other other_area other_lent alike.other_starts).1;
        };
        later = λ sendings. (session sendings).calls;
      }

-- ---- two boards of the MSPM0

pub no_person_tells_mspm0_boards_apart : (one other : Images) → AlikeBoards mspm0 one other → (person : Person Seen) (calls : ℕ)
    → AllWithout mspm0 one other (visit_one mspm0 person one calls).sent
    → AlikeVisits (StandAlike mspm0 one other) (visit_one mspm0 person one calls) (visit_other mspm0 person other calls)
no_person_tells_mspm0_boards_apart = no_person_tells_boards_apart mspm0 mspm0_is_sound

pub no_person_tells_mspm0_boards_apart_from_c : (one other : Images) (one_area other_area : List ℕ) → AlikeBoards mspm0 one other → Lent mspm0 one one_area → Lent mspm0 other other_area
    → (person : Person SeenFromC) (calls : ℕ) → AllWithout mspm0 one other (visit_one_from_c mspm0 person one one_area calls).sent
    → AlikeVisits (StandAlikeFromC mspm0 one other) (visit_one_from_c mspm0 person one one_area calls) (visit_other_from_c mspm0 person other other_area calls)
no_person_tells_mspm0_boards_apart_from_c = no_person_tells_boards_apart_from_c mspm0 mspm0_is_sound

-- ---- two boards of the AM13E230x

pub no_person_tells_am13e230x_boards_apart : (one other : Images) → AlikeBoards am13e230x one other → (person : Person Seen) (calls : ℕ)
    → AllWithout am13e230x one other (visit_one am13e230x person one calls).sent
    → AlikeVisits (StandAlike am13e230x one other) (visit_one am13e230x person one calls) (visit_other am13e230x person other calls)
no_person_tells_am13e230x_boards_apart = no_person_tells_boards_apart am13e230x am13e230x_is_sound

pub no_person_tells_am13e230x_boards_apart_from_c : (one other : Images) (one_area other_area : List ℕ) → AlikeBoards am13e230x one other
    → Lent am13e230x one one_area → Lent am13e230x other other_area
    → (person : Person SeenFromC) (calls : ℕ) → AllWithout am13e230x one other (visit_one_from_c am13e230x person one one_area calls).sent
    → AlikeVisits (StandAlikeFromC am13e230x one other) (visit_one_from_c am13e230x person one one_area calls) (visit_other_from_c am13e230x person other other_area calls)
no_person_tells_am13e230x_boards_apart_from_c = no_person_tells_boards_apart_from_c am13e230x am13e230x_is_sound
