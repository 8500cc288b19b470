-- Demand 3 speaks of boards that there are and of sessions in which the alert strikes, and without its exclusion of passwords it is false.
use mathlib.Core.Path.{◌≡◌, refl, sym, ap, ◌∙◌}
use mathlib.Core.Bool.{true, false, true≢false}
use mathlib.Core.List.{List}
use Prim.Native.Nat.{ℕ, ◌≤◌}
use native.Mathlib.Omega.{arith}
use lib.ListN.{get_or, replicate}
use Rattle.octets.specs.Choice.{pick}
use Rattle.octets.specs.Number.{bytes_of}
use Rattle.parts.specs.Parts.{mspm0}
use Rattle.settings.specs.Layout.{table_of, pairs_of}
use Rattle.settings.specs.Image.{image_of}
use Rattle.line.specs.Codes.{success, password_wrong}
use Rattle.line.specs.declared.Reply.TheVariants.{Message}
use Rattle.session_state.specs.declared.Standing.{Standing}
use Rattle.session_state.specs.Phases.{is_unlocked}
use Rattle.settings.specs.Values.{blank_settings}
use Rattle.claims.specs.TwoBoards.{Images, started, AlikeBoards, WithoutPassword, replied}
use Rattle.claims.specs.Visits.{AllWithout, visit_one}
use Rattle.claims.specs.Trials.{sector_size, blank_board, written_board, quiet_board, reset_board, strict_board, guarded_board, named_strict, name_of, form_of, Differ, second_ff, all_ff, connects, unlocks, two_guesses, three_guesses, guesser, ran, to_blank_password}
use Rattle.session_judge.specs.Judgement.{says}
use Rattle.session_judge.specs.Unlocking.{after_right, counted_up, after_wrong, asleep, tried_wrong, tried}
use Rattle.session.specs.CallAnswers.{Left}
use Rattle.octets.specs.Alike.{are_same}
use Rattle.session.specs.Calling.{followed}
use Rattle.octets.proofs.AlikeLaws.{equal_are_same}
use Rattle.claims.proofs.Secrecy.LockedBoard.{session_then, later}
use Rattle.claims.proofs.Trials.SomePackets.{stood}
use Rattle.claims.proofs.Trials.SomeBoards.{blank_is_good, quiet_is_good, reset_is_good, blank_and_quiet_are_alike, blank_and_quiet_differ, reset_are_alike, reset_differ, named_are_alike, names_differ, both_forms_are_alike, forms_differ}
use Rattle.claims.proofs.Trials.SomeSessions.{room, connect_is_strange, unlock_is_strange, unlock_is_tried, message_is_sixth, two_guesses_keep, three_guesses_erase, three_guesses_keep}

-- ---- there are boards that are alike, and differ in both passwords and both images

abbrev quiet : Images
quiet = quiet_board 0 0

abbrev one_strict : Images
one_strict = strict_board 0x11 0x66

abbrev other_strict : Images
other_strict = strict_board 0x22 0x77

pub blank_and_quiet : AlikeBoards mspm0 blank_board quiet × Differ blank_board quiet
blank_and_quiet = (blank_and_quiet_are_alike, blank_and_quiet_differ)

-- ---- T-09, "the name is a third secret": there are such boards with two names, and in both forms

pub two_named : AlikeBoards mspm0 (named_strict 0x41 0x11 0x66) (named_strict 0x42 0x22 0x77) × (name_of (named_strict 0x41 0x11 0x66) ≡ name_of (named_strict 0x42 0x22 0x77) → ⊥)
two_named = (named_are_alike, names_differ)

pub one_named : AlikeBoards mspm0 one_strict (named_strict 0x42 0x22 0x77) × (form_of one_strict ≡ form_of (named_strict 0x42 0x22 0x77) → ⊥)
one_named = (both_forms_are_alike, forms_differ)

-- ---- the alert strikes in a session without a password: all is erased that was there

-- a session of Connect and three guesses; passwords that do not begin with 0x33 are not in it
module _ (guard : ℕ) (bit : guard ≤ 1) where
  abbrev one : Images
  one = reset_board guard 0x11 0x66

  abbrev other : Images
  other = reset_board guard 0x22 0x77

  connect_without : WithoutPassword mspm0 one other connects
  connect_without = record {
    not_one = connect_is_strange one _ (reset_is_good guard 0x11 0x66 bit (omega arith));
    not_other = connect_is_strange other _ (reset_is_good guard 0x22 0x77 bit (omega arith));
    one_room = room 0;
    other_room = room 0xFF;
  }

  guess_without : WithoutPassword mspm0 one other (unlocks 0x33)
  guess_without = record {
    not_one = unlock_is_strange one _ (reset_is_good guard 0x11 0x66 bit (omega arith)) 0x33 (λ e. omega arith);
    not_other = unlock_is_strange other _ (reset_is_good guard 0x22 0x77 bit (omega arith)) 0x33 (λ e. omega arith);
    one_room = room 0;
    other_room = room 0xFF;
  }

  -- no packet of the session carries a password
  pub guesses_are_without : AllWithout mspm0 one other three_guesses
  guesses_are_without = (connect_without, (guess_without, (guess_without, (guess_without, tt))))

  -- and so for a person who guesses: four calls are that session, and what they sent has no password
  pub guesser_is_without : AllWithout mspm0 one other (visit_one mspm0 guesser one 4).sent × ((visit_one mspm0 guesser one 4).board ≡ ran (started mspm0 one) three_guesses)
  guesser_is_without = ((guess_without, (guess_without, (guess_without, (connect_without, tt)))), refl)

pub two_strict : AlikeBoards mspm0 one_strict other_strict × Differ one_strict other_strict
two_strict = (reset_are_alike 0 (omega arith), reset_differ 0 (omega arith))

-- after two guesses all is as at the start, and after three every byte is 0xFF
pub two_guesses_erase_nothing : ((ran (started mspm0 one_strict) two_guesses).memory ≡ one_strict) × ((ran (started mspm0 other_strict) two_guesses).memory ≡ other_strict)
two_guesses_erase_nothing = (
  two_guesses_keep one_strict _ (reset_is_good 0 0x11 0x66 (omega arith) (omega arith)) refl (λ e. omega arith),
  two_guesses_keep other_strict _ (reset_is_good 0 0x22 0x77 (omega arith) (omega arith)) refl (λ e. omega arith),
)

pub guesses_erase : ((ran (started mspm0 one_strict) three_guesses).memory ≡ all_ff one_strict) × ((ran (started mspm0 other_strict) three_guesses).memory ≡ all_ff other_strict)
guesses_erase = (three_guesses_erase 0x11 0x66 (omega arith) (λ e. omega arith), three_guesses_erase 0x22 0x77 (omega arith) (λ e. omega arith))

-- which they were not before
pub there_was_something : (one_strict ≡ all_ff one_strict → ⊥) × (other_strict ≡ all_ff other_strict → ⊥)
unfolding written_board
there_was_something =
    (λ e. omega (arith, ap (λ (images : Images). get_or images.main 0 0) e), λ e. omega (arith, ap (λ (images : Images). get_or images.main 0 0) e))

-- ---- and where the first sector and the settings are protected, they are kept

abbrev one_guarded : Images
one_guarded = guarded_board 0x11 0x66

abbrev other_guarded : Images
other_guarded = guarded_board 0x22 0x77

pub two_guarded : AlikeBoards mspm0 one_guarded other_guarded × Differ one_guarded other_guarded
two_guarded = (reset_are_alike 1 (omega arith), reset_differ 1 (omega arith))

-- after the same session the second sector is 0xFF, and all else is as at the start
pub guesses_keep_protected : ((ran (started mspm0 one_guarded) three_guesses).memory ≡ second_ff one_guarded)
    × ((ran (started mspm0 other_guarded) three_guesses).memory ≡ second_ff other_guarded)
guesses_keep_protected =
    (three_guesses_keep 0x11 0x66 (omega arith) (λ e. omega arith), three_guesses_keep 0x22 0x77 (omega arith) (λ e. omega arith))

-- which was not 0xFF: the first bytes of the first sector, of the second, and of the settings
pub each_held_something : (password byte : ℕ)
    → (get_or (guarded_board password byte).main 0 0 ≡ 0x55)
    × (get_or (guarded_board password byte).main sector_size 0 ≡ byte)
    × (get_or (guarded_board password byte).settings 0 0 ≡ 1)
unfolding written_board image_of pairs_of table_of bytes_of
each_held_something password byte = (refl, refl, refl)

-- ---- with the password of one of them, boards that are alike can be told apart

-- a board once its caller was told a message
abbrev told : Images → Standing → ℕ → Left
told images standing code =
    followed mspm0 (session_then images (stood 0 0)) (later mspm0 images (stood 0 0)).memory (unlocks 0xFF).packet (unlocks 0xFF).one_area
    (says standing (Message code))

blank_opens : to_blank_password blank_board ≡ told blank_board (after_right (stood 0 0)) success
unfolding tried pick
blank_opens = unlock_is_tried blank_board blank_settings blank_is_good 0xFF (omega arith) true (equal_are_same (replicate 32 0xFF))

quiet_refuses : to_blank_password quiet ≡ told quiet (after_wrong (stood 0 0) asleep) password_wrong
unfolding are_same tried tried_wrong counted_up pick
quiet_refuses = unlock_is_tried quiet _ (quiet_is_good 0 0 (omega arith)) 0xFF (omega arith) false refl

-- the message is the sixth byte
message_told : (images : Images) (standing : Standing) (code : ℕ) → to_blank_password images ≡ told images standing code
    → get_or (replied (to_blank_password images)) 5 0 ≡ code
message_told images standing code e =
    ap (λ (left : Left). get_or (replied left) 5 0) e
    ∙ message_is_sixth (session_then images (stood 0 0)) (later mspm0 images (stood 0 0)).memory 0xFF code standing

-- 00 and 02 are told, and one is unlocked
pub replies_differ : replied (to_blank_password blank_board) ≡ replied (to_blank_password quiet) → ⊥
replies_differ same =
    omega
    (arith, sym (message_told blank_board _ success blank_opens) ∙ ap (λ (bytes : List ℕ). get_or bytes 5 0) same ∙ message_told quiet _ password_wrong quiet_refuses)

pub standings_differ : (to_blank_password blank_board).session.standing ≡ (to_blank_password quiet).session.standing → ⊥
standings_differ same =
    true≢false
    (sym (ap (λ (left : Left). is_unlocked left.session.standing.phase) blank_opens)
    ∙ ap (λ (standing : Standing). is_unlocked standing.phase) same
    ∙ ap (λ (left : Left). is_unlocked left.session.standing.phase) quiet_refuses)
