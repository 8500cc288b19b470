-- Where a strike, or one that was cut, leaves blank settings beside names in MAIN, the names are read by a person who has no password.
use mathlib.Core.Path.{◌≡◌, refl, sym, ap, ap₂, ◌∙◌}
use mathlib.Core.List.{List, [], ◌∷◌, ◌++◌}
use Prim.Native.Nat.{ℕ, ◌/◌, ◌<◌}
use native.Mathlib.Omega.{arith}
use lib.ListN.{length, get_or, take, replicate}
use Rattle.octets.specs.Choice.{pick}
use Rattle.octets.specs.Number.{number_of, bytes_of, part}
use Rattle.parts.specs.Parts.{mspm0}
use Rattle.line.specs.declared.Reply.TheVariants.{Bytes}
use Rattle.line.specs.Replies.{core_reply, reply_bytes}
use Rattle.settings.specs.Held.{Settings}
use Rattle.settings.specs.Image.{image_of}
use Rattle.settings.specs.Answers.{Numbered, SettingsTold}
use Rattle.flash.specs.Memory.{memory}
use Rattle.flash.specs.Erasing.{erase_all_of}
use Rattle.flash.proofs.ErasingLaws.{erase_all_of_open}
use Rattle.session_judge.specs.Unlocking.{alert_reset}
use Rattle.session_act.specs.Board.{settings_protection}
use Rattle.session_act.specs.Info.{version_at}
use Rattle.claims.specs.TwoBoards.{Images, started, AlikeBoards, called, replied}
use Rattle.claims.specs.Trials.{sector_size, main_size, window_of, chosen_by, written_board, strict_board, connects, unlocks, ran}
use Rattle.claims.proofs.Trials.SomeBoards.{Good, good_read, starts, window_sized, written_is_good, reset_is_good, are_alike}
use Rattle.claims.proofs.Trials.SomeSessions.{none_protected, all_erased, second_erased}
use Rattle.claims.specs.Visits.{Seen}
use Rattle.claims_restarts.specs.Moves.{Sight, now_after, seen_after, Throughout}
use Rattle.claims_restarts.specs.Boards.{fresh, port_one, port_other}
use Rattle.claims_restarts.specs.Returning.{Without}
use Rattle.claims_restarts.specs.Trials.{until_struck, blanked, readable_contents, shown_count, reads_window, opening, exposed_board, settings_first, last_reply}
use Rattle.claims_restarts.proofs.SameBoard.{same_through}
use Rattle.claims_restarts.proofs.Twins.{settings_size_lem}
use Rattle.claims_restarts.proofs.Trials.SomeVisits.{handed, left_then_lem}
use Rattle.claims_restarts.proofs.Trials.Opening.{kept_window_is_read, blank_settings_tell_all}
use Rattle.claims_restarts.proofs.Trials.Strangers.{until_roomy, opening_roomy, until_without, opening_without}

-- ---- a protected sector, and settings that are not protected

module _ (byte main : ℕ) (small : byte < 256) (other : 0x33 ≡ byte → ⊥) where
  abbrev exposed : Images
  exposed = exposed_board byte main

  exposed_is_good : Good exposed (chosen_by alert_reset 1 0 0xFFFF 0 byte)
  exposed_is_good = written_is_good alert_reset 1 0 0xFFFF 0 byte main (omega arith) (omega arith) (omega arith) (omega arith) (omega arith) small

  -- what the strike leaves of MAIN: the first sector
  abbrev kept_main : List ℕ
  kept_main = take sector_size exposed.main ++ replicate sector_size 0xFF

  exposed_is_struck : handed (now_after (port_one mspm0) exposed until_struck) ≡ blanked kept_main
  exposed_is_struck =
      ap (fresh mspm0) (left_then_lem exposed _ exposed_is_good refl other)
      ∙ ap₂ (λ (flash image : List ℕ). memory flash image (blanked kept_main).window) (second_erased exposed.main exposed_is_good.size)
      (all_erased 1 exposed.settings ∙ ap (λ (size : ℕ). replicate size 0xFF) (settings_size_lem mspm0 exposed (starts exposed _ exposed_is_good)))

  -- and its first bytes are read, as they were at first
  pub exposed_is_read : last_reply (seen_after (port_one mspm0) exposed (opening until_struck)) ≡ reply_bytes Bytes (part 0 shown_count exposed.main)
  unfolding written_board
  exposed_is_read =
      blank_settings_tell_all exposed until_struck kept_main refl exposed_is_struck

-- ---- the settings are erased first

module _ (byte main : ℕ) (small : byte < 256) where
  abbrev strict : Images
  strict = strict_board byte main

  settings_are_blank : fresh mspm0 (settings_first strict) ≡ blanked strict.main
  settings_are_blank =
      let good = reset_is_good 0 byte main (omega arith) small in
      ap (λ (settings : List ℕ). memory strict.main settings (blanked strict.main).window)
      (ap (λ (told : SettingsTold). erase_all_of sector_size (settings_protection told.settings.shown) strict.settings) (good_read strict _ good)
      ∙ erase_all_of_open sector_size (0 ∷ []) strict.settings (omega arith) (λ place there. none_protected 1 (place / sector_size))
      ∙ ap (λ (size : ℕ). replicate size 0xFF) (settings_size_lem mspm0 strict (starts strict _ good)))

  pub settings_first_is_read : last_reply (seen_after (port_one mspm0) (settings_first strict) (opening [])) ≡ reply_bytes Bytes (part 0 shown_count strict.main)
  settings_first_is_read =
      blank_settings_tell_all (settings_first strict) [] strict.main (reset_is_good 0 byte main (omega arith) small).size settings_are_blank

-- ---- so boards that are alike are told apart, and nobody sent a password of theirs

-- the fifth byte of MAIN is the tenth of the reply
tenth : (settings : Settings) (byte : ℕ) → get_or (reply_bytes Bytes (part 0 shown_count (written_board settings byte).main)) 9 0 ≡ byte
unfolding reply_bytes core_reply written_board bytes_of
tenth settings byte = refl

-- replies that differ
differ_in_tenth : (one_seen other_seen : List (Sight Numbered Seen)) → get_or (last_reply one_seen) 9 0 ≡ 0x66 → get_or (last_reply other_seen) 9 0 ≡ 0x77 → one_seen ≡ other_seen → ⊥
differ_in_tenth one_seen other_seen one_is other_is same =
    omega (arith, sym one_is ∙ ap (λ (seen : List (Sight Numbered Seen)). get_or (last_reply seen) 9 0) same ∙ other_is)

abbrev one : Images
one = exposed_board 0x11 0x66

abbrev other : Images
other = exposed_board 0x22 0x77

one_good : Good one (chosen_by alert_reset 1 0 0xFFFF 0 0x11)
one_good = exposed_is_good 0x11 0x66 (omega arith) (λ e. omega arith)

other_good : Good other (chosen_by alert_reset 1 0 0xFFFF 0 0x22)
other_good = exposed_is_good 0x22 0x77 (omega arith) (λ e. omega arith)

pub exposed_are_alike : AlikeBoards mspm0 one other
unfolding version_at written_board number_of pick
exposed_are_alike = are_alike one other _ _ one_good other_good refl refl refl

pub exposed_are_without : Throughout (Without mspm0 one other) (opening until_struck)
exposed_are_without =
    opening_without one other _ _ one_good other_good (λ e. omega arith) (λ e. omega arith) until_struck
    (until_without one other _ _ one_good other_good (λ e. omega arith) (λ e. omega arith))

pub exposed_are_told_apart : seen_after (port_one mspm0) one (opening until_struck) ≡ seen_after (port_other mspm0) other (opening until_struck) → ⊥
exposed_are_told_apart same =
    differ_in_tenth _ _
    (ap (λ (reply : List ℕ). get_or reply 9 0) (exposed_is_read 0x11 0x66 (omega arith) (λ e. omega arith)) ∙ tenth _ 0x66)
    (ap (λ (reply : List ℕ). get_or reply 9 0) (exposed_is_read 0x22 0x77 (omega arith) (λ e. omega arith)) ∙ tenth _ 0x77)
    (same ∙ sym (same_through mspm0 other (opening until_struck) (opening_roomy until_struck until_roomy)).0)

-- the strict boards, whose strike was cut with the settings erased and MAIN not
pub settings_first_tells_apart : seen_after (port_one mspm0) (settings_first (strict_board 0x11 0x66)) (opening []) ≡ seen_after (port_other mspm0) (settings_first (strict_board 0x22 0x77)) (opening []) → ⊥
settings_first_tells_apart same =
    differ_in_tenth _ _
    (ap (λ (reply : List ℕ). get_or reply 9 0) (settings_first_is_read 0x11 0x66 (omega arith)) ∙ tenth _ 0x66)
    (ap (λ (reply : List ℕ). get_or reply 9 0) (settings_first_is_read 0x22 0x77 (omega arith)) ∙ tenth _ 0x77)
    (same ∙ sym (same_through mspm0 (settings_first (strict_board 0x22 0x77)) (opening []) (opening_roomy [] tt)).0)

-- ---- the window kept over a restart

-- What is read of a window after the strike, once somebody has programmed readout on and the next start is handed the window as it was: no erase touches
-- it, so what it held at first.
abbrev kept_reply : List ℕ → List ℕ → List ℕ
kept_reply main window =
    replied (called mspm0 (ran (started mspm0 (memory main (image_of readable_contents) window)) (connects ∷ unlocks 0xFF ∷ [])) reads_window reads_window.one_area)

-- the first byte of a window is the sixth of the reply
sixth : (byte : ℕ) → get_or (reply_bytes Bytes (part 0 shown_count (window_of byte))) 5 0 ≡ byte
unfolding reply_bytes core_reply window_of bytes_of
sixth byte = refl

pub kept_window_tells_apart : (main : List ℕ) → length main ≡ main_size → kept_reply main (window_of 0x66) ≡ kept_reply main (window_of 0x77) → ⊥
kept_window_tells_apart main size same =
    omega
    (arith, sym (sixth 0x66) ∙ ap (λ (reply : List ℕ). get_or reply 5 0) (sym (kept_window_is_read main (window_of 0x66) size (window_sized 0x66)) ∙ same ∙ kept_window_is_read main (window_of 0x77) size (window_sized 0x77)) ∙ sixth 0x77)
