-- Demand 3 as C sees it speaks of boards that there are: those whose alert resets, which differ in both passwords and both images.
use mathlib.Core.Path.{◌≡◌}
use mathlib.Core.List.{List}
use Prim.Native.Nat.{ℕ, ◌≤◌, ◌<◌}
use native.Mathlib.Omega.{arith}
use lib.ListN.{length}
use Rattle.parts.specs.Parts.{mspm0}
use Rattle.parts.proofs.PartLaws.{mspm0_is_sound}
use Rattle.settings.specs.declared.Form.TheVariants.{One}
use Rattle.settings.specs.Values.{no_name}
use Rattle.settings.specs.Bodies.{contents_of}
use Rattle.session_judge.specs.Unlocking.{alert_reset}
use Rattle.c_records.specs.Records.{record_size}
use Rattle.claims.specs.TwoBoards.{Sending}
use Rattle.claims.specs.TwoBoardsFromC.{Lent, AlikeSessionsFromC}
use Rattle.claims.specs.Trials.{chosen, written_board, reset_board, strict_board, guarded_board}
use Rattle.claims.proofs.Settings.Written.{each_of_image}
use Rattle.claims.proofs.Settings.SettingsRule.{no_name_fits}
use Rattle.claims.proofs.Secrecy.ToldApartFromC.{two_boards_are_alike_from_c}
use Rattle.claims.proofs.Trials.SomeBoards.{unnamed_is_held, chosen_is_allowed, reset_are_alike}

-- each byte that is lent is one: an image that was written is made of bytes
pub reset_is_lent : (guard byte main : ℕ) (area : List ℕ) → guard ≤ 1 → byte < 256 → length area ≡ record_size mspm0 → Lent mspm0 (reset_board guard byte main) area
unfolding written_board
reset_is_lent guard byte main area bit small size = record {
  bytes =
      each_of_image (contents_of One (chosen alert_reset guard 0 byte) no_name)
      (unnamed_is_held alert_reset guard guard 0xFFFF 0 byte main (omega arith) bit bit (omega arith) (omega arith) small)
      (chosen_is_allowed alert_reset guard guard 0xFFFF 0 byte main (omega arith) bit bit (omega arith) (omega arith) small) no_name_fits;
  size = size;
}

-- two of them, each with any record area of the size
module _ (one_area other_area : List ℕ) (one_size : length one_area ≡ record_size mspm0) (other_size : length other_area ≡ record_size mspm0) (sendings : List Sending) where
  two_reset_from_c : (guard : ℕ) → guard ≤ 1 → AlikeSessionsFromC mspm0 (reset_board guard 0x11 0x66) (reset_board guard 0x22 0x77) one_area other_area sendings
  two_reset_from_c guard bit =
      two_boards_are_alike_from_c mspm0 mspm0_is_sound (reset_board guard 0x11 0x66) (reset_board guard 0x22 0x77) one_area other_area (reset_are_alike guard bit)
      (reset_is_lent guard 0x11 0x66 one_area bit (omega arith) one_size) (reset_is_lent guard 0x22 0x77 other_area bit (omega arith) other_size) sendings

  pub two_strict_from_c : AlikeSessionsFromC mspm0 (strict_board 0x11 0x66) (strict_board 0x22 0x77) one_area other_area sendings
  two_strict_from_c = two_reset_from_c 0 (omega arith)

  pub two_guarded_from_c : AlikeSessionsFromC mspm0 (guarded_board 0x11 0x66) (guarded_board 0x22 0x77) one_area other_area sendings
  two_guarded_from_c = two_reset_from_c 1 (omega arith)
