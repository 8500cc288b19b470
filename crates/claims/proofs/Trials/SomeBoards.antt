-- The boards on which demand 3 is tried start, are alike and differ. No image is computed: the reader takes back what the writer wrote.
use mathlib.Core.Path.{◌≡◌, refl, sym, ap, ◌∙◌}
use mathlib.Core.Bool.{true, false}
use mathlib.Core.List.{List}
use Prim.Native.Nat.{ℕ, ◌^◌, ◌≤◌, ◌<◌}
use native.Mathlib.Omega.{arith}
use borrow.Author.Tests.{le-leb}
use lib.ListN.{length, get_or, replicate, length-replicate}
use Rattle.octets.specs.Choice.{pick}
use Rattle.octets.specs.Number.{number_of, is_multiple}
use Rattle.octets.proofs.Parts.{each_cons, each_replicate}
use Rattle.parts.specs.Parts.{mspm0}
use Rattle.settings.specs.Held.{Settings}
use Rattle.settings.specs.Held.{Kept}
use Rattle.settings.specs.Kept.{filled_up, kept_of}
use Rattle.settings.specs.Values.{is_allowed, no_name, blank_settings}
use Rattle.settings.specs.declared.Form.{Form}
use Rattle.settings.specs.declared.Form.TheVariants.{One, Two}
use Rattle.settings.specs.Held.{Contents}
use Rattle.settings.specs.Bodies.{contents_of}
use Rattle.settings.specs.Answers.{SettingsTold, accepted, settings_only}
use Rattle.settings.specs.Reader.{read_of}
use Rattle.settings.specs.Writer.{name_fits}
use Rattle.session_judge.specs.Unlocking.{alert_reset}
use Rattle.session_act.specs.Info.{version_at}
use Rattle.flash.specs.Regions.{is_main_size}
use Rattle.settings.specs.Layout.{image_size}
use Rattle.session.specs.Starting.{start_read, settings_read, start_of}
use Rattle.claims.specs.Held.{Held, HeldContents}
use Rattle.claims.specs.TwoBoards.{Images, settings_of, AlikeBoards}
use Rattle.claims.specs.Trials.{main_size, window_of, blank_board, chosen_by, chosen, written_board, named_board, quiet_board, reset_board, named_strict, name_of, form_of, Differ}
use Rattle.claims.proofs.Settings.SettingsRule.{image_reads, blank_reads, no_name_fits}
use Rattle.claims.proofs.Sessions.CallRules.{accepted_has_size, small_is_taken}

-- ---- the boards start, with the settings that were chosen

-- settings that are taken of an image
abbrev pub taken : Settings → SettingsTold
taken settings = record { number = 0; entry = 0; settings = kept_of settings }

-- a board of a right size, of which the reader accepts these settings
pub record Good (images : Images) (settings : Settings) : Type 0 where
  pub size : length images.main ≡ main_size
  pub window : length images.window ≡ mspm0.window_size
  pub read : settings_only (read_of images.settings) ≡ taken settings

-- so its settings flash has the MSPM0's size, and a start takes these settings
good_size : (images : Images) (settings : Settings) → Good images settings → length images.settings ≡ image_size
good_size images settings good = accepted_has_size mspm0 images.settings (ap (λ (told : SettingsTold). told.number) good.read)

pub good_read : (images : Images) (settings : Settings) → Good images settings → settings_read images.settings ≡ taken settings
good_read images settings good = small_is_taken mspm0 images.settings (good_size images settings good) ∙ good.read

pub starts : (images : Images) (settings : Settings) → Good images settings → (start_of mspm0 false images.main images.settings images.window).answer.number ≡ 0
unfolding start_of start_read is_main_size is_multiple pick
starts images settings good =
    let number : (settings_read images.settings).number ≡ 0 = ap (λ (told : SettingsTold). told.number) (good_read images settings good) in
    let long = good_size images settings good in
    rw (good.size, long, good.window, number)

-- a window that is one byte all through
pub window_sized : (byte : ℕ) → length (window_of byte) ≡ mspm0.window_size
unfolding window_of
window_sized byte = length-replicate {A = ℕ} mspm0.window_size byte

-- a blank board
pub blank_is_good : Good blank_board blank_settings
unfolding blank_board
blank_is_good = record { size = length-replicate {A = ℕ} main_size 0xFF; window = window_sized 0xFF; read = ap settings_only blank_reads }

-- a written board: the reader takes back what was written
module _ (alert sector guard readout pointer byte main : ℕ)
    (known : alert ≤ 2) (sector_bit : sector ≤ 1) (bit : guard ≤ 1) (two : readout < 256 ^ 2) (four : pointer < 256 ^ 4) (small : byte < 256)
  where
    abbrev written : Settings
    written = chosen_by alert sector guard readout pointer byte

    pub chosen_is_held : Held written
    chosen_is_held = record {
      shown = record { readout = two; bcr = omega arith; bsl = omega arith; pointer = four };
      protection = record { size = refl; each = each_cons sector (replicate 7 0) (omega arith) (each_replicate 7 0 (omega arith)) };
      password = record { size = refl; each = each_replicate 32 byte small };
      reset = record { size = refl; each = each_replicate 16 byte small };
    }

    pub chosen_is_allowed : is_allowed written.shown ≡ true
    unfolding is_allowed pick
    chosen_is_allowed = rw (le-leb alert 2 known, le-leb guard 1 bit)

    -- without a name in form 1
    pub unnamed_is_held : HeldContents (contents_of One written no_name)
    unfolding no_name
    unnamed_is_held = record { settings = chosen_is_held; name = record { size = refl; each = each_replicate 64 0xFF (omega arith) } }

    pub unnamed_reads : read_of (written_board written main).settings ≡ accepted (contents_of One written no_name)
    unfolding written_board
    unnamed_reads = image_reads (contents_of One written no_name) unnamed_is_held chosen_is_allowed no_name_fits

    pub written_is_good : Good (written_board written main) written
    unfolding written_board
    written_is_good = record { size = omega (arith, length-replicate 2044 main); window = window_sized main; read = ap settings_only unnamed_reads }

    -- and with one in form 2
    module _ (name : ℕ) (text : name < 256) where
      abbrev named : Contents
      named = contents_of Two written (replicate 64 name)

      named_is_held : HeldContents named
      named_is_held = record { settings = chosen_is_held; name = record { size = length-replicate 64 name; each = each_replicate 64 name text } }

      pub named_reads : read_of (named_board written name main).settings ≡ accepted named
      unfolding named_board name_fits
      named_reads = image_reads named named_is_held chosen_is_allowed refl

      named_is_good : Good (named_board written name main) written
      unfolding named_board
      named_is_good = record { size = omega (arith, length-replicate 2044 main); window = window_sized main; read = ap settings_only named_reads }

pub quiet_is_good : (byte main : ℕ) → byte < 256 → Good (quiet_board byte main) (chosen 0 0 0xFFFFFFFF byte)
quiet_is_good byte main small = written_is_good 0 0 0 0xFFFF 0xFFFFFFFF byte main (omega arith) (omega arith) (omega arith) (omega arith) (omega arith) small

pub reset_is_good : (guard byte main : ℕ) → guard ≤ 1 → byte < 256 → Good (reset_board guard byte main) (chosen alert_reset guard 0 byte)
reset_is_good guard byte main bit small = written_is_good alert_reset guard guard 0xFFFF 0 byte main (omega arith) bit bit (omega arith) (omega arith) small

-- ---- two of them

module _ (one other : Images) (one_settings other_settings : Settings) (one_good : Good one one_settings) (other_good : Good other other_settings) where
  -- what is read of both, by what was written
  by_reading : {A : Type 0} (of_one of_other : SettingsTold → A) → of_one (taken one_settings) ≡ of_other (taken other_settings)
      → of_one (settings_read one.settings) ≡ of_other (settings_read other.settings)
  by_reading of_one of_other same = ap of_one (good_read one one_settings one_good) ∙ same ∙ sym (ap of_other (good_read other other_settings other_good))

  pub are_alike : one_settings.shown ≡ other_settings.shown → one_settings.protection ≡ other_settings.protection
      → version_at 4 one_settings.shown.version_pointer one.main ≡ version_at 4 other_settings.shown.version_pointer other.main
      → AlikeBoards mspm0 one other
  are_alike shown protection version = record {
    one_starts = starts one one_settings one_good;
    other_starts = starts other other_settings other_good;
    size = one_good.size ∙ sym other_good.size;
    shown = by_reading (λ told. told.settings.shown) (λ told. told.settings.shown) shown;
    protection = by_reading (λ told. told.settings.protection) (λ told. told.settings.protection) (ap filled_up protection);
    version =
        by_reading (λ told. version_at 4 told.settings.shown.version_pointer one.main)
        (λ told. version_at 4 told.settings.shown.version_pointer other.main) version;
  }

  -- passwords differ by their first bytes
  first_differs : (of : Kept → List ℕ) → (get_or (of (kept_of one_settings)) 0 0 ≡ get_or (of (kept_of other_settings)) 0 0 → ⊥) → of (settings_of one) ≡ of (settings_of other) → ⊥
  first_differs of differs e =
      let first_of : (SettingsTold → ℕ) = λ told. get_or (of told.settings) 0 0 in
      differs (sym (ap first_of (good_read one one_settings one_good)) ∙ ap (λ (bytes : List ℕ). get_or bytes 0 0) e ∙ ap first_of (good_read other other_settings other_good))

  differ : (place : ℕ) → (get_or one_settings.password 0 0 ≡ get_or other_settings.password 0 0 → ⊥)
      → (get_or one_settings.reset_password 0 0 ≡ get_or other_settings.reset_password 0 0 → ⊥)
      → (get_or one.main place 0 ≡ get_or other.main place 0 → ⊥) → (get_or one.window 0 0 ≡ get_or other.window 0 0 → ⊥) → Differ one other
  differ place password reset main window = record {
    password = first_differs (λ settings. settings.password) password;
    reset_password = first_differs (λ settings. settings.reset_password) reset;
    main = λ e. main (ap (λ (bytes : List ℕ). get_or bytes place 0) e);
    settings = λ e. first_differs (λ settings. settings.password) password (ap (λ (image : List ℕ). (settings_read image).settings.password) e);
    window = λ e. window (ap (λ (bytes : List ℕ). get_or bytes 0 0) e);
  }

-- ---- a blank board, and a quiet one

-- where the pointer is not good, the version is 0
no_version : (main : List ℕ) → version_at 4 0xFFFFFFFF main ≡ 0
unfolding version_at pick
no_version main = refl

pub blank_and_quiet_are_alike : AlikeBoards mspm0 blank_board (quiet_board 0 0)
blank_and_quiet_are_alike =
    are_alike blank_board (quiet_board 0 0) blank_settings _ blank_is_good (quiet_is_good 0 0 (omega arith)) refl refl
    (no_version blank_board.main ∙ sym (no_version (quiet_board 0 0).main))

pub blank_and_quiet_differ : Differ blank_board (quiet_board 0 0)
unfolding blank_board written_board window_of
blank_and_quiet_differ =
    differ blank_board (quiet_board 0 0) blank_settings _ blank_is_good (quiet_is_good 0 0 (omega arith)) 0 (λ e. omega arith) (λ e. omega arith) (λ e. omega arith)
    (λ e. omega arith)

-- ---- two whose alert resets

-- where it is, the version is the four bytes there
pub reset_version : (guard byte main : ℕ) → version_at 4 0 (reset_board guard byte main).main ≡ 0x55555555
unfolding version_at written_board number_of pick
reset_version guard byte main = refl

module _ (guard : ℕ) (bit : guard ≤ 1) where
  pub reset_are_alike : AlikeBoards mspm0 (reset_board guard 0x11 0x66) (reset_board guard 0x22 0x77)
  reset_are_alike =
      are_alike (reset_board guard 0x11 0x66) (reset_board guard 0x22 0x77) _ _ (reset_is_good guard 0x11 0x66 bit (omega arith)) (reset_is_good guard 0x22 0x77 bit (omega arith)) refl refl
      (reset_version guard 0x11 0x66 ∙ sym (reset_version guard 0x22 0x77))

  pub reset_differ : Differ (reset_board guard 0x11 0x66) (reset_board guard 0x22 0x77)
  unfolding written_board window_of
  reset_differ =
      differ (reset_board guard 0x11 0x66) (reset_board guard 0x22 0x77) _ _ (reset_is_good guard 0x11 0x66 bit (omega arith)) (reset_is_good guard 0x22 0x77 bit (omega arith)) 4
      (λ e. omega arith) (λ e. omega arith) (λ e. omega arith) (λ e. omega arith)

-- ---- two with names, and one with a name beside one without

named_version : (name byte main : ℕ) → version_at 4 0 (named_strict name byte main).main ≡ 0x55555555
unfolding version_at named_board number_of pick
named_version name byte main = refl

strict_is_named : (name byte main : ℕ) → byte < 256 → name < 256 → Good (named_strict name byte main) (chosen alert_reset 0 0 byte)
strict_is_named name byte main small text = named_is_good alert_reset 0 0 0xFFFF 0 byte main (omega arith) (omega arith) (omega arith) (omega arith) (omega arith) small name text

-- the name and the form that the reader tells of them
name_is : (name byte main : ℕ) → byte < 256 → name < 256 → name_of (named_strict name byte main) ≡ replicate 64 name
name_is name byte main small text = ap (λ told. told.contents.name) (named_reads alert_reset 0 0 0xFFFF 0 byte main (omega arith) (omega arith) (omega arith) (omega arith) (omega arith) small name text)

form_is_two : (name byte main : ℕ) → byte < 256 → name < 256 → form_of (named_strict name byte main) ≡ Two
form_is_two name byte main small text = ap (λ told. told.contents.form) (named_reads alert_reset 0 0 0xFFFF 0 byte main (omega arith) (omega arith) (omega arith) (omega arith) (omega arith) small name text)

form_is_one : (guard byte main : ℕ) → guard ≤ 1 → byte < 256 → form_of (reset_board guard byte main) ≡ One
form_is_one guard byte main bit small =
    ap (λ told. told.contents.form) (unnamed_reads alert_reset guard guard 0xFFFF 0 byte main (omega arith) bit bit (omega arith) (omega arith) small)

number : Form → ℕ
number One = 1
number Two = 2

pub named_are_alike : AlikeBoards mspm0 (named_strict 0x41 0x11 0x66) (named_strict 0x42 0x22 0x77)
named_are_alike =
    are_alike (named_strict 0x41 0x11 0x66) (named_strict 0x42 0x22 0x77) _ _ (strict_is_named 0x41 0x11 0x66 (omega arith) (omega arith)) (strict_is_named 0x42 0x22 0x77 (omega arith) (omega arith)) refl refl
    (named_version 0x41 0x11 0x66 ∙ sym (named_version 0x42 0x22 0x77))

pub names_differ : name_of (named_strict 0x41 0x11 0x66) ≡ name_of (named_strict 0x42 0x22 0x77) → ⊥
names_differ e =
    omega
    (arith, ap (λ (bytes : List ℕ). get_or bytes 0 0) (sym (name_is 0x41 0x11 0x66 (omega arith) (omega arith)) ∙ e ∙ name_is 0x42 0x22 0x77 (omega arith) (omega arith)))

pub both_forms_are_alike : AlikeBoards mspm0 (reset_board 0 0x11 0x66) (named_strict 0x42 0x22 0x77)
both_forms_are_alike =
    are_alike (reset_board 0 0x11 0x66) (named_strict 0x42 0x22 0x77) _ _ (reset_is_good 0 0x11 0x66 (omega arith) (omega arith)) (strict_is_named 0x42 0x22 0x77 (omega arith) (omega arith)) refl refl
    (reset_version 0 0x11 0x66 ∙ sym (named_version 0x42 0x22 0x77))

pub forms_differ : form_of (reset_board 0 0x11 0x66) ≡ form_of (named_strict 0x42 0x22 0x77) → ⊥
unfolding number
forms_differ e =
    omega
    (arith, ap number (sym (form_is_one 0 0x11 0x66 (omega arith) (omega arith)) ∙ e ∙ form_is_two 0x42 0x22 0x77 (omega arith) (omega arith)))
