-- T-09: "Boards start from both forms." The session is the same, whatever the name.
use mathlib.Core.Path.{◌≡◌, refl, sym, ap, ap₂, ◌∙◌}
use mathlib.Core.Bool.{Bool, true, not}
use mathlib.Core.List.{List}
use Prim.Native.Nat.{ℕ}
use lib.Dec.{eqb}
use lib.ListN.{length}
use Rattle.octets.specs.Choice.{pick}
use Rattle.parts.specs.declared.Part.{Part}
use Rattle.settings.specs.Held.{Settings}
use Rattle.settings.specs.Held.{Contents}
use Rattle.settings.specs.declared.Form.TheVariants.{One, Two}
use Rattle.settings.specs.Values.{is_allowed, no_name}
use Rattle.parts.specs.Parts.{mspm0}
use Rattle.settings.specs.Bodies.{contents_of}
use Rattle.settings.specs.Image.{image_of}
use Rattle.settings.specs.Answers.{SettingsTold, settings_only}
use Rattle.claims.proofs.Sessions.CallRules.{small_is_taken}
use Rattle.settings.specs.Writer.{name_fits}
use Rattle.flash.specs.Regions.{is_main_size}
use Rattle.session.specs.Starting.{start_refused, start_read, settings_read, start_of}
use Rattle.claims.specs.Held.{Bytes, Held, HeldContents}
use Rattle.claims.proofs.Settings.Written.{image_passes}
use Rattle.claims.proofs.Settings.SettingsRule.{image_reads, blank_contents_held, no_name_fits}

module _ (settings : Settings) (name : List ℕ) (held : Held settings) (text : Bytes 64 name) (allowed : is_allowed settings.shown ≡ true) where
  abbrev unnamed : Contents
  unnamed = contents_of One settings no_name

  abbrev named : Contents
  named = contents_of Two settings name

  unnamed_held : HeldContents unnamed
  unnamed_held = record { settings = held; name = blank_contents_held.name }

  named_held : HeldContents named
  named_held = record { settings = held; name = text }

  -- what a session takes of both images, and their sizes
  both_are_taken : settings_read (image_of unnamed) ≡ settings_read (image_of named)
  unfolding name_fits
  both_are_taken =
      small_is_taken mspm0 (image_of unnamed) (image_passes unnamed unnamed_held allowed no_name_fits).size
      ∙ ap settings_only (image_reads unnamed unnamed_held allowed no_name_fits) ∙ sym (ap settings_only (image_reads named named_held allowed refl))
      ∙ sym (small_is_taken mspm0 (image_of named) (image_passes named named_held allowed refl).size)

  both_have_size : length (image_of unnamed) ≡ length (image_of named)
  unfolding name_fits
  both_have_size = (image_passes unnamed unnamed_held allowed no_name_fits).size ∙ sym (image_passes named named_held allowed refl).size

  pub boards_start_from_both : (part : Part) (fuse : Bool) (main window : List ℕ)
      → start_of part fuse main (image_of (contents_of One settings no_name)) window ≡ start_of part fuse main (image_of (contents_of Two settings name)) window
  unfolding start_of
  boards_start_from_both part fuse main window =
      ap₂ (λ (size : ℕ) (told : SettingsTold).
      pick fuse (start_refused 1 0)
      (pick (not (is_main_size part (length main))) (start_refused 2 0)
      (pick (not (eqb size part.settings_size)) (start_refused 3 0)
      (pick (not (eqb (length window) part.window_size)) (start_refused 11 0)
      (start_read (length main) told))))) both_have_size both_are_taken
