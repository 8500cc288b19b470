-- T-11, what a mended image says.
use Rattle.settings.specs.declared.Shown.{Shown}
use Rattle.settings.specs.Held.{Settings}
use Rattle.settings.specs.Values.{blank_settings}
use Rattle.settings_mend.specs.Mending.{allowed_or}

-- "sets values of body 3 that aren't allowed to the blank defaults": any readout is allowed; ids and pointer are of bodies 4 and 5
unfoldable pub mended_shown : Shown → Shown
mended_shown shown = record {
  reset_mode = allowed_or shown.reset_mode 2 blank_settings.shown.reset_mode;
  alert = allowed_or shown.alert 2 blank_settings.shown.alert;
  readout = shown.readout;
  settings_protected = allowed_or shown.settings_protected 1 blank_settings.shown.settings_protected;
  bcr_id = shown.bcr_id;
  bsl_id = shown.bsl_id;
  version_pointer = shown.version_pointer;
}

-- "keeps bodies 1, 2, 4, 5 and 6"
unfoldable pub mended_settings : Settings → Settings
mended_settings settings = record {
  shown = mended_shown settings.shown;
  protection = settings.protection;
  password = settings.password;
  reset_password = settings.reset_password;
}
