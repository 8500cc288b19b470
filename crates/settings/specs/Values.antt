-- 01, Settings image, the table's kind 3 and the blank image; T-09, the name and the form beside them.
use Rattle.std.specs.Prelude.{Bool, false, List, ℕ, leb, replicate}
use Rattle.octets.specs.Choice.{pick}
use Rattle.settings.specs.declared.Shown.{Shown}
use Rattle.settings.specs.Held.{Settings}
use Rattle.settings.specs.declared.Form.TheVariants.{One}
use Rattle.settings.specs.Held.{Contents}

-- "reset mode (0 off, 1 on, 2 with password), alert (0 nothing, 1 reset, 2 disable), readout (two bytes, on only at 0xAABB), settings protected (0 or 1)":
-- any readout is allowed
unfoldable pub is_allowed : Shown → Bool
is_allowed shown =
    pick (leb shown.reset_mode 2) (pick (leb shown.alert 2) (leb shown.settings_protected 1) false) false

-- "both passwords all 0xFF, reset mode 1, alert 0, readout 0xFFFF, settings unprotected, both ids 1, pointer 0xFFFFFFFF, no sector protected"
abbrev pub blank_settings : Settings
blank_settings = record {
  shown = record {
    reset_mode = 1;
    alert = 0;
    readout = 0xFFFF;
    settings_protected = 0;
    bcr_id = 1;
    bsl_id = 1;
    version_pointer = 0xFFFFFFFF;
  };
  protection = replicate 8 0;
  password = replicate 32 0xFF;
  reset_password = replicate 16 0xFF;
}

-- what stands beside a refusal in the definitions: its reset mode is not allowed, so no call takes it
abbrev pub no_settings : Settings
no_settings = record {
  shown = record {
    reset_mode = 255;
    alert = 0;
    readout = 0;
    settings_protected = 0;
    bcr_id = 0;
    bsl_id = 0;
    version_pointer = 0;
  };
  protection = replicate 8 0;
  password = replicate 32 0;
  reset_password = replicate 16 0;
}

-- no name: 64 bytes 0xFF
unfoldable pub no_name : List ℕ
no_name = replicate 64 0xFF

-- T-09: "Blank gives a name of 0xFF.", "blank counts as form 1"
abbrev pub blank_contents : Contents
blank_contents = record { form = One; settings = blank_settings; name = no_name }

abbrev pub no_contents : Contents
no_contents = record { form = One; settings = no_settings; name = no_name }
