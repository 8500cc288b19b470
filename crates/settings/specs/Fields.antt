-- The fields of some settings: their six bodies by themselves, bytes 52 to 125 of an image of form 1 and 60 to 133 of form 2.
use Rattle.std.specs.Prelude.{ℕ, ◌-◌, List, ◌++◌, eqb, length, replicate}
use Rattle.octets.specs.Choice.{pick}
use Rattle.settings.specs.Held.{Settings}
use Rattle.settings.specs.Values.{no_settings}
use Rattle.settings.specs.Layout.{Layout, table_end, bodies_end}
use Rattle.settings.specs.Bodies.{settings_in}

-- how many bytes the bodies have
abbrev pub fields_size : Layout → ℕ
fields_size layout = bodies_end layout - table_end layout

-- what fields say, read as the bodies of an image are; bytes of another size say nothing
unfoldable pub fields_read : Layout → List ℕ → Settings
fields_read layout fields =
    pick (eqb (length fields) (fields_size layout)) (settings_in layout (replicate (table_end layout) 0 ++ fields)) no_settings

-- how many bytes of fields an MSPM0's record keeps
abbrev pub kept_size : ℕ
kept_size = 74

-- the zero byte of body 3, among the fields
abbrev pub zero_at : ℕ
zero_at = 53
