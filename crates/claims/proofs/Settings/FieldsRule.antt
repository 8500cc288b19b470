-- The fields of some settings by themselves, as C has them: reading what was made gives the settings, making what was read gives the bytes.
use mathlib.Core.Path.{◌≡◌, sym, ◌∙◌}
use mathlib.Core.List.{[], ◌++◌, append-nil}
use lib.ListN.{length, get_or, drop}
use Rattle.settings.specs.Held.{Settings}
use Rattle.settings.specs.Layout.{form1}
use Rattle.settings.specs.Bodies.{bodies_of}
use Rattle.settings.specs.Fields.{fields_read}
use Rattle.settings.proofs.BodyLaws.{length_bodies}
use Rattle.settings.proofs.AgainLaws.{placed, from_52, unused_at_53, fields_said}
use Rattle.claims.specs.Held.{Held}
use Rattle.claims.proofs.Settings.Bodies.{settings_back, unused_is_zero}

module _ (s : Settings) (held : Held s) where
  pub fields_size_lem : length (bodies_of s) ≡ 74
  fields_size_lem = length_bodies s held.password.size held.reset.size held.protection.size

  bodies_placed : drop 52 (placed (bodies_of s)) ≡ bodies_of s ++ []
  bodies_placed = from_52 (bodies_of s) ∙ sym (append-nil (bodies_of s))

  pub read_after_made : fields_read form1 (bodies_of s) ≡ s
  read_after_made = fields_said (bodies_of s) fields_size_lem ∙ settings_back s held (placed (bodies_of s)) [] bodies_placed

  pub made_unused : get_or (bodies_of s) 53 0 ≡ 0
  made_unused = sym (unused_at_53 (bodies_of s)) ∙ unused_is_zero s held (placed (bodies_of s)) [] bodies_placed
