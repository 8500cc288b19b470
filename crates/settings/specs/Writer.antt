-- 01, Numbers of refused calls: "the writer 3 then 8"; T-09: "41, a name not all 0xFF .. in form 1 settings to be written, after 8". A refused call changes no byte.
use Rattle.std.specs.Prelude.{Bool, true, not, List, ℕ, eqb, length}
use Rattle.octets.specs.Choice.{pick}
use Rattle.octets.specs.Alike.{all_are}
use Rattle.settings.specs.declared.Form.{Form}
use Rattle.settings.specs.declared.Form.TheVariants.{One, Two}
use Rattle.settings.specs.Held.{Contents}
use Rattle.settings.specs.Layout.{image_size}
use Rattle.settings.specs.Values.{is_allowed}
use Rattle.settings.specs.Image.{image_of}
use Rattle.settings.specs.Answers.{WriteLeft, write_left}

-- form 1 has no place for a name
unfoldable pub name_fits : Form → List ℕ → Bool
name_fits One name = all_are 0xFF name
name_fits Two name = true

-- the writer, into a lent area
unfoldable pub write_of : Contents → List ℕ → WriteLeft
write_of contents area =
    pick (not (eqb (length area) image_size)) (write_left 3 area)
    (pick (not (is_allowed contents.settings.shown)) (write_left 8 area)
    (pick (not (name_fits contents.form contents.name)) (write_left 41 area)
    (write_left 0 (image_of contents))))
