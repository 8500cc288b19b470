-- The image of some contents: table, bodies, filler, checksum.
use Rattle.std.specs.Prelude.{ℕ, ◌-◌, not, List, ◌++◌, eqb, length, replicate}
use Rattle.octets.specs.Choice.{pick}
use Rattle.octets.specs.Number.{bytes_of, part}
use Rattle.checksum.specs.Checksum.{checksum_of}
use Rattle.settings.specs.declared.Form.{Form}
use Rattle.settings.specs.declared.Form.TheVariants.{One}
use Rattle.settings.specs.Held.{Contents}
use Rattle.settings.specs.Layout.{form1, layout_of, image_size, checksum_at, bodies_end, table_of, pairs_of}
use Rattle.settings.specs.Bodies.{all_bodies_of}

-- "Bytes 126 to 1,019 are 0xFF."; T-09: "0xFF fills the rest up to the checksum"
abbrev pub filler_of : Form → List ℕ
filler_of form = replicate (checksum_at - bodies_end (layout_of form)) 0xFF

-- bytes 0 to 1,019
abbrev pub front_of : Contents → List ℕ
front_of contents = pairs_of (table_of (layout_of contents.form)) ++ (all_bodies_of contents ++ filler_of contents.form)

-- "Bytes 1,020 to 1,023 are the checksum of bytes 0 to 1,019."
abbrev pub sealed : List ℕ → List ℕ
sealed front = front ++ bytes_of 4 (checksum_of front)

-- T-09: "Settings remember their form, blank counts as form 1, and the writer writes that form."
unfoldable pub image_of : Contents → List ℕ
image_of contents = sealed (front_of contents)

-- T-11: "puts the table and the filler right, .. writes the checksum", in form 1, around the bodies that stand in an image, bytes 52 to 125
unfoldable pub resealed : List ℕ → List ℕ
resealed image =
    pick (not (eqb (length image) image_size)) image
    (sealed (pairs_of (table_of form1) ++ (part 52 74 image ++ filler_of One)))
