-- The image of some contents: table, bodies, filler and checksum in the first half, and 0xFF in the second.
use Rattle.std.specs.Prelude.{ℕ, ◌-◌, List, ◌++◌, replicate}
use Rattle.settings.specs.Layout.{large, image_size, checksum_at, bodies_end, table_of, pairs_of}
use Rattle.settings.specs.Kept.{kept_bodies}
use Rattle.settings.specs.Image.{sealed}
use Rattle.settings_large.specs.Contents.{LargeContents}

-- T-10: "settings are one such sector", of 2,048 bytes
abbrev pub large_size : ℕ
large_size = 2048

-- "so the name ends at 222"
unfoldable pub large_filler : List ℕ
large_filler = replicate (checksum_at - bodies_end large) 0xFF

abbrev pub front_with : List ℕ → List ℕ → List ℕ
front_with bodies name = pairs_of (table_of large) ++ ((bodies ++ name) ++ large_filler)

-- "in its first 1,024 bytes and 0xFF after"
abbrev pub image_with : List ℕ → List ℕ → List ℕ
image_with bodies name = sealed (front_with bodies name) ++ replicate (large_size - image_size) 0xFF

unfoldable pub image_of : LargeContents → List ℕ
image_of contents = image_with (kept_bodies contents.settings) contents.name
