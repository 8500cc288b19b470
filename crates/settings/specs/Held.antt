-- The settings with protection of so many bytes: of 8 in an image of an MSPM0, of 32 in what a session keeps, on either part. And what an image of an
-- MSPM0 holds.
use Rattle.settings.specs.declared.Held.{Held}
use Rattle.settings.specs.declared.ImageContents.{ImageContents}

abbrev pub Settings : Type 0
Settings = Held 8

abbrev pub Kept : Type 0
Kept = Held 32

abbrev pub Contents : Type 0
Contents = ImageContents 8
