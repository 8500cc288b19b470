-- T-10: "settings are one such sector .., with our form 2, no form 1, in its first 1,024 bytes and 0xFF after". What an image says.
use Rattle.std.specs.Prelude.{List, ℕ}
use Rattle.settings.specs.declared.Form.{Form}
use Rattle.settings.specs.declared.ImageContents.{ImageContents}
use Rattle.settings.specs.declared.Form.TheVariants.{Two}
use Rattle.settings.specs.Held.{Kept}
use Rattle.settings.specs.Values.{no_name}
use Rattle.settings.specs.Layout.{large}
use Rattle.settings.specs.Bodies.{body_in, shown_in}
use Rattle.settings.specs.Kept.{blank_kept, no_kept}

-- what an image holds
abbrev pub LargeContents : Type 0
LargeContents = ImageContents 32

abbrev pub contents_of : Form → Kept → List ℕ → LargeContents
contents_of form settings name = record { form = form; settings = settings; name = name }

-- what the six bodies say; "The protection body becomes 32 bytes for this part"
unfoldable pub kept_in : List ℕ → Kept
kept_in image = record {
  shown = shown_in large image;
  protection = body_in large 6 image;
  password = body_in large 1 image;
  reset_password = body_in large 2 image;
}

abbrev pub contents_in : List ℕ → LargeContents
contents_in image = contents_of Two (kept_in image) (body_in large 7 image)

-- "blank is all of it 0xFF and counts as form 2"; all else as on a blank board of the other part
abbrev pub blank_contents : LargeContents
blank_contents = contents_of Two blank_kept no_name

abbrev pub no_contents : LargeContents
no_contents = contents_of Two no_kept no_name
