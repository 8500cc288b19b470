-- An image that is moved: its six bodies and its name, put in the other form, are what the writer would make of what they say.
use mathlib.Core.Path.{◌≡◌}
use mathlib.Core.Bool.{true, false}
use mathlib.Core.List.{List, ◌++◌}
use Prim.Native.Nat.{ℕ, ◌<◌}
use borrow.Author.Tests.{eq-eqb}
use lib.ListN.{length, get_or}
use Rattle.octets.specs.Choice.{pick}
use Rattle.octets.specs.Number.{part}
use Rattle.settings.specs.declared.Form.{Form}
use Rattle.settings.specs.Layout.{layout_of, image_size, table_of, pairs_of}
use Rattle.settings.specs.Table.{bodies_at}
use Rattle.settings.specs.Bodies.{name_body, name_in, contents_in}
use Rattle.settings.specs.Image.{filler_of, sealed, image_of}
use Rattle.settings.specs.Answers.{write_left}
use Rattle.settings.specs.Reader.{value_not_allowed}
use Rattle.settings.specs.Writer.{name_fits, write_of}
use Rattle.settings.specs.Moves.{in_form}
use Rattle.settings.proofs.AgainLaws.{bodies_made_again, read_is_allowed}

module _ (form to : Form) (image : List ℕ) (size : length image ≡ image_size) (value : value_not_allowed form image ≡ false) where
  pub put_as_written : ((k : ℕ) → get_or image k 0 < 256) → name_fits to (name_in form image) ≡ true
      → write_of (in_form to (contents_in form image)) image
      ≡ write_left 0 (sealed (pairs_of (table_of (layout_of to)) ++ ((part (bodies_at form) 74 image ++ name_body to (name_in form image)) ++ filler_of to)))
  unfolding write_of image_of pick
  put_as_written each fits =
      rw (eq-eqb (length image) image_size size, read_is_allowed form image size value, fits, bodies_made_again form image size value each)

  pub named_as_written : name_fits to (name_in form image) ≡ false → write_of (in_form to (contents_in form image)) image ≡ write_left 41 image
  unfolding write_of pick
  named_as_written none = rw (eq-eqb (length image) image_size size, read_is_allowed form image size value, none)
