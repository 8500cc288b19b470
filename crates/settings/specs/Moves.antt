-- T-09: "We need the move from 1 to 2 and back". A refused move changes no byte.
use Rattle.std.specs.Prelude.{List, ℕ, Some, None, Ok, Err}
use Rattle.settings.specs.declared.Form.{Form}
use Rattle.settings.specs.declared.Form.TheVariants.{One, Two}
use Rattle.settings.specs.declared.Forms.{Forms}
use Rattle.settings.specs.declared.Forms.TheVariants.{OnlyOne, OnlyTwo}
use Rattle.settings.specs.Held.{Contents}
use Rattle.settings.specs.Bodies.{contents_of, contents_in}
use Rattle.settings.specs.Answers.{numbered, refusal_numbered, WriteLeft, MoveLeft, move_left}
use Rattle.settings.specs.Reader.{Checked, checked_of}
use Rattle.settings.specs.Writer.{write_of}

-- the same settings and name, in another form
abbrev pub in_form : Form → Contents → Contents
in_form form contents = contents_of form contents.settings contents.name

-- what is moved is written; its 41 is that of "a name not all 0xFF on the way back"
abbrev pub moved_by : WriteLeft → MoveLeft
moved_by left = move_left (numbered left.number 0) left.image

-- "A blank image moves to itself both ways."
abbrev pub move_as : Form → List ℕ → Checked → MoveLeft
move_as to image (Ok None) = move_left (numbered 0 0) image
move_as to image (Ok (Some form)) = moved_by (write_of (in_form to (contents_in form image)) image)
move_as to image (Err refusal) = move_left (refusal_numbered refusal) image

-- "each move checks as the reader and gives 5 to the form it does not start from, blank excepted"
unfoldable pub move_of : Forms → Form → List ℕ → MoveLeft
move_of from to image = move_as to image (checked_of from image)

abbrev pub moved_to_two : List ℕ → MoveLeft
moved_to_two image = move_of OnlyOne Two image

abbrev pub moved_to_one : List ℕ → MoveLeft
moved_to_one image = move_of OnlyTwo One image
