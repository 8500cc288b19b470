-- 01, The loader and its edges: "The bench rig's host program, written in C, calls the loader on numbers and byte areas." The settings image, read, written
-- and moved.
use Rattle.std.specs.Prelude.{ℕ, not, List, eqb, length, get_or}
use Rattle.octets.specs.Choice.{pick}
use Rattle.octets.specs.Number.{number_at}
use Rattle.settings.specs.Layout.{image_size}
use Rattle.settings.specs.Answers.{numbered, WriteLeft, MoveLeft}
use Rattle.settings.specs.Reader.{read_of}
use Rattle.settings.specs.Writer.{write_of}
use Rattle.settings.specs.Moves.{moved_to_one, moved_to_two}
use Rattle.settings.specs.Fields.{zero_at}
use Rattle.c_records.specs.OneNumber.{refusal, refusal_of}
use Rattle.c_records.specs.Stored.{Stored, stored, stored_by}
use Rattle.c_records.specs.FieldsArea.{fields_area_size, form_at, fields_of, is_form_number, contents_read}

-- the reader stores the fields of what it read
abbrev pub read_from_c : List ℕ → List ℕ → Stored
read_from_c image area =
    stored_by (numbered (read_of image).number (read_of image).entry) fields_area_size (fields_of (read_of image).contents) area

abbrev pub written_from_c : WriteLeft → Stored
written_from_c left = stored (refusal left.number) left.image

-- "the writer 3 then 8", then T-09's 41; after 3 it has 10, for fields of another size, and 5, for fields of no form
unfoldable pub write_from_c : List ℕ → List ℕ → Stored
write_from_c fields image =
    pick (not (eqb (length image) image_size)) (stored (refusal 3) image)
    (pick (not (eqb (length fields) fields_area_size)) (stored (refusal 10) image)
    (pick (not (is_form_number (number_at form_at 2 fields))) (stored (refusal 5) image)
    (pick (not (eqb (get_or fields zero_at 0) 0)) (stored (refusal 8) image)
    (written_from_c (write_of (contents_read fields) image)))))

-- T-09: "We need the move from 1 to 2 and back"
abbrev pub moved_from_c : MoveLeft → Stored
moved_from_c left = stored (refusal_of left.told) left.image

abbrev pub to_two_from_c : List ℕ → Stored
to_two_from_c image = moved_from_c (moved_to_two image)

abbrev pub to_one_from_c : List ℕ → Stored
to_one_from_c image = moved_from_c (moved_to_one image)
