-- T-10, the settings image of the larger part from C: its fields area, and what the reader and the writer leave.
use Rattle.std.specs.Prelude.{ℕ, not, List, ◌++◌, eqb, length, get_or}
use Rattle.octets.specs.Choice.{pick}
use Rattle.octets.specs.Number.{bytes_of, part, number_at}
use Rattle.settings.specs.declared.Form.TheVariants.{Two}
use Rattle.settings.specs.Layout.{layout_of}
use Rattle.settings.specs.Fields.{zero_at}
use Rattle.settings.specs.Kept.{long_size, kept_bodies, kept_read}
use Rattle.settings.specs.Answers.{numbered}
use Rattle.settings_large.specs.Contents.{LargeContents}
use Rattle.settings_large.specs.Contents.{contents_of}
use Rattle.settings_large.specs.Image.{large_size}
use Rattle.settings_large.specs.Reader.{read_of}
use Rattle.settings_large.specs.Writer.{write_of}
use Rattle.c_records.specs.OneNumber.{refusal}
use Rattle.c_records.specs.Stored.{Stored, stored, stored_by}
use Rattle.c_records.specs.SettingsFromC.{written_from_c}

-- it has 164 bytes: 98 of the six bodies, as a record keeps them, 64 of the name, and the form's number in two
abbrev pub large_area_size : ℕ
large_area_size = 164

abbrev pub large_name_at : ℕ
large_name_at = long_size

abbrev pub large_form_at : ℕ
large_form_at = 162

unfoldable pub large_fields_of : LargeContents → List ℕ
large_fields_of contents = kept_bodies contents.settings ++ (contents.name ++ bytes_of 2 (layout_of contents.form).form)

-- what such an area says, where its form is 2
abbrev pub large_contents_read : List ℕ → LargeContents
large_contents_read fields = contents_of Two (kept_read (part 0 large_name_at fields)) (part large_name_at 64 fields)

-- the reader stores the fields of what it read
abbrev pub read_large_from_c : List ℕ → List ℕ → Stored
read_large_from_c image area =
    stored_by (numbered (read_of image).number (read_of image).entry) large_area_size (large_fields_of (read_of image).contents) area

-- 3; then 10 for fields of another size, 5 for another form than 2, and 8
unfoldable pub write_large_from_c : List ℕ → List ℕ → Stored
write_large_from_c fields image =
    pick (not (eqb (length image) large_size)) (stored (refusal 3) image)
    (pick (not (eqb (length fields) large_area_size)) (stored (refusal 10) image)
    (pick (not (eqb (number_at large_form_at 2 fields) 2)) (stored (refusal 5) image)
    (pick (not (eqb (get_or fields zero_at 0) 0)) (stored (refusal 8) image)
    (written_from_c (write_of (large_contents_read fields) image)))))
