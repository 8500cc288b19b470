-- 01, Settings image: the bodies of some settings, and what the bodies of an image say. T-09: the name as a seventh.
use Rattle.std.specs.Prelude.{ℕ, List, [], ◌∷◌, ◌++◌, get_or}
use Rattle.octets.specs.Number.{bytes_of, part, number_at}
use Rattle.settings.specs.declared.Shown.{Shown}
use Rattle.settings.specs.Held.{Settings}
use Rattle.settings.specs.declared.Form.{Form}
use Rattle.settings.specs.declared.Form.TheVariants.{One, Two}
use Rattle.settings.specs.Held.{Contents}
use Rattle.settings.specs.Values.{no_name}
use Rattle.settings.specs.Layout.{Layout, form2, layout_of, length_of, offset_of}

-- kind 3: reset mode, alert, readout in two bytes, settings protected, a zero byte
abbrev pub values_of : Shown → List ℕ
values_of shown =
    shown.reset_mode ∷ shown.alert ∷ (bytes_of 2 shown.readout ++ (shown.settings_protected ∷ 0 ∷ []))

-- kind 4: "BCR id, BSL id"; kind 5: "version pointer"
abbrev pub numbers_of : Shown → List ℕ
numbers_of shown = bytes_of 4 shown.bcr_id ++ (bytes_of 4 shown.bsl_id ++ bytes_of 4 shown.version_pointer)

-- the six bodies in the order of their kinds; kind 6 is "one bit a sector"
abbrev pub bodies_with : List ℕ → List ℕ → Shown → List ℕ → List ℕ
bodies_with password reset shown protection = password ++ (reset ++ (values_of shown ++ (numbers_of shown ++ protection)))

unfoldable pub bodies_of : Settings → List ℕ
bodies_of settings = bodies_with settings.password settings.reset_password settings.shown settings.protection

-- T-09: "Settings remember their form"
abbrev pub contents_of : Form → Settings → List ℕ → Contents
contents_of form settings name = record { form = form; settings = settings; name = name }

-- T-09: "the bodies keep their order, the name comes last", in the form that has one
abbrev pub name_body : Form → List ℕ → List ℕ
name_body One name = []
name_body Two name = name

abbrev pub all_bodies_of : Contents → List ℕ
all_bodies_of contents = bodies_of contents.settings ++ name_body contents.form contents.name

-- the body of an entry
abbrev pub body_in : Layout → ℕ → List ℕ → List ℕ
body_in layout entry image = part (offset_of layout entry) (length_of layout entry) image

-- what bodies 3, 4 and 5 say
unfoldable pub shown_in : Layout → List ℕ → Shown
shown_in layout image = record {
  reset_mode = get_or (body_in layout 3 image) 0 0;
  alert = get_or (body_in layout 3 image) 1 0;
  readout = number_at 2 2 (body_in layout 3 image);
  settings_protected = get_or (body_in layout 3 image) 4 0;
  bcr_id = number_at 0 4 (body_in layout 4 image);
  bsl_id = number_at 4 4 (body_in layout 4 image);
  version_pointer = number_at 0 4 (body_in layout 5 image);
}

-- what the six bodies say: "Bits for sectors beyond MAIN are kept"
unfoldable pub settings_in : Layout → List ℕ → Settings
settings_in layout image = record {
  shown = shown_in layout image;
  protection = body_in layout 6 image;
  password = body_in layout 1 image;
  reset_password = body_in layout 2 image;
}

-- a form 1 image, like a blank one, says no name
abbrev pub name_in : Form → List ℕ → List ℕ
name_in One image = no_name
name_in Two image = body_in form2 7 image

abbrev pub contents_in : Form → List ℕ → Contents
contents_in form image = contents_of form (settings_in (layout_of form) image) (name_in form image)
