-- The bodies of some settings, where they stand from byte 52 on: read, they say the settings; of what is read, they are made again.
use mathlib.Core.Path.{◌≡◌, refl, ◌∙◌}
use mathlib.Core.List.{List, ◌++◌, append_assoc}
use Prim.Native.Nat.{ℕ}
use lib.ListN.{length, get_or, drop}
use Rattle.octets.specs.Number.{bytes_of, part, number_at}
use Rattle.octets.proofs.Numbers.{length-bytes_of, number_of_bytes}
use Rattle.octets.proofs.Parts.{part_there, from_next}
use Rattle.settings.specs.Held.{Settings}
use Rattle.settings.specs.Layout.{form1, offset_of, sum_of}
use Rattle.settings.specs.Bodies.{values_of, bodies_of, shown_in, settings_in}
use Rattle.claims.specs.Held.{Held}

-- ---- settings whose bodies stand there

module _ (s : Settings) (held : Held s) (image rest : List ℕ) (bodies : drop 52 image ≡ bodies_of s ++ rest) where
  values : List ℕ
  values = values_of s.shown

  ids : List ℕ
  ids = bytes_of 4 s.shown.bcr_id ++ bytes_of 4 s.shown.bsl_id

  pointer : List ℕ
  pointer = bytes_of 4 s.shown.version_pointer

  values_size : length values ≡ 6
  unfolding values bytes_of
  values_size = refl

  ids_size : length ids ≡ 8
  unfolding ids bytes_of
  ids_size = refl

  pointer_size : length pointer ≡ 4
  unfolding pointer
  pointer_size = length-bytes_of 4 s.shown.version_pointer

  -- what follows each place where a body begins
  abbrev after_118 : List ℕ
  after_118 = s.protection ++ rest

  abbrev after_114 : List ℕ
  after_114 = pointer ++ after_118

  abbrev after_106 : List ℕ
  after_106 = ids ++ after_114

  abbrev after_100 : List ℕ
  after_100 = values ++ after_106

  abbrev after_84 : List ℕ
  after_84 = s.reset_password ++ after_100

  in_parts : bodies_of s ++ rest ≡ s.password ++ after_84
  unfolding values ids pointer bodies_of
  in_parts = simp append_assoc

  from_52 : drop 52 image ≡ s.password ++ after_84
  from_52 = bodies ∙ in_parts

  from_84 : drop 84 image ≡ after_84
  from_84 = from_next image 52 32 s.password after_84 from_52 held.password.size

  from_100 : drop 100 image ≡ after_100
  from_100 = from_next image 84 16 s.reset_password after_100 from_84 held.reset.size

  from_106 : drop 106 image ≡ after_106
  from_106 = from_next image 100 6 values after_106 from_100 values_size

  from_114 : drop 114 image ≡ after_114
  from_114 = from_next image 106 8 ids after_114 from_106 ids_size

  from_118 : drop 118 image ≡ after_118
  from_118 = from_next image 114 4 pointer after_118 from_114 pointer_size

  pub from_126 : drop 126 image ≡ rest
  from_126 = from_next image 118 8 s.protection rest from_118 held.protection.size

  readout_back : number_at 2 2 values ≡ s.shown.readout
  unfolding values bytes_of
  readout_back = number_of_bytes 2 s.shown.readout held.shown.readout

  bcr_back : number_at 0 4 ids ≡ s.shown.bcr_id
  unfolding ids bytes_of
  bcr_back = number_of_bytes 4 s.shown.bcr_id held.shown.bcr

  bsl_back : number_at 4 4 ids ≡ s.shown.bsl_id
  unfolding ids bytes_of
  bsl_back = number_of_bytes 4 s.shown.bsl_id held.shown.bsl

  pointer_back : number_at 0 4 pointer ≡ s.shown.version_pointer
  unfolding pointer bytes_of
  pointer_back = number_of_bytes 4 s.shown.version_pointer held.shown.pointer

  values_there : part 100 6 image ≡ values
  values_there = part_there image 100 6 values after_106 from_100 values_size

  pub shown_back : shown_in form1 image ≡ s.shown
  unfolding shown_in offset_of sum_of values bytes_of
  shown_back =
      rw (part_there image 106 8 ids after_114 from_106 ids_size, part_there image 114 4 pointer after_118 from_114 pointer_size, values_there, bcr_back, bsl_back, pointer_back, readout_back)

  pub settings_back : settings_in form1 image ≡ s
  unfolding settings_in offset_of sum_of
  settings_back =
      rw (
        shown_back,
        part_there image 118 8 s.protection rest from_118 held.protection.size,
        part_there image 52 32 s.password after_84 from_52 held.password.size,
        part_there image 84 16 s.reset_password after_100 from_84 held.reset.size,
      )

  -- the last byte of body 3
  pub unused_is_zero : get_or (part 100 6 image) 5 0 ≡ 0
  unfolding values bytes_of
  unused_is_zero = rw values_there
