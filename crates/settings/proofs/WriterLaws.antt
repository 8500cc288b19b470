-- Written piece by piece, the pieces make the image.
use mathlib.Core.Path.{◌≡◌, sym, ap, ap₂, ◌∙◌}
use mathlib.Core.List.{List, ◌++◌, append-nil, append_assoc}
use Prim.Native.Nat.{ℕ, ◌+◌, ◌-◌, ◌≤◌}
use native.Mathlib.Omega.{arith}
use lib.ListN.{length, take, drop, replicate, length-append, length-replicate, take-append-drop}
use lib.Seq.{sets, take_at, drop-drop}
use Rattle.std.proofs.lemmas.List.{drop-replicate, take-replicate}
use Rattle.octets.specs.Number.{bytes_of, part}
use Rattle.octets.proofs.Numbers.{length-bytes_of}
use Rattle.octets.proofs.Parts.{length_part}
use Rattle.octets.proofs.StoreLaws.{sets_join, stored_front, stored_whole}
use Rattle.checksum.specs.Checksum.{checksum_of}
use Rattle.settings.specs.declared.Form.{Form}
use Rattle.settings.specs.declared.Form.TheVariants.{One, Two}
use Rattle.settings.specs.Layout.{Layout, form1, layout_of, checksum_at, table_end, bodies_end, table_of, pairs_of}
use Rattle.settings.specs.Table.{bodies_at, filler_at, table_ends, bodies_end_lem}
use Rattle.settings.proofs.TableLaws.{length_table, length_pairs, table_before}
use Rattle.settings.specs.Bodies.{name_body}
use Rattle.settings.proofs.BodyLaws.{length_all_bodies}
use Rattle.settings.specs.Image.{filler_of, sealed}
use Rattle.settings.specs.Layouts.{front_laid_out, laid_out}

-- the bodies stand before the filler, and the filler before the checksum
pub filler_there : (form : Form) → (bodies_at form ≤ filler_at form) × (filler_at form ≤ 198)
filler_there One = (omega arith, omega arith)
filler_there Two = (omega arith, omega arith)

-- ---- six bodies and a name of their lengths

module _ (form : Form) (six name : List ℕ) (bodies : length six ≡ 74) (size : length name ≡ 64) where
  abbrev all : List ℕ
  all = six ++ name_body form name

  all_bodies : length all ≡ filler_at form - bodies_at form
  all_bodies = length_all_bodies form six name bodies size

  table_size : length (pairs_of (table_of (layout_of form))) ≡ bodies_at form
  table_size = omega (arith, length_pairs (table_of (layout_of form)), length_table (layout_of form), table_ends form)

  pub length_front : length (pairs_of (table_of (layout_of form)) ++ (all ++ filler_of form)) ≡ 1020
  length_front =
      let there = filler_there form in
      simp (length-append (pairs_of (table_of (layout_of form))), length-append all, length-replicate, bodies_end_lem form)
      (omega (arith, all_bodies, table_size, there.0, there.1))

  form_size : table_end (layout_of form) + length six + length (name_body form name) ≡ bodies_end (layout_of form)
  form_size =
      let there = filler_there form in
      omega (arith, all_bodies, length-append six (name_body form name), table_ends form, bodies_end_lem form, there.0)

-- ---- in any layout

-- over bytes that are alike no more of them need be stored
filled_on : (size value count : ℕ) (bytes : List ℕ) → length bytes + count ≤ size
    → sets (replicate size value) 0 bytes ≡ sets (replicate size value) 0 (bytes ++ replicate count value)
filled_on size value count bytes room =
    let area : List ℕ = replicate size value in
    let more : List ℕ = replicate count value in
    let all : length area ≡ size = length-replicate size value in
    let both : length (bytes ++ more) ≡ length bytes + count = length-append bytes more ∙ omega (arith, length-replicate {A = ℕ} count value) in
    let here : take count (drop (length bytes) area) ≡ more =
    ap (take count) (drop-replicate (length bytes) size value) ∙ take-replicate count (size - length bytes) value (omega arith) in
    let after : drop count (drop (length bytes) area) ≡ drop (length (bytes ++ more)) area =
    drop-drop count (length bytes) area ∙ ap (λ (n : ℕ). drop n area) (sym both) in
    stored_front area bytes (omega (arith, all))
    ∙ ap (λ (rest : List ℕ). bytes ++ rest) (sym (take-append-drop count (drop (length bytes) area)) ∙ ap₂ (λ (one two : List ℕ). one ++ two) here after)
    ∙ sym (append_assoc bytes more (drop (length (bytes ++ more)) area)) ∙ sym (stored_front area (bytes ++ more) (omega (arith, all, both)))

module _ (layout : Layout) (six name : List ℕ) (size : ℕ) (fits : bodies_end layout ≤ checksum_at)
    (ends : table_end layout + length six + length name ≡ bodies_end layout) (room : 1024 ≤ size) where
  abbrev all_of_it : List ℕ
  all_of_it = pairs_of (table_of layout) ++ ((six ++ name) ++ replicate (checksum_at - bodies_end layout) 0xFF)

  length_laid_out : length all_of_it ≡ 1020
  length_laid_out =
      simp (length-append (pairs_of (table_of layout)), length-append (six ++ name), length-append six, length-replicate)
      (omega (arith, table_before layout, ends, fits))

  front_made : front_laid_out layout six name size ≡ sets (replicate size 0xFF) 0 all_of_it
  front_made =
      let area : List ℕ = replicate size 0xFF in
      let table : List ℕ = pairs_of (table_of layout) in
      sets_join (sets area 0 table) (table_end layout) (bodies_end layout - length name) six name (omega (arith, ends))
      ∙ sets_join area 0 (table_end layout) table (six ++ name) (omega (arith, table_before layout))
      ∙ filled_on size 0xFF (checksum_at - bodies_end layout) (table ++ (six ++ name))
      (omega (arith, length-append table (six ++ name), length-append six name, table_before layout, ends, fits, room))
      ∙ ap (λ (bytes : List ℕ). sets area 0 bytes) (append_assoc table (six ++ name) (replicate (checksum_at - bodies_end layout) 0xFF))

  pub laid_out_made : laid_out layout six name size ≡ sealed all_of_it ++ replicate (size - 1024) 0xFF
  unfolding laid_out
  laid_out_made =
      let area : List ℕ = replicate size 0xFF in
      let whole : length area ≡ size = length-replicate size 0xFF in
      let taken : take 1020 (sets area 0 all_of_it) ≡ all_of_it =
      ap (take 1020) (stored_front area all_of_it (omega (arith, whole, length_laid_out, room))) ∙ take_at all_of_it (drop (length all_of_it) area) 1020 length_laid_out in
      let half : length (sealed all_of_it) ≡ 1024 =
      omega (arith, length-bytes_of 4 (checksum_of all_of_it), length_laid_out, length-append all_of_it (bytes_of 4 (checksum_of all_of_it))) in
      rw (front_made, taken)
      (sets_join area 0 1020 all_of_it (bytes_of 4 (checksum_of all_of_it)) (omega (arith, length_laid_out))
      ∙ filled_on size 0xFF (size - 1024) (sealed all_of_it) (omega (arith, half, room))
      ∙ stored_whole area (sealed all_of_it ++ replicate (size - 1024) 0xFF)
      (omega (arith, length-append (sealed all_of_it) (replicate (size - 1024) 0xFF), length-replicate {A = ℕ} (size - 1024) 0xFF, half, room, whole)))

-- as a form has it
pub form_laid_out : (form : Form) (six name : List ℕ) → length six ≡ 74 → length name ≡ 64
    → laid_out (layout_of form) six (name_body form name) 1024 ≡ sealed (pairs_of (table_of (layout_of form)) ++ ((six ++ name_body form name) ++ filler_of form))
form_laid_out form six name bodies size =
    laid_out_made (layout_of form) six (name_body form name) 1024 (omega (arith, bodies_end_lem form, (filler_there form).1)) (form_size form six name bodies size) (omega arith)
    ∙ append-nil (sealed (pairs_of (table_of (layout_of form)) ++ ((six ++ name_body form name) ++ filler_of form)))

-- ---- the checksum

pub sealed_made : (area front : List ℕ) → length area ≡ 1024 → length front ≡ 1020
    → sets (sets area 0 front) 1020 (bytes_of 4 (checksum_of (take 1020 (sets area 0 front)))) ≡ sealed front
sealed_made area front l f =
    let taken : take 1020 (sets area 0 front) ≡ front =
    ap (take 1020) (stored_front area front (omega arith)) ∙ take_at front (drop (length front) area) 1020 f in
    rw taken
    (sets_join area 0 1020 front (bytes_of 4 (checksum_of front)) (omega arith)
    ∙ stored_whole area (sealed front) (omega (arith, length-append front (bytes_of 4 (checksum_of front)), length-bytes_of 4 (checksum_of front))))

-- ---- the bodies stay where they stand, and all else is made around them

pub form_1_table : length (pairs_of (table_of form1)) ≡ 52
form_1_table = omega (arith, length_pairs (table_of form1), length_table form1)

module _ (area : List ℕ) (size : length area ≡ 1024) where
  abbrev table : List ℕ
  table = pairs_of (table_of form1)

  abbrev bodies : List ℕ
  bodies = part 52 74 area

  bodies_size : length bodies ≡ 74
  bodies_size = length_part 52 74 area (omega (arith, size))

  bodies_stay : sets area 0 table ≡ sets (sets area 0 table) 52 bodies
  bodies_stay =
      let both : length (table ++ bodies) ≡ 126 = omega (arith, length-append table bodies, form_1_table, bodies_size) in
      let before : sets area 0 table ≡ table ++ drop 52 area =
      stored_front area table (omega (arith, form_1_table)) ∙ ap (λ (n : ℕ). table ++ drop n area) form_1_table in
      let rest : drop 52 area ≡ bodies ++ drop 126 area =
      sym (take-append-drop 74 (drop 52 area)) ∙ ap (λ (after : List ℕ). bodies ++ after) (drop-drop 74 52 area) in
      let stored : sets area 0 (table ++ bodies) ≡ (table ++ bodies) ++ drop 126 area =
      stored_front area (table ++ bodies) (omega (arith, both)) ∙ ap (λ (n : ℕ). (table ++ bodies) ++ drop n area) both in
      before ∙ ap (λ (after : List ℕ). table ++ after) rest ∙ sym (append_assoc table bodies (drop 126 area)) ∙ sym stored
      ∙ sym (sets_join area 0 52 table bodies (omega (arith, form_1_table)))

  pub resealed_made : sets (sets area 0 table) (bodies_end form1) (filler_of One) ≡ sets area 0 (table ++ (bodies ++ filler_of One))
  resealed_made =
      ap (λ (stored : List ℕ). sets stored (bodies_end form1) (filler_of One)) bodies_stay
      ∙ sets_join (sets area 0 table) 52 (bodies_end form1) bodies (filler_of One) (omega (arith, bodies_size, bodies_end_lem One))
      ∙ sets_join area 0 52 table (bodies ++ filler_of One) (omega (arith, form_1_table))

  pub resealed_size : length (table ++ (bodies ++ filler_of One)) ≡ 1020
  resealed_size =
      simp (length-append table, length-append bodies, length-replicate, bodies_end_lem One) (omega (arith, form_1_table, bodies_size))
