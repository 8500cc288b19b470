-- Fields that were read: of the settings that they say, the same fields are made again.
use mathlib.Core.Path.{◌≡◌, refl, sym, ap, ap₂, ◌∙◌}
use mathlib.Core.Bool.{true, false}
use mathlib.Core.List.{List, [], ◌∷◌, ◌++◌, append_assoc}
use Prim.Native.Nat.{ℕ, ◌+◌, ◌≤◌, ◌<◌}
use native.Mathlib.Omega.{arith}
use borrow.Author.Tests.{eq-eqb, ne_eqb, eqb-true, not-false}
use lib.ListN.{length, get_or, take, drop, replicate, length-append, length-drop, length-replicate, take-append-drop}
use lib.Seq.{take_all, drop_at, get_or-take, get_or-drop, get_or-append-add}
use Rattle.octets.specs.Number.{number_of, bytes_of, part, number_at}
use Rattle.octets.proofs.Numbers.{bytes_of_number}
use Rattle.octets.proofs.Parts.{length_part, parts_join, part_of_part, each_part, each_append, each_replicate}
use Rattle.octets.proofs.Searching.{pick_true, pick_false, pick_both}
use Rattle.octets.proofs.StoreLaws.{stored_front}
use Rattle.settings.specs.declared.Form.{Form}
use Rattle.settings.specs.Held.{Settings}
use Rattle.settings.specs.Values.{is_allowed, no_settings}
use Rattle.settings.specs.Layout.{form1, layout_of, offset_of, sum_of}
use Rattle.settings.specs.declared.Form.TheVariants.{One}
use Rattle.settings.specs.Table.{bodies_at, bodies_end_lem}
use Rattle.settings.specs.Bodies.{values_of, numbers_of, bodies_with, bodies_of, shown_in, settings_in}
use Rattle.settings.specs.Fields.{fields_size, fields_read}
use Rattle.settings.specs.Kept.{filled_up, kept_of, no_kept, kept_said, kept_read, kept_bodies}
use Rattle.settings.specs.Reader.{value_not_allowed}
use Rattle.settings.proofs.BodyLaws.{bodies_begin, fields_there, zero_there}

-- the six bytes of body 3, from the values that are read of them
values_again : (body : List ℕ) → length body ≡ 6 → ((k : ℕ) → get_or body k 0 < 256) → get_or body 5 0 ≡ 0
    → get_or body 0 0 ∷ get_or body 1 0 ∷ (bytes_of 2 (number_at 2 2 body) ++ (get_or body 4 0 ∷ 0 ∷ [])) ≡ body
values_again (a ∷ b ∷ c ∷ d ∷ e ∷ f ∷ []) l each z =
    ap₂ (λ (two : List ℕ) (last : ℕ). a ∷ b ∷ (two ++ (e ∷ last ∷ []))) (bytes_of_number (c ∷ d ∷ []) (each_part 2 2 (a ∷ b ∷ c ∷ d ∷ e ∷ f ∷ []) each)) (sym z)
values_again [] l each z = absurd (omega arith)
values_again (a ∷ []) l each z = absurd (omega arith)
values_again (a ∷ b ∷ []) l each z = absurd (omega arith)
values_again (a ∷ b ∷ c ∷ []) l each z = absurd (omega arith)
values_again (a ∷ b ∷ c ∷ d ∷ []) l each z = absurd (omega arith)
values_again (a ∷ b ∷ c ∷ d ∷ e ∷ []) l each z = absurd (omega arith)
values_again (a ∷ b ∷ c ∷ d ∷ e ∷ f ∷ g ∷ rest) l each z = absurd (omega arith)

module _ (image : List ℕ) (each : (k : ℕ) → get_or image k 0 < 256) where
  -- the number of so many bytes, as bytes again
  pub number_again : (at width : ℕ) → at + width ≤ length image → bytes_of width (number_at at width image) ≡ part at width image
  number_again at width h =
      ap (λ (n : ℕ). bytes_of n (number_at at width image)) (sym (length_part at width image h))
      ∙ bytes_of_number (part at width image) (each_part at width image each)

  module _ (size : 126 ≤ length image) where
    pub values_made : get_or (part 100 6 image) 5 0 ≡ 0 → values_of (shown_in form1 image) ≡ part 100 6 image
    unfolding shown_in offset_of sum_of
    values_made = values_again (part 100 6 image) (length_part 100 6 image (omega arith)) (each_part 100 6 image each)

    ids_within : (at : ℕ) → at + 4 ≤ 8 → number_at at 4 (part 106 8 image) ≡ number_at (106 + at) 4 image
    ids_within at h = ap number_of (part_of_part 106 8 at 4 image h)

    pub numbers_made : numbers_of (shown_in form1 image) ≡ part 106 12 image
    unfolding shown_in offset_of sum_of
    numbers_made =
        rw (
          ids_within 0 (omega arith),
          ids_within 4 (omega arith),
          part_of_part 114 4 0 4 image (omega arith),
          number_again 106 4 (omega arith),
          number_again 110 4 (omega arith),
          number_again 114 4 (omega arith),
          parts_join 110 4 4 image,
          parts_join 106 4 8 image,
        )

    pub bodies_again : get_or (part 100 6 image) 5 0 ≡ 0 → bodies_of (settings_in form1 image) ≡ part 52 74 image
    unfolding bodies_of settings_in offset_of sum_of
    bodies_again zero =
        ap₂ (λ (values numbers : List ℕ). part 52 32 image ++ (part 84 16 image ++ (values ++ (numbers ++ part 118 8 image)))) (values_made zero) numbers_made
        ∙ rw (parts_join 106 12 8 image, parts_join 100 6 20 image, parts_join 84 16 26 image, parts_join 52 32 42 image)

-- the parts of the six bodies are all that there is
parts_are_all : (fields : List ℕ) → part 0 32 fields ++ (part 32 16 fields ++ (part 48 6 fields ++ (part 54 12 fields ++ drop 66 fields))) ≡ fields
parts_are_all fields =
    let third : List ℕ = part 54 12 fields ++ drop 66 fields in
    let second : List ℕ = part 48 6 fields ++ third in
    sym (append_assoc (part 0 32 fields) (part 32 16 fields) second)
    ∙ ap (λ (l : List ℕ). l ++ second) (parts_join 0 32 16 fields)
    ∙ sym (append_assoc (part 0 48 fields) (part 48 6 fields) third)
    ∙ ap (λ (l : List ℕ). l ++ third) (parts_join 0 48 6 fields)
    ∙ sym (append_assoc (part 0 54 fields) (part 54 12 fields) (drop 66 fields))
    ∙ ap (λ (l : List ℕ). l ++ drop 66 fields) (parts_join 0 54 12 fields) ∙ take-append-drop 66 fields

-- what comes after the last of five comes after all
pub after_five : (a b c d e rest : List ℕ) → a ++ (b ++ (c ++ (d ++ (e ++ rest)))) ≡ (a ++ (b ++ (c ++ (d ++ e)))) ++ rest
after_five a b c d e rest =
    ap (λ (l : List ℕ). a ++ (b ++ (c ++ l))) (sym (append_assoc d e rest))
    ∙ ap (λ (l : List ℕ). a ++ (b ++ l)) (sym (append_assoc c (d ++ e) rest))
    ∙ ap (λ (l : List ℕ). a ++ l) (sym (append_assoc b (c ++ (d ++ e)) rest)) ∙ sym (append_assoc a (b ++ (c ++ (d ++ e))) rest)

-- fields after a table of zeros
unfoldable pub placed : List ℕ → List ℕ
placed fields = replicate 52 0 ++ fields

module _ (fields : List ℕ) where
  pub from_52 : drop 52 (placed fields) ≡ fields
  unfolding placed
  from_52 = drop_at (replicate 52 0) fields 52 refl

  -- the last byte of body 3 is byte 53 of the fields
  pub unused_at_53 : get_or (part 100 6 (placed fields)) 5 0 ≡ get_or fields 53 0
  unfolding placed
  unused_at_53 =
      get_or-take 6 (drop 100 (placed fields)) 5 0 (omega arith) ∙ get_or-drop 100 (placed fields) 5 0 ∙ get_or-append-add (replicate 52 0) fields 53 0

  pub fields_said : length fields ≡ 74 → fields_read form1 fields ≡ settings_in form1 (placed fields)
  unfolding fields_read placed
  fields_said n =
      let size : length fields ≡ fields_size form1 = omega (arith, bodies_end_lem One) in
      pick_true _ no_settings (eq-eqb (length fields) (fields_size form1) size)

  pub made_after_read : length fields ≡ 74 → ((k : ℕ) → get_or fields k 0 < 256) → get_or fields 53 0 ≡ 0 → bodies_of (fields_read form1 fields) ≡ fields
  unfolding placed
  made_after_read n each zero =
      ap bodies_of (fields_said n)
      ∙ bodies_again (placed fields) (each_append (replicate 52 0) fields (each_replicate 52 0 (omega arith)) each)
      (omega (arith, length-append (replicate 52 0) fields)) (unused_at_53 ∙ zero)
      ∙ ap (take 74) from_52 ∙ take_all 74 fields (omega arith)

  -- of what a session keeps of them the same bytes are made, and zeros after those of an MSPM0
  module _ (each : (k : ℕ) → get_or fields k 0 < 256) (zero : get_or fields 53 0 ≡ 0) where
    pub short_again : length fields ≡ 74 → kept_bodies (kept_read fields) ≡ fields ++ replicate 24 0
    unfolding kept_read kept_bodies bodies_of settings_in placed offset_of sum_of
    short_again n =
        let s = fields_read form1 fields in
        let said = fields_said n in
        let eight : length s.protection ≡ 8 =
        ap (λ (settings : Settings). length settings.protection) said
        ∙ length_part 118 8 (replicate 52 0 ++ fields) (omega (arith, length-append (replicate 52 0) fields)) in
        let few : length s.protection ≤ length (replicate {A = ℕ} 32 0) = omega (arith, length-replicate {A = ℕ} 32 0) in
        let filled : filled_up s.protection ≡ s.protection ++ replicate 24 0 =
        stored_front (replicate 32 0) s.protection few ∙ ap (λ (size : ℕ). s.protection ++ drop size (replicate 32 0)) eight in
        ap kept_bodies (pick_true (kept_of s) _ (eq-eqb (length fields) 74 n))
        ∙ ap (bodies_with s.password s.reset_password s.shown) filled
        ∙ after_five s.password s.reset_password (values_of s.shown) (numbers_of s.shown) s.protection (replicate 24 0)
        ∙ ap (λ (l : List ℕ). l ++ replicate 24 0) (made_after_read n each zero)

    pub long_again : length fields ≡ 98 → kept_bodies (kept_read fields) ≡ fields
    unfolding kept_read kept_bodies placed
    long_again n =
        let image = replicate 52 0 ++ fields in
        let bytes = each_append (replicate 52 0) fields (each_replicate 52 0 (omega arith)) each in
        let long : 126 ≤ length image = omega (arith, length-append (replicate 52 0) fields) in
        let last : part 66 32 fields ≡ drop 66 fields = take_all 32 (drop 66 fields) (omega (arith, length-drop 66 fields)) in
        ap kept_bodies
        (pick_false (kept_of (fields_read form1 fields)) _ (ne_eqb (length fields) 74 (λ e. omega arith)) ∙ pick_true (kept_said fields) no_kept (eq-eqb (length fields) 98 n))
        ∙ ap₂ (λ (values numbers : List ℕ). part 0 32 fields ++ (part 32 16 fields ++ (values ++ (numbers ++ part 66 32 fields))))
        (values_made image bytes long (unused_at_53 ∙ zero)) (numbers_made image bytes long)
        ∙ ap (λ (protection : List ℕ). part 0 32 fields ++ (part 32 16 fields ++ (part 48 6 fields ++ (part 54 12 fields ++ protection)))) last
        ∙ parts_are_all fields

-- an image of a form whose values and zero byte are allowed
module _ (form : Form) (image : List ℕ) (size : length image ≡ 1024) (value : value_not_allowed form image ≡ false) where
  -- of what its six bodies say, they are made again
  pub bodies_made_again : ((k : ℕ) → get_or image k 0 < 256) → bodies_of (settings_in (layout_of form) image) ≡ part (bodies_at form) 74 image
  unfolding value_not_allowed
  bodies_made_again each =
      let fields = part (bodies_at form) 74 image in
      let zero : get_or fields 53 0 ≡ 0 = zero_there image form ∙ eqb-true _ _ (pick_both _ _ (not-false _ value)).1 in
      ap bodies_of (sym (fields_there image form (omega arith)))
      ∙ made_after_read fields (length_part (bodies_at form) 74 image (omega (arith, bodies_begin form))) (each_part (bodies_at form) 74 image each) zero

  -- and what they say is allowed
  pub read_is_allowed : is_allowed (settings_in (layout_of form) image).shown ≡ true
  unfolding settings_in value_not_allowed
  read_is_allowed = (pick_both _ _ (not-false _ value)).0
