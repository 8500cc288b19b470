-- The bodies joined piece by piece, and found where an image has them.
use mathlib.Core.Path.{◌≡◌, sym, ap, ◌∙◌}
use mathlib.Core.List.{List, ◌++◌, append-nil, append_assoc}
use Prim.Native.Nat.{ℕ, ◌+◌, ◌-◌, ◌≤◌}
use native.Mathlib.Omega.{arith}
use borrow.Author.Tests.{eq-eqb}
use lib.Dec.{eqb}
use lib.ListN.{length, get_or, take, drop, replicate, length-append, length-replicate}
use lib.Seq.{sets, take_at, get_or-take, get_or-drop}
use Rattle.octets.specs.Choice.{pick}
use Rattle.octets.specs.Number.{bytes_of, part}
use Rattle.octets.proofs.Parts.{length_part, part_of_part}
use Rattle.octets.proofs.Searching.{pick_true}
use Rattle.octets.proofs.StoreLaws.{sets_join, stored_front, stored_whole}
use Rattle.settings.specs.declared.Shown.{Shown}
use Rattle.settings.specs.Held.{Settings, Kept}
use Rattle.settings.specs.Values.{no_settings}
use Rattle.settings.specs.declared.Form.{Form}
use Rattle.settings.specs.declared.Form.TheVariants.{One, Two}
use Rattle.settings.specs.Layout.{form1, layout_of, offset_of, sum_of}
use Rattle.settings.specs.Table.{bodies_at, filler_at, bodies_end_lem}
use Rattle.settings.specs.Bodies.{values_of, numbers_of, bodies_with, bodies_of, name_body, body_in, shown_in, settings_in}
use Rattle.settings.specs.Fields.{fields_size, fields_read}
use Rattle.settings.specs.Kept.{kept_of, no_kept, kept_said, kept_read, kept_bodies}

-- a body that is put into an array of its own size is all that the array has
pub body_taken : (at size : ℕ) (fields : List ℕ) → at + size ≤ length fields
    → sets (replicate size 0) 0 (part at size fields) ≡ part at size fields
body_taken at size fields there =
    stored_whole (replicate size 0) (part at size fields) (length-replicate size 0 ∙ sym (length_part at size fields there))

-- arrays of the bodies' lengths, stored into zeros one after the other
module _ (p r s : List ℕ) (lp : length p ≡ 32) (lr : length r ≡ 16) (ls : length s ≡ 18) where
  length_five : length (p ++ (r ++ s)) ≡ 66
  length_five = simp length-append (omega arith)

  pub five_joined : sets (sets (sets (replicate 66 0) 0 p) 32 r) 48 s ≡ p ++ (r ++ s)
  five_joined =
      sets_join (sets (replicate 66 0) 0 p) 32 48 r s (omega arith)
      ∙ sets_join (replicate 66 0) 0 32 p (r ++ s) (omega arith)
      ∙ stored_whole (replicate 66 0) (p ++ (r ++ s)) (sym length_five)

  -- and then the protection, of any size that there is room for
  pub protection_joined : (size : ℕ) (q : List ℕ) → length q ≡ size → size ≤ 32
      → part 0 (66 + size) (sets (sets (replicate 98 0) 0 (p ++ (r ++ s))) 66 q) ≡ p ++ (r ++ (s ++ q))
  protection_joined size q lq few =
      let five : List ℕ = p ++ (r ++ s) in
      let zeros : List ℕ = replicate 98 0 in
      let all : length (five ++ q) ≡ 66 + size = length-append five q ∙ omega (arith, length_five, lq) in
      let room : length (five ++ q) ≤ length zeros = omega (arith, all, few, length-replicate {A = ℕ} 98 0) in
      ap (take (66 + size))
      (sets_join zeros 0 66 five q (omega (arith, length_five)) ∙ stored_front zeros (five ++ q) room)
      ∙ take_at (five ++ q) (drop (length (five ++ q)) zeros) (66 + size) all
      ∙ append_assoc p (r ++ s) q ∙ ap (λ (l : List ℕ). p ++ l) (append_assoc r s q)

-- bodies 3 to 5 as one
pub bodies_made : (password reset : List ℕ) (shown : Shown) (protection : List ℕ)
    → password ++ (reset ++ ((values_of shown ++ numbers_of shown) ++ protection)) ≡ bodies_with password reset shown protection
bodies_made password reset shown protection =
    ap (λ (l : List ℕ). password ++ (reset ++ l)) (append_assoc (values_of shown) (numbers_of shown) protection)

-- settings whose arrays have their lengths, as every value of the struct has
module _ (s : Settings) (p : length s.password ≡ 32) (r : length s.reset_password ≡ 16) (q : length s.protection ≡ 8) where
  pub length_bodies : length (bodies_of s) ≡ 74
  unfolding bodies_of bytes_of
  length_bodies = simp length-append (omega arith)

-- what a session keeps, of as many bytes as its struct has
module _ (k : Kept) (p : length k.password ≡ 32) (r : length k.reset_password ≡ 16) (q : length k.protection ≡ 32) where
  pub length_kept : length (kept_bodies k) ≡ 98
  unfolding kept_bodies bytes_of
  length_kept = simp length-append (omega arith)

-- where the bodies begin, in either form
pub bodies_begin : (form : Form) → bodies_at form ≤ 60
bodies_begin One = omega arith
bodies_begin Two = omega arith

-- byte 53 of the six bodies is the last of body 3
pub sixth : (fields : List ℕ) → get_or fields 53 0 ≡ get_or (part 48 6 fields) 5 0
sixth fields = sym (get_or-take 6 (drop 48 fields) 5 0 (omega arith) ∙ get_or-drop 48 fields 5 0)

-- the six bodies, and the name where the form has one
pub length_all_bodies : (form : Form) (six name : List ℕ) → length six ≡ 74 → length name ≡ 64
    → length (six ++ name_body form name) ≡ filler_at form - bodies_at form
length_all_bodies One six name b n = simp append-nil (omega arith)
length_all_bodies Two six name b n = simp length-append (omega arith)

-- ---- the bodies of an image, taken out of it

module _ (image : List ℕ) where
  within : (at first count : ℕ) → first + count ≤ 74 → part first count (part at 74 image) ≡ part (at + first) count image
  within at first count h = part_of_part at 74 first count image h

  -- what the six bodies say by themselves, they say in the image, in either form
  settings_there : (form : Form) → settings_in form1 (replicate 52 0 ++ part (bodies_at form) 74 image) ≡ settings_in (layout_of form) image
  unfolding settings_in shown_in offset_of sum_of
  settings_there One =
      rw (← within 52 0 32 (omega arith), ← within 52 32 16 (omega arith), ← within 52 48 6 (omega arith), ← within 52 54 8 (omega arith), ← within 52 62 4 (omega arith), ← within 52 66 8 (omega arith))
  settings_there Two =
      rw (← within 60 0 32 (omega arith), ← within 60 32 16 (omega arith), ← within 60 48 6 (omega arith), ← within 60 54 8 (omega arith), ← within 60 62 4 (omega arith), ← within 60 66 8 (omega arith))

  pub fields_there : (form : Form) → 134 ≤ length image → fields_read form1 (part (bodies_at form) 74 image) ≡ settings_in (layout_of form) image
  unfolding fields_read
  fields_there form h =
      let size : length (part (bodies_at form) 74 image) ≡ fields_size form1 =
      omega (arith, bodies_end_lem One, length_part (bodies_at form) 74 image (omega (arith, bodies_begin form))) in
      pick_true _ no_settings (eq-eqb (length (part (bodies_at form) 74 image)) (fields_size form1) size) ∙ settings_there form

  -- a session keeps of the image what it keeps of these bodies
  pub kept_there : (form : Form) → 134 ≤ length image → kept_read (part (bodies_at form) 74 image) ≡ kept_of (settings_in (layout_of form) image)
  unfolding kept_read
  kept_there form h =
      let size = length_part (bodies_at form) 74 image (omega (arith, bodies_begin form)) in
      pick_true _ (pick (eqb (length (part (bodies_at form) 74 image)) 98) (kept_said (part (bodies_at form) 74 image)) no_kept) (eq-eqb _ 74 size)
      ∙ ap kept_of (fields_there form h)

  -- and so does the last byte of body 3
  pub zero_there : (form : Form) → get_or (part (bodies_at form) 74 image) 53 0 ≡ get_or (body_in (layout_of form) 3 image) 5 0
  unfolding offset_of sum_of
  zero_there One = sixth (part 52 74 image) ∙ ap (λ (l : List ℕ). get_or l 5 0) (within 52 48 6 (omega arith))
  zero_there Two = sixth (part 60 74 image) ∙ ap (λ (l : List ℕ). get_or l 5 0) (within 60 48 6 (omega arith))
