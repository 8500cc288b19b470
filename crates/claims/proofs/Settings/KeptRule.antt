-- What a session keeps, as the fields of a record: reading what was made gives it back, on either part.
use mathlib.Core.Path.{◌≡◌, sym, ap, ap₂, ◌∙◌}
use mathlib.Core.List.{List, ◌++◌, append_assoc}
use mathlib.Core.Logic.{⊎_elim}
use Prim.Native.Nat.{ℕ, ◌-◌, ◌≤◌}
use native.Mathlib.Omega.{arith}
use borrow.Author.Tests.{eq-eqb, ne_eqb}
use lib.ListN.{length, get_or, take, drop, replicate, length-append, length-replicate, take-append-drop}
use lib.Seq.{take_all, take_at, drop_at, length-take-le}
use Rattle.octets.specs.Number.{bytes_of, part}
use Rattle.octets.proofs.Parts.{each_part}
use Rattle.octets.proofs.Searching.{pick_true, pick_false}
use Rattle.octets.proofs.StoreLaws.{stored_front}
use Rattle.parts.specs.declared.Part.{Part}
use Rattle.settings.specs.Held.{Settings}
use Rattle.settings.specs.Held.{Kept}
use Rattle.settings.specs.Layout.{form1, offset_of, sum_of}
use Rattle.settings.specs.Bodies.{values_of, numbers_of, bodies_with, bodies_of, settings_in}
use Rattle.settings.specs.Fields.{fields_read}
use Rattle.settings.specs.Kept.{kept_of, no_kept, kept_said, kept_read, kept_bodies}
use Rattle.settings.proofs.BodyLaws.{length_kept}
use Rattle.settings.proofs.AgainLaws.{after_five, placed, from_52, unused_at_53}
use Rattle.c_records.specs.Records.{record_size}
use Rattle.c_records.proofs.RecordLaws.{two_sizes}
use Rattle.claims.specs.Held.{Bytes, Held, HeldKept}
use Rattle.claims.proofs.Settings.Bodies.{settings_back, unused_is_zero}
use Rattle.claims.proofs.Settings.FieldsRule.{fields_size_lem, read_after_made, made_unused}

-- the fields of a record
abbrev pub fields_in : Part → Kept → List ℕ
fields_in board kept = take (record_size board - 20) (kept_bodies kept)

-- what a session keeps, of bytes
module _ (k : Kept) (password : Bytes 32 k.password) (reset : Bytes 16 k.reset_password) (protection : Bytes 32 k.protection) where
  -- as an MSPM0 has it, whatever the sectors beyond its own are
  abbrev narrowed : Settings
  narrowed = record { shown = k.shown; protection = take 8 k.protection; password = k.password; reset_password = k.reset_password }

  six_and_more : kept_bodies k ≡ bodies_of narrowed ++ drop 8 k.protection
  unfolding kept_bodies bodies_of
  six_and_more =
      ap (bodies_with k.password k.reset_password k.shown) (sym (take-append-drop 8 k.protection))
      ∙ after_five k.password k.reset_password (values_of k.shown) (numbers_of k.shown) (take 8 k.protection) (drop 8 k.protection)

  pub all_size : length (kept_bodies k) ≡ 98
  all_size = length_kept k password.size reset.size protection.size

module _ (board : Part) (k : Kept) (held : HeldKept board k) where
  abbrev first : Settings
  first = narrowed k held.password held.reset held.protection

  first_held : Held first
  first_held = record {
    shown = held.shown;
    protection = record { size = length-take-le 8 k.protection (omega (arith, held.protection.size)); each = each_part 0 8 k.protection held.protection.each };
    password = held.password;
    reset = held.reset;
  }

  more : kept_bodies k ≡ bodies_of first ++ drop 8 k.protection
  more = six_and_more k held.password held.reset held.protection

  size : length (kept_bodies k) ≡ 98
  size = all_size k held.password held.reset held.protection

  -- ---- all of it

  fields_placed : drop 52 (placed (kept_bodies k)) ≡ bodies_of first ++ drop 8 k.protection
  fields_placed = from_52 (kept_bodies k) ∙ more

  said_back : settings_in form1 (placed (kept_bodies k)) ≡ first
  said_back = settings_back first first_held (placed (kept_bodies k)) (drop 8 k.protection) fields_placed

  protection_there : part 66 32 (kept_bodies k) ≡ k.protection
  unfolding kept_bodies bytes_of
  protection_there =
      let p = held.password.size in
      let r = held.reset.size in
      let five : List ℕ = k.password ++ (k.reset_password ++ (values_of k.shown ++ numbers_of k.shown)) in
      let joined : kept_bodies k ≡ five ++ k.protection =
      sym (append_assoc k.password (k.reset_password ++ (values_of k.shown ++ numbers_of k.shown)) k.protection
      ∙ ap (λ (l : List ℕ). k.password ++ l) (append_assoc k.reset_password (values_of k.shown ++ numbers_of k.shown) k.protection
      ∙ ap (λ (l : List ℕ). k.reset_password ++ l) (append_assoc (values_of k.shown) (numbers_of k.shown) k.protection))) in
      let sixty_six : length five ≡ 66 = length-append k.password _ ∙ omega (arith, length-append k.reset_password (values_of k.shown ++ numbers_of k.shown)) in
      ap (part 66 32) joined ∙ ap (take 32) (drop_at five k.protection 66 sixty_six) ∙ take_all 32 k.protection (omega (arith, held.protection.size))

  pub whole_back : kept_read (kept_bodies k) ≡ k
  unfolding kept_read settings_in placed offset_of sum_of
  whole_back =
      pick_false (kept_of (fields_read form1 (kept_bodies k))) _ (ne_eqb (length (kept_bodies k)) 74 (λ e. omega (arith, size)))
      ∙ pick_true (kept_said (kept_bodies k)) no_kept (eq-eqb (length (kept_bodies k)) 98 size)
      ∙ ap₂ (λ (settings : Settings) (bits : List ℕ). record { shown = settings.shown; protection = bits; password = settings.password; reset_password = settings.reset_password })
      said_back protection_there

  pub whole_unused : get_or (kept_bodies k) 53 0 ≡ 0
  whole_unused = sym (unused_at_53 (kept_bodies k)) ∙ unused_is_zero first first_held (placed (kept_bodies k)) (drop 8 k.protection) fields_placed

  -- ---- an MSPM0's record

  module _ (short : record_size board ≡ 94) where
    short_fields : fields_in board k ≡ bodies_of first
    short_fields =
        ap₂ (λ (n : ℕ) (l : List ℕ). take (n - 20) l) short more ∙ take_at (bodies_of first) (drop 8 k.protection) 74 (fields_size_lem first first_held)

    zeros_beyond : drop 8 k.protection ≡ replicate 24 0
    zeros_beyond = rw short at held.beyond

    filled : kept_of first ≡ k
    filled =
        let eight = first_held.protection.size in
        let few : length first.protection ≤ length (replicate {A = ℕ} 32 0) = omega (arith, length-replicate {A = ℕ} 32 0) in
        ap (λ (bits : List ℕ). record { shown = k.shown; protection = bits; password = k.password; reset_password = k.reset_password })
        (stored_front (replicate 32 0) first.protection few
        ∙ ap (λ (n : ℕ). first.protection ++ drop n (replicate 32 0)) eight
        ∙ ap (λ (l : List ℕ). first.protection ++ l) (sym zeros_beyond) ∙ take-append-drop 8 k.protection)

    short_back : kept_read (fields_in board k) ≡ k
    unfolding kept_read
    short_back =
        ap kept_read short_fields
        ∙ pick_true (kept_of (fields_read form1 (bodies_of first))) _ (eq-eqb (length (bodies_of first)) 74 (fields_size_lem first first_held))
        ∙ ap kept_of (read_after_made first first_held) ∙ filled

    short_unused : get_or (fields_in board k) 53 0 ≡ 0
    short_unused = ap (λ (l : List ℕ). get_or l 53 0) short_fields ∙ made_unused first first_held

  -- ---- the larger part's

  module _ (long : record_size board ≡ 118) where
    long_fields : fields_in board k ≡ kept_bodies k
    long_fields = ap (λ (n : ℕ). take (n - 20) (kept_bodies k)) long ∙ take_all 98 (kept_bodies k) (omega (arith, size))

    long_back : kept_read (fields_in board k) ≡ k
    long_back = ap kept_read long_fields ∙ whole_back

    long_unused : get_or (fields_in board k) 53 0 ≡ 0
    long_unused = ap (λ (l : List ℕ). get_or l 53 0) long_fields ∙ whole_unused

  -- ---- either

  pub kept_back : kept_read (fields_in board k) ≡ k
  kept_back = ⊎_elim short_back long_back (two_sizes board)

  pub kept_unused : get_or (fields_in board k) 53 0 ≡ 0
  kept_unused = ⊎_elim short_unused long_unused (two_sizes board)

  pub kept_size_lem : length (fields_in board k) ≡ record_size board - 20
  kept_size_lem =
      ⊎_elim (λ (e : record_size board ≡ 94). length-take-le (record_size board - 20) (kept_bodies k) (omega (arith, size)))
      (λ (e : record_size board ≡ 118). length-take-le (record_size board - 20) (kept_bodies k) (omega (arith, size))) (two_sizes board)
