-- What a session keeps, read body by body; and narrowed to what an MSPM0's image holds.
use mathlib.Core.Path.{◌≡◌, sym, ap, ◌∙◌}
use mathlib.Core.Bool.{true, false, false≢true}
use mathlib.Core.List.{List, ◌++◌}
use mathlib.Core.Logic.{◌⊎◌, inl, inr, ⊎_elim}
use Prim.Native.Nat.{ℕ, ◌≤◌}
use native.Mathlib.Omega.{arith}
use borrow.Author.Tests.{eq-eqb, ne_eqb, eqb-true}
use lib.Dec.{eqb}
use lib.ListN.{length, drop, replicate, length-append, length-drop, length-replicate}
use lib.Seq.{sets, length-sets, take_all}
use Rattle.octets.specs.Number.{part}
use Rattle.octets.proofs.Parts.{length_part}
use Rattle.octets.proofs.Searching.{pick_true, pick_false, by_test}
use Rattle.octets.proofs.StoreLaws.{sets_out, sets_join, stored_front, stored_whole}
use Rattle.settings.specs.Held.{Settings, Kept}
use Rattle.settings.specs.Layout.{form1, offset_of, sum_of}
use Rattle.settings.specs.Bodies.{shown_in, settings_in}
use Rattle.settings.specs.Fields.{fields_read}
use Rattle.settings.specs.Kept.{filled_up, kept_of, no_kept, kept_said, kept_read, is_fields_size, narrowed_of}
use Rattle.settings.proofs.AgainLaws.{placed, fields_said}

-- eight bytes, filled up and narrowed
eight_again : (q : List ℕ) → length q ≡ 8 → sets (replicate 8 0) 0 (filled_up q) ≡ q
eight_again q e =
    let rest : List ℕ = drop (length q) (replicate 32 0) in
    ap (sets (replicate 8 0) 0) (stored_front (replicate 32 0) q (omega (arith, length-replicate {A = ℕ} 32 0)))
    ∙ sym (sets_join (replicate 8 0) 0 8 q rest (omega arith))
    ∙ sets_out (sets (replicate 8 0) 0 q) 8 rest (omega (arith, length-sets (replicate 8 0) 0 q)) ∙ stored_whole (replicate 8 0) q (sym e)

module _ (fields : List ℕ) where
  pub fields_sizes : is_fields_size (length fields) ≡ true → (length fields ≡ 74) ⊎ (length fields ≡ 98)
  unfolding is_fields_size
  fields_sizes h =
      by_test (eqb (length fields) 74) (λ y. inl (eqb-true _ _ y)) (λ n. inr (eqb-true (length fields) 98 (sym (pick_false true _ n) ∙ h)))

  pub least_fields : is_fields_size (length fields) ≡ true → 74 ≤ length fields
  least_fields h = ⊎_elim (λ e. omega arith) (λ e. omega arith) (fields_sizes h)

  pub no_fields : is_fields_size (length fields) ≡ false → kept_read fields ≡ no_kept
  unfolding is_fields_size kept_read
  no_fields h =
      by_test (eqb (length fields) 74) (λ y. absurd (false≢true (sym h ∙ pick_true true _ y)))
      (λ n. pick_false _ _ n ∙ pick_false _ no_kept (sym (pick_false true _ n) ∙ h))

  -- what stands at the places of the bodies, the protection filled up
  abbrev body_by_body : Kept
  body_by_body = record {
    shown = shown_in form1 (replicate 52 0 ++ fields);
    protection = filled_up (part 66 32 fields);
    password = part 0 32 fields;
    reset_password = part 32 16 fields;
  }

  pub short_by_bodies : length fields ≡ 74 → kept_read fields ≡ body_by_body
  unfolding kept_read settings_in placed offset_of sum_of
  short_by_bodies n =
      let few : length (drop 66 fields) ≤ 8 = omega (arith, length-drop 66 fields) in
      let same : part 66 8 fields ≡ part 66 32 fields = take_all 8 (drop 66 fields) few ∙ sym (take_all 32 (drop 66 fields) (omega arith)) in
      pick_true (kept_of (fields_read form1 fields)) _ (eq-eqb (length fields) 74 n)
      ∙ ap kept_of (fields_said fields n)
      ∙ ap (λ (protection : List ℕ). record {
        shown = shown_in form1 (replicate 52 0 ++ fields);
        protection = filled_up protection;
        password = part 0 32 fields;
        reset_password = part 32 16 fields;
      }) same

  long_by_bodies : length fields ≡ 98 → kept_read fields ≡ body_by_body
  unfolding kept_read
  long_by_bodies n =
      pick_false (kept_of (fields_read form1 fields)) _ (ne_eqb (length fields) 74 (λ e. omega arith))
      ∙ pick_true (kept_said fields) no_kept (eq-eqb (length fields) 98 n)
      ∙ ap (λ (protection : List ℕ). record {
        shown = shown_in form1 (replicate 52 0 ++ fields);
        protection = protection;
        password = part 0 32 fields;
        reset_password = part 32 16 fields;
      }) (sym (stored_whole (replicate 32 0) (part 66 32 fields) (length-replicate {A = ℕ} 32 0 ∙ sym (length_part 66 32 fields (omega arith)))))

  pub kept_by_bodies : is_fields_size (length fields) ≡ true → kept_read fields ≡ body_by_body
  kept_by_bodies h = ⊎_elim short_by_bodies long_by_bodies (fields_sizes h)

  -- of the protection of an MSPM0 nothing is lost
  eight_there : length fields ≡ 74 → length (fields_read form1 fields).protection ≡ 8
  unfolding settings_in placed offset_of sum_of
  eight_there n =
      ap (λ (settings : Settings). length settings.protection) (fields_said fields n)
      ∙ length_part 118 8 (replicate 52 0 ++ fields) (omega (arith, length-append (replicate 52 0) fields))

  pub narrowed_back : length fields ≡ 74 → narrowed_of (kept_read fields) ≡ fields_read form1 fields
  unfolding kept_read
  narrowed_back n =
      let s = fields_read form1 fields in
      ap narrowed_of (pick_true (kept_of s) _ (eq-eqb (length fields) 74 n))
      ∙ ap (λ (protection : List ℕ). record { shown = s.shown; protection = protection; password = s.password; reset_password = s.reset_password })
      (eight_again s.protection (eight_there n))
