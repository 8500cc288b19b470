-- What an image has passed that is found to be written in a form; and that whoever passes it is found to be so.
use Rattle.std.specs.Prelude.{Option, Some, None, Ok, Err}
use mathlib.Core.Path.{◌≡◌, refl, sym, ap, subst, ◌∙◌}
use mathlib.Core.Bool.{Bool, true, false, false≢true, not}
use mathlib.Core.List.{List}
use Prim.Native.Nat.{ℕ}
use native.Mathlib.Omega.{arith}
use borrow.Author.Tests.{eq-eqb, ne_eqb, eqb-true, not-false}
use lib.Dec.{eqb}
use lib.ListN.{length}
use Rattle.octets.specs.Choice.{pick}
use Rattle.octets.specs.Number.{number_at}
use Rattle.octets.specs.Alike.{all_are}
use Rattle.octets.proofs.Searching.{pick_true, pick_false, pick_both, by_pick}
use Rattle.settings.specs.declared.Form.{Form}
use Rattle.settings.specs.declared.Form.TheVariants.{One, Two}
use Rattle.settings.specs.declared.Forms.{Forms}
use Rattle.settings.specs.declared.Forms.TheVariants.{Both, OnlyOne, OnlyTwo}
use Rattle.settings.specs.declared.Refusal.TheVariants as refusal
use Rattle.settings.specs.Layout.{layout_of, image_size}
use Rattle.settings.specs.Entries.{differing_entry}
use Rattle.settings.specs.Reader.{Checked, is_blank, checksum_differs, is_form, found_in, filler_differs, value_not_allowed, checked_in, checked_found, checked_written, checked_of}

-- the tests of the reader, in their order
pub record Passed (form : Form) (image : List ℕ) : Type 0 where
  pub size : length image ≡ image_size
  pub written : all_are 0xFF image ≡ false
  pub checksum : checksum_differs image ≡ false
  pub known : is_form form image ≡ true
  pub entries : differing_entry (layout_of form) image ≡ 0
  pub filler : filler_differs form image ≡ false
  pub value : value_not_allowed form image ≡ false

-- which forms are taken
unfoldable pub takes : Forms → Form → Bool
takes Both form = true
takes OnlyOne One = true
takes OnlyOne Two = false
takes OnlyTwo One = false
takes OnlyTwo Two = true

-- ---- what is found to be written has passed them, in a form that is taken

module _ (forms : Forms) (image : List ℕ) where
  unfoldable pub Good : Checked → Type 0
  Good (Ok None) = is_blank image ≡ true
  Good (Ok (Some form)) = Passed form image × (takes forms form ≡ true)
  Good (Err refusal) = Unit

  GoodForm : Option Form → Type 0
  GoodForm (Some form) = (is_form form image ≡ true) × (takes forms form ≡ true)
  GoodForm None = Unit

  module _ (size : length image ≡ image_size) (written : all_are 0xFF image ≡ false) (checksum : checksum_differs image ≡ false) where
    form_is_good : (found : Option Form) → GoodForm found → Good (checked_found image found)
    unfolding GoodForm Good checked_in
    form_is_good (Some form) known =
        by_pick Good (not (eqb (differing_entry (layout_of form) image) 0)) _ _ (λ y. tt)
        (λ entries. by_pick Good (filler_differs form image) _ _ (λ y. tt)
        (λ filler. by_pick Good (value_not_allowed form image) _ _ (λ y. tt)
        (λ value. (
          record {
            size = size;
            written = written;
            checksum = checksum;
            known = known.0;
            entries = eqb-true _ _ (not-false _ entries);
            filler = filler;
            value = value;
          },
          known.1,
        ))))
    form_is_good None known = tt

module _ (image : List ℕ) where
  found_is_good : (forms : Forms) → GoodForm forms image (found_in forms image)
  unfolding found_in GoodForm takes
  found_is_good Both = by_pick (GoodForm Both image) (is_form One image) _ _ (λ y. (y, refl)) (λ n. by_pick (GoodForm Both image) (is_form Two image) _ _ (λ y. (y, refl)) (λ m. tt))
  found_is_good OnlyOne = by_pick (GoodForm OnlyOne image) (is_form One image) _ _ (λ y. (y, refl)) (λ n. tt)
  found_is_good OnlyTwo = by_pick (GoodForm OnlyTwo image) (is_form Two image) _ _ (λ y. (y, refl)) (λ n. tt)

  pub checked_is_good : (forms : Forms) → Good forms image (checked_of forms image)
  unfolding Good checked_of checked_written
  checked_is_good forms =
      by_pick (Good forms image) (not (eqb (length image) image_size)) _ _ (λ y. tt)
      (λ s. let size : length image ≡ image_size = eqb-true _ _ (not-false _ s) in
      by_pick (Good forms image) (is_blank image) _ _ (λ y. y)
      (λ w. by_pick (Good forms image) (checksum_differs image) _ _ (λ y. tt)
      (λ sum. form_is_good forms image size (sym (pick_true (all_are 0xFF image) false (eq-eqb _ _ size)) ∙ w) sum (found_in forms image) (found_is_good forms))))

-- ---- whoever has passed them is found to be written, where the form is taken

-- no image has both forms
other_form : (image : List ℕ) → is_form Two image ≡ true → is_form One image ≡ false
unfolding is_form
other_form image is =
    let two : number_at 0 2 image ≡ 2 = eqb-true _ _ (pick_both _ _ is).0 in
    pick_false _ false (ne_eqb (number_at 0 2 image) 1 (λ one. omega arith))

pub other_form_back : (image : List ℕ) → is_form One image ≡ true → is_form Two image ≡ false
unfolding is_form
other_form_back image is =
    let one : number_at 0 2 image ≡ 1 = eqb-true _ _ (pick_both _ _ is).0 in
    pick_false _ false (ne_eqb (number_at 0 2 image) 2 (λ two. omega arith))

is_found : (forms : Forms) (form : Form) (image : List ℕ) → takes forms form ≡ true → is_form form image ≡ true → found_in forms image ≡ Some form
unfolding takes found_in
is_found Both One image taken is = pick_true _ _ is
is_found Both Two image taken is = pick_false _ _ (other_form image is) ∙ pick_true _ _ is
is_found OnlyOne One image taken is = pick_true _ _ is
is_found OnlyOne Two image taken is = absurd (false≢true taken)
is_found OnlyTwo One image taken is = absurd (false≢true taken)
is_found OnlyTwo Two image taken is = pick_true _ _ is

not_found : (forms : Forms) (form : Form) (image : List ℕ) → takes forms form ≡ false → is_form form image ≡ true → found_in forms image ≡ None
unfolding takes found_in
not_found Both One image left is = absurd (false≢true (sym left))
not_found Both Two image left is = absurd (false≢true (sym left))
not_found OnlyOne One image left is = absurd (false≢true (sym left))
not_found OnlyOne Two image left is = pick_false _ _ (other_form image is)
not_found OnlyTwo One image left is = pick_false _ _ (other_form_back image is)
not_found OnlyTwo Two image left is = absurd (false≢true (sym left))

module _ (forms : Forms) (form : Form) (image : List ℕ) (passed : Passed form image) where
  not_blank : checked_of forms image ≡ checked_found image (found_in forms image)
  unfolding checked_of checked_written pick
  not_blank = rw (eq-eqb (length image) image_size passed.size, passed.written, passed.checksum)

  passes_form : checked_in form image ≡ Ok (Some form)
  unfolding checked_in pick
  passes_form = rw (passed.entries, passed.filler, passed.value)

  pub passes : takes forms form ≡ true → checked_of forms image ≡ Ok (Some form)
  passes taken = not_blank ∙ ap (checked_found image) (is_found forms form image taken passed.known) ∙ passes_form

  -- "5 to the form it does not start from"
  pub other_is_refused : takes forms form ≡ false → checked_of forms image ≡ Err refusal.FormUnknown
  other_is_refused left = not_blank ∙ ap (checked_found image) (not_found forms form image left passed.known)

-- what is found to be written has passed the tests
pub written_has_passed : (forms : Forms) (image : List ℕ) (form : Form) → checked_of forms image ≡ Ok (Some form) → Passed form image
unfolding Good
written_has_passed forms image form e = (subst (Good forms image) e (checked_is_good image forms)).0

-- so its values are allowed
pub written_is_allowed : (forms : Forms) (image : List ℕ) (form : Form) → checked_of forms image ≡ Ok (Some form) → value_not_allowed form image ≡ false
written_is_allowed forms image form e = (written_has_passed forms image form e).value
