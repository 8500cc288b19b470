-- What an image has passed that is found to be written; and that whoever passes it is found to be so.
use Rattle.std.specs.Prelude.{Some, None, Ok, Err}
use mathlib.Core.Path.{◌≡◌, subst}
use mathlib.Core.Bool.{true, false, not}
use mathlib.Core.List.{List}
use Prim.Native.Nat.{ℕ}
use borrow.Author.Tests.{eq-eqb, eqb-true, not-false}
use lib.Dec.{eqb}
use lib.ListN.{length}
use Rattle.octets.specs.Choice.{pick}
use Rattle.octets.specs.Alike.{all_are}
use Rattle.octets.proofs.Searching.{by_pick}
use Rattle.settings.specs.declared.Form.{Form}
use Rattle.settings.specs.declared.Form.TheVariants.{Two}
use Rattle.settings.specs.Layout.{large}
use Rattle.settings.specs.Entries.{differing_entry}
use Rattle.settings.specs.Reader.{Checked, checksum_differs, is_form}
use Rattle.settings_large.specs.Image.{large_size}
use Rattle.settings_large.specs.Reader.{filler_differs, value_not_allowed, checked_in, checked_written, checked_of}

-- the tests of the reader, in their order
pub record Passed (image : List ℕ) : Type 0 where
  pub size : length image ≡ large_size
  pub written : all_are 0xFF image ≡ false
  pub checksum : checksum_differs image ≡ false
  pub known : is_form Two image ≡ true
  pub entries : differing_entry large image ≡ 0
  pub filler : filler_differs image ≡ false
  pub value : value_not_allowed image ≡ false

module _ (image : List ℕ) where
  unfoldable pub Good : Checked → Type 0
  Good (Ok None) = (length image ≡ large_size) × (all_are 0xFF image ≡ true)
  Good (Ok (Some form)) = Passed image
  Good (Err refusal) = Unit

  pub checked_is_good : Good (checked_of image)
  unfolding Good checked_of checked_written checked_in
  checked_is_good =
      by_pick Good (not (eqb (length image) large_size)) _ _ (λ y. tt)
      (λ s. let size : length image ≡ large_size = eqb-true _ _ (not-false _ s) in
      by_pick Good (all_are 0xFF image) _ _ (λ y. (size, y))
      (λ written. by_pick Good (checksum_differs image) _ _ (λ y. tt)
      (λ checksum. by_pick Good (not (is_form Two image)) _ _ (λ y. tt)
      (λ known. by_pick Good (not (eqb (differing_entry large image) 0)) _ _ (λ y. tt)
      (λ entries. by_pick Good (filler_differs image) _ _ (λ y. tt)
      (λ filler. by_pick Good (value_not_allowed image) _ _ (λ y. tt)
      (λ value. record {
        size = size;
        written = written;
        checksum = checksum;
        known = not-false _ known;
        entries = eqb-true _ _ (not-false _ entries);
        filler = filler;
        value = value;
      })))))))

-- what is found to be written has passed the tests
pub written_has_passed : (image : List ℕ) (form : Form) → checked_of image ≡ Ok (Some form) → Passed image
unfolding Good
written_has_passed image form e = subst (Good image) e (checked_is_good image)

-- whoever has passed them is found to be written
pub passes : (image : List ℕ) → Passed image → checked_of image ≡ Ok (Some Two)
unfolding checked_of checked_written checked_in pick
passes image passed =
    rw (eq-eqb (length image) large_size passed.size, passed.written, passed.checksum, passed.known, passed.entries, passed.filler, passed.value)
