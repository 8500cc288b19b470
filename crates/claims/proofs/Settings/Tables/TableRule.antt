-- The table of an image, of any layout: one that was put is found, and one that is found was put.
use mathlib.Core.Path.{◌≡◌, refl, sym, ap, ◌∙◌}
use mathlib.Core.Bool.{true, false, true≢false}
use mathlib.Core.List.{List, ◌++◌}
use Prim.Native.Nat.{ℕ, zero, suc, ◌+◌, ◌*◌, ◌/◌, ◌%◌, ◌≤◌, ◌<◌}
use native.Mathlib.Omega.{arith}
use borrow.Author.Tests.{eq-eqb, eqb-true, not-false}
use lib.Dec.{T, ltb, eqb, ltb→lt}
use lib.ListN.{length, get_or}
use Rattle.octets.specs.Choice.{pick}
use Rattle.octets.specs.Number.{bytes_of, part, number_at}
use Rattle.octets.specs.Alike.{all_are}
use Rattle.octets.proofs.Searching.{pick_both, none_found, none_passes}
use Rattle.octets.proofs.Table.{passes, test_at}
use Rattle.settings.specs.declared.Form.{Form}
use Rattle.settings.specs.declared.Form.TheVariants.{One, Two}
use Rattle.settings.specs.Layout.{Layout, large, layout_of, count_of, table_end, table_of, place_of, pairs_of}
use Rattle.settings.specs.Table.{printed_table, layout_gives_table, printed_large, layout_gives_large}
use Rattle.settings.specs.Entries.{field_differs, entry_differs, differing_entry}
use Rattle.settings.proofs.TableLaws.{length_table}
use Rattle.claims.proofs.Settings.Tables.Pairs.{pairs_at, pairs_read}

-- ---- each table

-- each number of it fits two bytes: one test over the table as it is printed
abbrev Fits : Layout → Type 0
Fits layout = (i : ℕ) → i < length (table_of layout) → get_or (table_of layout) i 0 < 65536

fits_by_test : (layout : Layout) (printed : List ℕ) → table_of layout ≡ printed → T (passes (λ k n. ltb n 65536) 0 printed) → Fits layout
fits_by_test layout printed same all =
    rw same (λ i h. ltb→lt (get_or printed i 0) 65536 (test_at (λ k n. ltb n 65536) 0 printed all i h))

pub form_fits : (form : Form) → Fits (layout_of form)
form_fits One = fits_by_test _ (printed_table One) (layout_gives_table One) tt
form_fits Two = fits_by_test _ (printed_table Two) (layout_gives_table Two) tt

pub large_fits : Fits large
large_fits = fits_by_test large printed_large layout_gives_large tt

-- and it does not begin with 0xFF
pub first_byte : (form : Form) (rest : List ℕ) → all_are 0xFF (pairs_of (table_of (layout_of form)) ++ rest) ≡ false
unfolding pairs_of table_of bytes_of all_are pick
first_byte One rest = refl
first_byte Two rest = refl

pub large_first_byte : (rest : List ℕ) → all_are 0xFF (pairs_of (table_of large) ++ rest) ≡ false
unfolding pairs_of table_of bytes_of all_are pick
large_first_byte rest = refl

-- ---- an image that begins with the table

module _ (put : Layout) (fits : Fits put) (image rest : List ℕ) (begins : image ≡ pairs_of (table_of put) ++ rest) where
  table_there : (i : ℕ) → i < 2 + 4 * count_of put → number_at (2 * i) 2 image ≡ get_or (table_of put) i 0
  table_there i h =
      ap (λ (l : List ℕ). number_at (2 * i) 2 l) begins
      ∙ pairs_at (table_of put) rest fits i (omega (arith, length_table put))

  pub form_and_count_there : pick (eqb (number_at 0 2 image) put.form) (eqb (number_at 2 2 image) (count_of put)) false ≡ true
  unfolding table_of pick
  form_and_count_there =
      rw (table_there 0 (omega arith), table_there 1 (omega arith), eq-eqb put.form put.form refl, eq-eqb (count_of put) (count_of put) refl)

  pub no_entry_differs : differing_entry put image ≡ 0
  unfolding differing_entry entry_differs field_differs
  no_entry_differs =
      none_found (λ n. n) 0 (entry_differs put image) 1 (count_of put) (λ n l u.
      none_found (λ n. true) false (field_differs put image n) 0 4 (λ f k v.
      rw (table_there (place_of n f) (omega arith), eq-eqb (get_or (table_of put) (place_of n f) 0) (get_or (table_of put) (place_of n f) 0) refl)))

-- ---- an image whose form, count and entries are the table's

module _ (layout : Layout) (image : List ℕ) (each : (k : ℕ) → get_or image k 0 < 256)
    (known : pick (eqb (number_at 0 2 image) layout.form) (eqb (number_at 2 2 image) (count_of layout)) false ≡ true)
    (entries : differing_entry layout image ≡ 0) where
  abbrev table : List ℕ
  table = table_of layout

  field_same : (n f : ℕ) → 1 ≤ n → n < 1 + count_of layout → f < 4 → number_at (2 * place_of n f) 2 image ≡ get_or table (place_of n f) 0
  unfolding differing_entry entry_differs field_differs
  field_same n f l u h =
      eqb-true _ _ (not-false _ (none_passes (λ k. true) false (field_differs layout image n) 0 4 (λ k b e. true≢false e)
      (none_passes (λ k. k) 0 (entry_differs layout image) 1 (count_of layout) (λ k b e. omega arith) entries n l u) f (omega arith) (omega arith)))

  table_same : (i : ℕ) → i < length table → number_at (2 * i) 2 image ≡ get_or table i 0
  unfolding table_of
  table_same zero h = eqb-true _ _ (pick_both _ _ known).0
  table_same (suc zero) h = eqb-true _ _ (pick_both _ _ known).1
  table_same (suc (suc i)) h =
      let e : place_of (1 + i / 4) (i % 4) ≡ suc (suc i) = omega arith in
      rw e at (field_same (1 + i / 4) (i % 4) (omega arith) (omega (arith, length_table layout)) (omega arith))

  pub table_was_put : table_end layout ≤ length image → pairs_of table ≡ part 0 (table_end layout) image
  table_was_put long =
      let n : 2 * length table ≡ table_end layout = omega (arith, length_table layout) in
      sym (rw n at (pairs_read table image (omega (arith, n)) each table_same))
