-- The table as bytes: how long it is, and stored number by number.
use mathlib.Core.Path.{◌≡◌, refl, sym, ap, ◌∙◌}
use mathlib.Core.List.{List, [], ◌∷◌}
use Prim.Native.Nat.{ℕ, zero, suc, ◌+◌, ◌*◌, ◌<◌}
use native.Mathlib.Numerals.{add-one}
use native.Mathlib.Omega.{arith}
use lib.ListN.{length, get_or, drop, length-append}
use lib.Seq.{sets, drop-cons}
use Rattle.octets.specs.Number.{bytes_of}
use Rattle.octets.proofs.Numbers.{length-bytes_of}
use Rattle.octets.proofs.StoreLaws.{sets_join}
use Rattle.settings.specs.Layout.{Layout, count_of, table_end, entry_of, entries_from, table_of, pairs_of}

length_entries : (layout : Layout) (entry count : ℕ) → length (entries_from layout entry count) ≡ 4 * count
unfolding entries_from
length_entries layout entry zero = refl
length_entries layout entry (suc count) =
    length-append (entry_of layout entry) (entries_from layout (suc entry) count) ∙ omega (arith, length_entries layout (suc entry) count)

pub length_table : (layout : Layout) → length (table_of layout) ≡ 2 + 4 * count_of layout
unfolding table_of
length_table layout = omega (arith, length_entries layout 1 (count_of layout))

pub length_pairs : (numbers : List ℕ) → length (pairs_of numbers) ≡ 2 * length numbers
unfolding pairs_of
length_pairs [] = refl
length_pairs (n ∷ numbers) =
    length-append (bytes_of 2 n) (pairs_of numbers) ∙ omega (arith, length-bytes_of 2 n, length_pairs numbers)

-- the table as bytes
pub table_before : (layout : Layout) → length (pairs_of (table_of layout)) ≡ table_end layout
table_before layout = omega (arith, length_pairs (table_of layout), length_table layout)

-- one number of the table, and then the others
pub put_next : (area numbers : List ℕ) (place : ℕ) → place < length numbers
    → sets area (2 * place) (pairs_of (drop place numbers))
    ≡ sets (sets area (2 * place) (bytes_of 2 (get_or numbers place 0))) (2 * (place + 1)) (pairs_of (drop (place + 1) numbers))
unfolding pairs_of
put_next area numbers place h =
    let e : 2 * (place + 1) ≡ 2 * place + length (bytes_of 2 (get_or numbers place 0)) = omega (arith, length-bytes_of 2 (get_or numbers place 0)) in
    rw (drop-cons numbers place 0 h)
    (sym (sets_join area (2 * place) (2 * (place + 1)) (bytes_of 2 (get_or numbers place 0)) (pairs_of (drop (suc place) numbers)) e)
    ∙ ap (λ (k : ℕ). sets (sets area (2 * place) (bytes_of 2 (get_or numbers place 0))) (2 * (place + 1)) (pairs_of (drop k numbers))) (sym (add-one place)))
