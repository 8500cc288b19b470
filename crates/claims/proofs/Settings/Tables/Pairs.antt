-- Numbers of two bytes each: reading them gives them, and bytes that read as them are theirs.
use mathlib.Core.Path.{◌≡◌, refl, sym, ap, ap₂, ◌∙◌}
use mathlib.Core.List.{List, [], ◌∷◌, ◌++◌}
use Prim.Native.Nat.{ℕ, zero, suc, ◌*◌, ◌≤◌, ◌<◌}
use native.Mathlib.Omega.{arith}
use lib.ListN.{length, get_or, take}
use Rattle.octets.specs.Number.{number_of, bytes_of, number_at}
use Rattle.octets.proofs.Numbers.{bytes_of_number, each_bytes_of}
use Rattle.octets.proofs.Parts.{each_none, each_cons, each_append}
use Rattle.settings.specs.Layout.{pairs_of}

pub pairs_at : (numbers rest : List ℕ) → ((i : ℕ) → i < length numbers → get_or numbers i 0 < 65536) → (i : ℕ) → i < length numbers
    → number_at (2 * i) 2 (pairs_of numbers ++ rest) ≡ get_or numbers i 0
unfolding pairs_of bytes_of number_of
pairs_at [] rest small i h = absurd (omega arith)
pairs_at (n ∷ numbers) rest small zero h = let s : n < 65536 = small 0 h in omega arith
pairs_at (n ∷ numbers) rest small (suc i) h =
    let e : 2 * suc i ≡ suc (suc (2 * i)) = omega arith in
    ap (λ (k : ℕ). number_at k 2 (pairs_of (n ∷ numbers) ++ rest)) e ∙ pairs_at numbers rest (λ k l. small (suc k) (omega arith)) i (omega arith)

pub pairs_read : (numbers image : List ℕ) → 2 * length numbers ≤ length image → ((k : ℕ) → get_or image k 0 < 256)
    → ((i : ℕ) → i < length numbers → number_at (2 * i) 2 image ≡ get_or numbers i 0) → take (2 * length numbers) image ≡ pairs_of numbers
unfolding pairs_of number_of
pairs_read [] image h each same = refl
pairs_read (n ∷ numbers) [] h each same = absurd (omega arith)
pairs_read (n ∷ numbers) (a ∷ []) h each same = absurd (omega arith)
pairs_read (n ∷ numbers) (a ∷ b ∷ image) h each same =
    let e : 2 * suc (length numbers) ≡ suc (suc (2 * length numbers)) = omega arith in
    let two : bytes_of 2 (number_of (a ∷ b ∷ [])) ≡ a ∷ b ∷ [] = bytes_of_number (a ∷ b ∷ []) (each_cons a (b ∷ []) (each 0) (each_cons b [] (each 1) each_none)) in
    ap (λ (k : ℕ). take k (a ∷ b ∷ image)) e
    ∙ ap₂ (λ (front back : List ℕ). front ++ back) (sym two ∙ ap (bytes_of 2) (same 0 (omega arith)))
    (pairs_read numbers image (omega arith) (λ k. each (suc (suc k))) (λ i l. ap (λ (k : ℕ). number_at k 2 (a ∷ b ∷ image)) (sym (twice i)) ∙ same (suc i) (omega arith)))
  where
    twice : (i : ℕ) → 2 * suc i ≡ suc (suc (2 * i))
    twice i = omega arith

pub each_pairs : (numbers : List ℕ) → (k : ℕ) → get_or (pairs_of numbers) k 0 < 256
unfolding pairs_of
each_pairs [] = each_none
each_pairs (n ∷ numbers) = each_append (bytes_of 2 n) (pairs_of numbers) (each_bytes_of 2 n) (each_pairs numbers)
