-- The digits of a number: made from the last to the first, counted, without the zeros before them, and read again.
use mathlib.Core.Path.{◌≡◌, refl, sym, ap, ◌∙◌}
use mathlib.Core.List.{List, [], ◌∷◌, ◌++◌, append_assoc}
use Prim.Native.Nat.{ℕ, zero, suc, ◌+◌, ◌-◌, ◌*◌, ◌/◌, ◌%◌, ◌^◌, ◌≤◌, ◌<◌}
use native.Mathlib.Nat.{pow-suc, one-le-pow, div-lt_iff_lt-mul, zero-lt-suc}
use native.Mathlib.Omega.{arith}
use borrow.Author.Tests.{lt-ltb, le-ltb, ltb-true}
use lib.Dec.{ltb}
use lib.ListN.{length, take, drop, set, length-set, length-append, drop_of_length-le}
use lib.Seq.{drop-append-le, drop-cons, drop-set-lt, get_or-set_same, take_all}
use Rattle.octets.specs.Decimal.{last_digits, digits_within}
use Rattle.octets.proofs.Searching.{pick_true, pick_false, by_pick}

-- ---- how many there are

pub length_digits : (count number : ℕ) → length (last_digits count number) ≡ count
unfolding last_digits
length_digits zero number = refl
length_digits (suc count) number =
    omega (arith, length-append (last_digits count (number / 10)) ((0x30 + number % 10) ∷ []), length_digits count (number / 10))

pub digits_are_few : (most number : ℕ) → digits_within most number ≤ most
unfolding digits_within
digits_are_few zero number = omega arith
digits_are_few (suc most) number =
    by_pick (λ (count : ℕ). count ≤ suc most) (ltb number 10) _ _ (λ y. omega arith) (λ n. omega (arith, digits_are_few most (number / 10)))

-- one below ten, else one more than its tenth has
pub digits_stop : (most number : ℕ) → number < 10 → digits_within (suc most) number ≡ 1
unfolding digits_within
digits_stop most number h = pick_true _ _ (lt-ltb number 10 h)

pub digits_go_on : (most number : ℕ) → 10 ≤ number → digits_within (suc most) number ≡ suc (digits_within most (number / 10))
unfolding digits_within
digits_go_on most number h = pick_false _ _ (le-ltb number 10 h)

-- one more than the power of ten that a number reaches
pub digits_by_power : (most tens number : ℕ) → tens < most → 10 ^ tens ≤ number → number < 10 * 10 ^ tens → tens + 1 ≡ digits_within most number
digits_by_power zero tens number few least less = absurd (omega arith)
digits_by_power (suc most) zero number few least less = sym (digits_stop most number (omega (arith, less)))
digits_by_power (suc most) (suc tens) number few least less =
    let p : 10 ^ suc tens ≡ 10 ^ tens * 10 = pow-suc 10 tens in
    let some : 1 ≤ 10 ^ tens = one-le-pow tens 10 (omega arith) in
    omega (arith, digits_go_on most number (omega (arith, p, least, some)), digits_by_power most tens (number / 10) (omega arith) (omega (arith, p, least)) (omega (arith, p, less)))

pub zero_counted : (number : ℕ) → number ≡ 0 → 1 ≡ digits_within 10 number
zero_counted number e = sym (digits_stop 9 number (omega (arith, e)))

-- the zeros before a number are dropped
pub last_of_more : (most count number : ℕ) → count ≤ most → drop (most - count) (last_digits most number) ≡ last_digits count number
unfolding last_digits
last_of_more most zero number h = drop_of_length-le (last_digits most number) {i = most - 0} (omega (arith, length_digits most number))
last_of_more zero (suc count) number h = absurd (omega arith)
last_of_more (suc most) (suc count) number h =
    let e : suc most - suc count ≡ most - count = omega arith in
    rw (e, drop-append-le (most - count) (last_digits most (number / 10)) ((0x30 + number % 10) ∷ []) (omega (arith, length_digits most (number / 10))))
    (ap (λ (digits : List ℕ). digits ++ ((0x30 + number % 10) ∷ [])) (last_of_more most count (number / 10) (omega arith)))

-- as a part that is lent has them
pub last_taken : (most count number : ℕ) → count ≤ most
    → take (most - (most - count)) (drop (most - count) (last_digits most number)) ≡ last_digits count number
last_taken most count number h =
    rw (last_of_more most count number h) (take_all (most - (most - count)) (last_digits count number) (omega (arith, length_digits count number)))

-- ---- how they are made

-- one turn, from the last digit to the first: what is left, before the digits that are made
pub digit_made : (rest i : ℕ) (digits : List ℕ) → 0 < i → i ≤ length digits
    → last_digits i rest ++ drop i digits ≡ last_digits (i - 1) (rest / 10) ++ drop (i - 1) (set digits (i - 1) (0x30 + rest % 10))
unfolding last_digits
digit_made rest zero digits some h = absurd (omega arith)
digit_made rest (suc i) digits some h =
    let last = 0x30 + rest % 10 in
    let e : suc i - 1 ≡ i = omega arith in
    let there : i < length digits = omega arith in
    let stored : drop i (set digits i last) ≡ last ∷ drop (suc i) digits =
    drop-cons (set digits i last) i 0 (rw length-set there) ∙ rw (get_or-set_same digits i last 0 there, drop-set-lt (suc i) digits i last (omega arith)) in
    rw (e, stored) (append_assoc (last_digits i (rest / 10)) (last ∷ []) (drop (suc i) digits))

-- ---- read again

-- the number that some digits stand for, after those that are read already
abbrev pub read_on : ℕ → List ℕ → ℕ
read_on before [] = before
read_on before (digit ∷ digits) = read_on (10 * before + (digit - 0x30)) digits

read_last : (before : ℕ) (digits : List ℕ) (last : ℕ) → read_on before (digits ++ (last ∷ [])) ≡ 10 * read_on before digits + (last - 0x30)
read_last before [] last = refl
read_last before (digit ∷ digits) last = read_last (10 * before + (digit - 0x30)) digits last

-- whoever reads a number that was written in decimal reads that number
pub decimal_reads_again : (most number : ℕ) → number < 10 ^ most → read_on 0 (last_digits (digits_within most number) number) ≡ number
unfolding last_digits digits_within
decimal_reads_again zero number h = omega arith
decimal_reads_again (suc most) number h =
    by_pick (λ (count : ℕ). read_on 0 (last_digits count number) ≡ number) (ltb number 10) _ _
    (λ y. omega (arith, ltb-true number 10 y))
    (λ n.
    let left : number / 10 < 10 ^ most = (div-lt_iff_lt-mul (zero-lt-suc 9)).1 (rw pow-suc at h) in
    omega (arith, read_last 0 (last_digits (digits_within most (number / 10)) (number / 10)) (0x30 + number % 10), decimal_reads_again most (number / 10) left))
