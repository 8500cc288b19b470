-- Bytes are compared one by one, to the end. What was seen so far, and what is left, is what is said of all.
use mathlib.Core.Path.{◌≡◌, refl, ap, ◌∙◌}
use mathlib.Core.Bool.{Bool, true, false, false≢true}
use mathlib.Core.List.{List, [], ◌∷◌, ◌++◌}
use mathlib.Core.Logic.{by_cases}
use Prim.Native.Nat.{ℕ, zero, suc, ◌+◌, ◌-◌, ◌/◌, ◌≤◌, ◌<◌, min}
use native.Mathlib.Numerals.{add-one}
use native.Mathlib.Decide.{dec_lt}
use native.Mathlib.Nat.{le_of_suc-le-suc, not-suc-le-zero}
use native.Mathlib.Omega.{arith}
use borrow.Author.Tests.{eq-eqb, ne_eqb, eqb-true, eqb-false}
use lib.Dec.{eqb}
use lib.Bits.{bit_xor, xor_self, xor_lt, xor_add_and, and_le_l, and_le_r}
use lib.ListN.{length, get_or, set, drop, replicate, get_or-replicate, drop_of_length-le, length-drop}
use lib.Seq.{drop-cons}
use Rattle.octets.specs.Choice.{pick}
use Rattle.octets.proofs.Searching.{pick_true, pick_false, pick_both, by_test}
use Rattle.octets.specs.Alike.{all_are, are_same, differing}

-- a test of all that goes on to the end: what was seen so far, and what is left
pub seen_stops : (seen next left rest : Bool) → next ≡ false → left ≡ false → pick next rest false ≡ pick seen left false
unfolding pick
seen_stops true next left rest e h = rw (e, h)
seen_stops false next left rest e h = rw e

pub seen_goes_on : (seen next left rest : Bool) → next ≡ seen → left ≡ rest → pick next rest false ≡ pick seen left false
seen_goes_on seen next left rest e h = rw (e, h)

pub seen_whole : (seen : Bool) → pick seen true false ≡ seen
unfolding pick
seen_whole true = refl
seen_whole false = refl

-- ---- every byte is the given one

module _ (value : ℕ) (bytes : List ℕ) (i : ℕ) where
  pub all_next : i < length bytes → get_or bytes i 0 ≡ value → all_are value (drop i bytes) ≡ all_are value (drop (i + 1) bytes)
  unfolding all_are
  all_next h e = rw (add-one, drop-cons bytes i 0) (pick_true _ false (eq-eqb _ _ e))

  pub all_stops : i < length bytes → (get_or bytes i 0 ≡ value → ⊥) → all_are value (drop i bytes) ≡ false
  unfolding all_are
  all_stops h n = rw (drop-cons bytes i 0) (pick_false _ false (ne_eqb _ _ n))

  pub all_passed : length bytes ≤ i → all_are value (drop i bytes) ≡ true
  unfolding all_are
  all_passed h = rw drop_of_length-le

-- all of two runs, one after the other
pub all_join : (value : ℕ) (bytes more : List ℕ) → all_are value (bytes ++ more) ≡ pick (all_are value bytes) (all_are value more) false
unfolding all_are pick
all_join value [] more = refl
all_join value (b ∷ bytes) more = by_test (eqb b value) (λ y. rw y (all_join value bytes more)) (λ n. rw n)

-- the bytes of which all are one value
pub all_are_replicate : (value : ℕ) (bytes : List ℕ) → all_are value bytes ≡ true → bytes ≡ replicate (length bytes) value
unfolding all_are
all_are_replicate value [] h = refl
all_are_replicate value (b ∷ bytes) h =
    let both = pick_both (eqb b value) (all_are value bytes) h in
    ap (λ (x : ℕ). x ∷ bytes) (eqb-true b value both.0) ∙ ap (λ (xs : List ℕ). value ∷ xs) (all_are_replicate value bytes both.1)

-- so each of them is that value
pub each_is : (value : ℕ) (bytes : List ℕ) (k : ℕ) → all_are value bytes ≡ true → k < length bytes → get_or bytes k 0 ≡ value
each_is value bytes k h there =
    ap (λ (all : List ℕ). get_or all k 0) (all_are_replicate value bytes h) ∙ get_or-replicate (length bytes) k value 0 there

pub replicate_all_are : (value count : ℕ) → all_are value (replicate count value) ≡ true
unfolding all_are
replicate_all_are value zero = refl
replicate_all_are value (suc count) = pick_true _ false (eq-eqb value value refl) ∙ replicate_all_are value count

-- ---- the same bytes

-- the comparison finds what is the same, and nothing else
pub same_are_equal : (one other : List ℕ) → are_same one other ≡ true → one ≡ other
unfolding are_same
same_are_equal [] [] h = refl
same_are_equal [] (b ∷ bs) h = absurd (false≢true h)
same_are_equal (a ∷ rest) [] h = absurd (false≢true h)
same_are_equal (a ∷ rest) (b ∷ bs) h =
    let both = pick_both (eqb a b) (are_same rest bs) h in
    ap (λ (x : ℕ). x ∷ rest) (eqb-true a b both.0) ∙ ap (λ (xs : List ℕ). b ∷ xs) (same_are_equal rest bs both.1)

pub equal_are_same : (bytes : List ℕ) → are_same bytes bytes ≡ true
unfolding are_same
equal_are_same [] = refl
equal_are_same (b ∷ bytes) = pick_true _ false (eq-eqb b b refl) ∙ equal_are_same bytes

-- ---- how many places differ

some_differ : (count : ℕ) → eqb (suc count) 0 ≡ false
some_differ count = ne_eqb (suc count) 0 (λ e. omega arith)

-- none differs exactly where they are the same
pub none_differs : (one other : List ℕ) → eqb (differing one other) 0 ≡ are_same one other
unfolding differing are_same pick
none_differs [] [] = refl
none_differs [] (b ∷ bs) = some_differ (differing [] bs)
none_differs (a ∷ rest) [] = some_differ (differing rest [])
none_differs (a ∷ rest) (b ∷ bs) = by_test (eqb a b) (λ y. rw y (none_differs rest bs)) (λ n. rw n (some_differ (differing rest bs)))

-- two numbers whose exclusive or is 0 are the same
none_of_xor : (a b : ℕ) → bit_xor a b ≡ 0 → a ≡ b
none_of_xor a b e = omega (arith, xor_add_and a b, and_le_l a b, and_le_r a b)

-- what the sum adds for two bytes: 0 for the same, 1 for others
module _ (a b : ℕ) (h : a < 256) (h₂ : b < 256) where
  same_adds : a ≡ b → (bit_xor a b + 255) / 256 ≡ 0
  same_adds e = rw (e, xor_self b)

  other_adds : (a ≡ b → ⊥) → (bit_xor a b + 255) / 256 ≡ 1
  other_adds n =
      let some : bit_xor a b ≡ 0 → ⊥ = λ e. n (none_of_xor a b e) in
      let small : bit_xor a b < 256 = xor_lt 8 a b h h₂ in
      omega (arith, some, small)

-- at a place that both have: what it adds, and what differs after it
pub counted_here : (one other : List ℕ) (i : ℕ) → i < length one → i < length other → get_or one i 0 < 256 → get_or other i 0 < 256
    → (bit_xor (get_or one i 0) (get_or other i 0) + 255) / 256 + differing (drop (i + 1) one) (drop (i + 1) other) ≡ differing (drop i one) (drop i other)
unfolding differing pick
counted_here one other i h h₂ f f₂ =
    let a = get_or one i 0 in
    let b = get_or other i 0 in
    rw (add-one, drop-cons one i 0, drop-cons other i 0)
    (by_test (eqb a b)
    (λ y. rw (y, same_adds a b f f₂ (eqb-true a b y)) (omega arith))
    (λ n. rw (n, other_adds a b f f₂ (eqb-false a b n)) (omega arith)))

-- what only one of them has differs
one_left : (one : List ℕ) → differing one [] ≡ length one
unfolding differing
one_left [] = refl
one_left (a ∷ rest) = ap suc (one_left rest)

other_left : (other : List ℕ) → differing [] other ≡ length other
unfolding differing
other_left [] = refl
other_left (b ∷ bs) = ap suc (other_left bs)

pub rest_differs : (one other : List ℕ) (i : ℕ) → i ≡ min (length one) (length other)
    → differing (drop i one) (drop i other) ≡ (length one - i) + (length other - i)
rest_differs one other i e =
    by_cases (dec_lt (length other) (length one))
    (λ h.
    let past : length other ≤ i = omega arith in
    rw (drop_of_length-le other past) (one_left (drop i one) ∙ (omega (arith, length-drop i one))))
    (λ n.
    let past : length one ≤ i = omega arith in
    rw (drop_of_length-le one past) (other_left (drop i other) ∙ (omega (arith, length-drop i other))))

-- each place counts, wherever others differ: where a byte that differs is put right, one fewer differs
pub every_place_counts : (one other : List ℕ) (i : ℕ) → i < length one → i < length other → (get_or one i 0 ≡ get_or other i 0 → ⊥)
    → differing one other ≡ suc (differing (set one i (get_or other i 0)) other)
unfolding differing pick
every_place_counts [] other i h h₂ n = absurd (not-suc-le-zero h)
every_place_counts (a ∷ rest) [] i h h₂ n = absurd (not-suc-le-zero h₂)
every_place_counts (a ∷ rest) (b ∷ bs) zero h h₂ n = rw (ne_eqb a b n, eq-eqb b b refl) refl
every_place_counts (a ∷ rest) (b ∷ bs) (suc i) h h₂ n =
    let later = every_place_counts rest bs i (le_of_suc-le-suc h) (le_of_suc-le-suc h₂) n in
    by_test (eqb a b) (λ y. rw y later) (λ d. rw d (ap suc later))

-- the same bytes differ nowhere
pub same_differ_nowhere : (bytes : List ℕ) → differing bytes bytes ≡ 0
same_differ_nowhere bytes = eqb-true _ 0 (none_differs bytes bytes ∙ equal_are_same bytes)

-- no more places differ than there are
pub at_most_all_differ : (one other : List ℕ) → differing one other ≤ length one + length other
unfolding differing pick
at_most_all_differ [] [] = omega arith
at_most_all_differ [] (b ∷ bs) = omega (arith, at_most_all_differ [] bs)
at_most_all_differ (a ∷ rest) [] = omega (arith, at_most_all_differ rest [])
at_most_all_differ (a ∷ rest) (b ∷ bs) =
    let later = at_most_all_differ rest bs in by_test (eqb a b) (λ y. rw y (omega (arith, later))) (λ n. rw n (omega (arith, later)))
