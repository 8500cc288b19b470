-- Laws of lists that are changed place by place, and of runs of places. They hold for any list and any rule.
use mathlib.Core.Path.{◌≡◌, refl, sym, ap, ap₂, ◌∙◌}
use mathlib.Core.Bool.{true, false}
use mathlib.Core.List.{List, [], ◌∷◌, ◌++◌}
use Prim.Native.Nat.{ℕ, zero, suc, ◌+◌, ◌≤◌, ◌<◌, zero-le, suc-le-suc}
use native.Mathlib.Nat.{suc-add, zero-add, not-suc-le-zero, le_of_suc-le-suc}
use native.Mathlib.Numerals.{add-one}
use native.Mathlib.Omega.{arith}
use lib.Dec.{leb, ltb}
use lib.ListN.{length, get_or, set, take, drop, replicate}
use borrow.Author.Tests.{leb-true, leb-false, ltb-true, ltb-false, le-leb, lt-leb, lt-ltb, le-ltb}
use borrow.Rule.Slice.PartMut.{put_mid, mid_of}
use Rattle.octets.specs.Choice.{pick}
use Rattle.octets.specs.Number.{part}
use Rattle.octets.proofs.Searching.{by_test}
use Rattle.flash.specs.Places.{by_place, is_between}

joined : {x y : ℕ} {xs ys : List ℕ} → x ≡ y → xs ≡ ys → x ∷ xs ≡ y ∷ ys
joined e es = ap₂ (λ (x : ℕ) (xs : List ℕ). x ∷ xs) e es

pub length-by_place : (rule : ℕ → ℕ → ℕ) (xs : List ℕ) → length (by_place rule xs) ≡ length xs
length-by_place rule [] = refl
length-by_place rule (x ∷ xs) = ap suc (length-by_place (λ k. rule (suc k)) xs)

-- what stands at a place afterwards
pub at_place : (rule : ℕ → ℕ → ℕ) (xs : List ℕ) (k : ℕ) → k < length xs → get_or (by_place rule xs) k 0 ≡ rule k (get_or xs k 0)
at_place rule [] k h = absurd (not-suc-le-zero h)
at_place rule (x ∷ xs) zero h = refl
at_place rule (x ∷ xs) (suc k) h = at_place (λ k. rule (suc k)) xs k (le_of_suc-le-suc h)

-- two rules that agree at the places of the list
pub by_same_rule : (f g : ℕ → ℕ → ℕ) (xs : List ℕ) → ((k x : ℕ) → k < length xs → f k x ≡ g k x) → by_place f xs ≡ by_place g xs
by_same_rule f g [] same = refl
by_same_rule f g (x ∷ xs) same =
    joined (same 0 x (suc-le-suc zero-le)) (by_same_rule (λ k. f (suc k)) (λ k. g (suc k)) xs (λ k y h. same (suc k) y (suc-le-suc h)))

-- a rule that keeps all
pub by_keeping_rule : (rule : ℕ → ℕ → ℕ) (xs : List ℕ) → ((k x : ℕ) → k < length xs → rule k x ≡ x) → by_place rule xs ≡ xs
by_keeping_rule rule [] keeps = refl
by_keeping_rule rule (x ∷ xs) keeps =
    joined (keeps 0 x (suc-le-suc zero-le)) (by_keeping_rule (λ k. rule (suc k)) xs (λ k y h. keeps (suc k) y (suc-le-suc h)))

-- one rule after another
pub by_two_rules : (f g : ℕ → ℕ → ℕ) (xs : List ℕ) → by_place g (by_place f xs) ≡ by_place (λ k x. g k (f k x)) xs
by_two_rules f g [] = refl
by_two_rules f g (x ∷ xs) = ap (λ (ys : List ℕ). g 0 (f 0 x) ∷ ys) (by_two_rules (λ k. f (suc k)) (λ k. g (suc k)) xs)

-- a rule that always gives one value
pub by_one_value : (value : ℕ) (xs : List ℕ) → replicate (length xs) value ≡ by_place (λ k x. value) xs
by_one_value value [] = refl
by_one_value value (x ∷ xs) = ap (λ (ys : List ℕ). value ∷ ys) (by_one_value value xs)

-- ---- a part of what was changed

take_by_place : (rule : ℕ → ℕ → ℕ) (count : ℕ) (xs : List ℕ) → take count (by_place rule xs) ≡ by_place rule (take count xs)
take_by_place rule zero xs = refl
take_by_place rule (suc count) [] = refl
take_by_place rule (suc count) (x ∷ xs) = ap (λ (ys : List ℕ). rule 0 x ∷ ys) (take_by_place (λ k. rule (suc k)) count xs)

drop_by_place : (rule : ℕ → ℕ → ℕ) (at : ℕ) (xs : List ℕ) → drop at (by_place rule xs) ≡ by_place (λ k. rule (at + k)) (drop at xs)
drop_by_place rule zero xs = by_same_rule _ _ xs (λ k x h. ap (λ (n : ℕ). rule n x) (sym (zero-add k)))
drop_by_place rule (suc at) [] = refl
drop_by_place rule (suc at) (x ∷ xs) =
    drop_by_place (λ k. rule (suc k)) at xs ∙ by_same_rule _ _ (drop at xs) (λ k y h. ap (λ (n : ℕ). rule n y) (sym (suc-add at k)))

-- it is the part as it was, changed by the same rule
pub part_by_place : (rule : ℕ → ℕ → ℕ) (at count : ℕ) (xs : List ℕ) → part at count (by_place rule xs) ≡ by_place (λ k. rule (at + k)) (part at count xs)
part_by_place rule at count xs = ap (take count) (drop_by_place rule at xs) ∙ take_by_place (λ k. rule (at + k)) count (drop at xs)

-- ---- a part that was lent and comes back changed by a rule of its own

front_changed : (f g : ℕ → ℕ → ℕ) (n : ℕ) (xs : List ℕ)
    → ((j x : ℕ) → j < n → f j x ≡ g j x) → ((k x : ℕ) → n ≤ k → k < length xs → g k x ≡ x)
    → by_place f (take n xs) ++ drop n xs ≡ by_place g xs
front_changed f g zero xs inside after = sym (by_keeping_rule g xs (λ k x h. after k x zero-le h))
front_changed f g (suc n) [] inside after = refl
front_changed f g (suc n) (x ∷ xs) inside after =
    joined (inside 0 x (suc-le-suc zero-le))
    (front_changed (λ k. f (suc k)) (λ k. g (suc k)) n xs
    (λ j y h. inside (suc j) y (suc-le-suc h))
    (λ k y l h. after (suc k) y (suc-le-suc l) (suc-le-suc h)))

-- the whole is changed by a rule that does the same in the part, and keeps what lies before and after it
pub part_changed : (f g : ℕ → ℕ → ℕ) (at n : ℕ) (xs : List ℕ)
    → ((j x : ℕ) → j < n → f j x ≡ g (at + j) x)
    → ((k x : ℕ) → k < at → g k x ≡ x)
    → ((k x : ℕ) → at + n ≤ k → k < length xs → g k x ≡ x)
    → put_mid at n xs (by_place f (mid_of at n xs)) ≡ by_place g xs
part_changed f g zero n xs inside before after =
    front_changed f g n xs (λ j x h. inside j x h ∙ ap (λ (k : ℕ). g k x) (zero-add j)) (λ k x l h. after k x (omega arith) h)
part_changed f g (suc at) zero [] inside before after = refl
part_changed f g (suc at) (suc n) [] inside before after = refl
part_changed f g (suc at) n (x ∷ xs) inside before after =
    joined (sym (before 0 x (suc-le-suc zero-le)))
    (part_changed f (λ k. g (suc k)) at n xs
    (λ j y h. inside j y h ∙ ap (λ (k : ℕ). g k y) (suc-add at j))
    (λ k y h. before (suc k) y (suc-le-suc h))
    (λ k y l h. after (suc k) y (omega arith) (suc-le-suc h)))

-- ---- a loop that changes one place after the other: the first so many are changed

abbrev pub changed_to : (ℕ → ℕ → ℕ) → ℕ → List ℕ → List ℕ
changed_to rule zero xs = xs
changed_to rule (suc i) [] = []
changed_to rule (suc i) (x ∷ xs) = rule 0 x ∷ changed_to (λ k. rule (suc k)) i xs

-- the next place is still as it was
next_as_was : (rule : ℕ → ℕ → ℕ) (i : ℕ) (xs : List ℕ) → get_or (changed_to rule i xs) i 0 ≡ get_or xs i 0
next_as_was rule zero xs = refl
next_as_was rule (suc i) [] = refl
next_as_was rule (suc i) (x ∷ xs) = next_as_was (λ k. rule (suc k)) i xs

next_set : (rule : ℕ → ℕ → ℕ) (i : ℕ) (xs : List ℕ) → i < length xs
    → set (changed_to rule i xs) i (rule i (get_or xs i 0)) ≡ changed_to rule (suc i) xs
next_set rule i [] h = absurd (not-suc-le-zero h)
next_set rule zero (x ∷ xs) h = refl
next_set rule (suc i) (x ∷ xs) h = ap (λ (ys : List ℕ). rule 0 x ∷ ys) (next_set (λ k. rule (suc k)) i xs (le_of_suc-le-suc h))

pub next_changed : (rule : ℕ → ℕ → ℕ) (i : ℕ) (xs now : List ℕ) → now ≡ changed_to rule i xs → i < length xs
    → set now i (rule i (get_or now i 0)) ≡ changed_to rule (i + 1) xs
next_changed rule i xs now e h = rw (e, next_as_was rule i xs, add-one) (next_set rule i xs h)

pub all_changed : (rule : ℕ → ℕ → ℕ) (xs : List ℕ) → changed_to rule (length xs) xs ≡ by_place rule xs
all_changed rule [] = refl
all_changed rule (x ∷ xs) = ap (λ (ys : List ℕ). rule 0 x ∷ ys) (all_changed (λ k. rule (suc k)) xs)

-- ---- runs of places

module _ (first end k : ℕ) where
  pub in_run : first ≤ k → k < end → is_between first end k ≡ true
  unfolding is_between pick
  in_run l u = rw (le-leb first k l, lt-ltb k end u)

  pub before_run : k < first → is_between first end k ≡ false
  unfolding is_between pick
  before_run h = rw (lt-leb first k h)

  pub after_run : end ≤ k → is_between first end k ≡ false
  unfolding is_between pick
  after_run h = by_test (leb first k) (λ y. rw (y, le-ltb k end h)) (λ n. rw n)

  -- a place is in the run, before it or after it
  pub by_run : {C : Type 0} → (first ≤ k → k < end → C) → (k < first → C) → (end ≤ k → C) → C
  by_run inside before after =
      by_test (leb first k)
      (λ y. by_test (ltb k end) (λ u. inside (leb-true first k y) (ltb-true k end u)) (λ u. after (ltb-false k end u)))
      (λ n. before (leb-false first k n))
