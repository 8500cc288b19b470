-- Laws of every change to a memory, for sectors of any size and any protection bytes: protected places are kept.
use mathlib.Core.Path.{◌≡◌, sym, ap, ◌∙◌}
use mathlib.Core.Bool.{true, false, true≢false}
use mathlib.Core.List.{List}
use mathlib.Core.Logic.{by_cases}
use Prim.Native.Nat.{ℕ, ◌+◌, ◌-◌, ◌*◌, ◌/◌, ◌%◌, ◌≤◌, ◌<◌}
use native.Mathlib.Decide.{dec_lt}
use native.Mathlib.Nat.{div-add-mod', div-mul-le_self}
use native.Mathlib.Omega.{arith}
use lib.Arith.{digits_div}
use lib.Dec.{eqb}
use lib.ListN.{length, get_or, get_or-eq_default}
use borrow.Author.Tests.{eq-eqb, ne_eqb}
use borrow.Rule.Slice.PartMut.{put_mid, mid_of}
use Rattle.octets.specs.Choice.{pick}
use Rattle.octets.proofs.Searching.{pick_true, pick_false, by_test}
use Rattle.flash.specs.Places.{by_place}
use Rattle.flash.specs.Protection.{is_protected, may_change, changed}
use Rattle.flash.proofs.PlaceLaws.{length-by_place, at_place, by_same_rule, by_keeping_rule, by_two_rules, part_changed}

-- ---- which places may change

module _ (sector_size : ℕ) (protection : List ℕ) (place : ℕ) where
  pub open_place : 0 < sector_size → is_protected protection (place / sector_size) ≡ false → may_change sector_size protection place ≡ true
  unfolding may_change pick
  open_place h e = rw (ne_eqb sector_size 0 (λ z. omega arith), e)

  pub protected_place : is_protected protection (place / sector_size) ≡ true → may_change sector_size protection place ≡ false
  unfolding may_change pick
  protected_place e = by_test (eqb sector_size 0) (λ y. rw y) (λ n. rw (n, e))

-- the places of a run that stays in one sector
pub one_sector_lem : (sector_size at count place : ℕ) → at % sector_size + count ≤ sector_size → at ≤ place → place < at + count
    → place / sector_size ≡ at / sector_size
one_sector_lem sector_size at count place h l u =
    let e : place ≡ at / sector_size * sector_size + (at % sector_size + (place - at)) = omega (arith, div-add-mod' at sector_size) in
    ap (λ (k : ℕ). k / sector_size) e ∙ digits_div (at / sector_size) (omega arith)

-- ---- the memory after a change

module _ (sector_size : ℕ) (protection : List ℕ) where
  pub changed_keeps_length : (rule : ℕ → ℕ → ℕ) (memory : List ℕ) → length (changed sector_size protection rule memory) ≡ length memory
  unfolding changed
  changed_keeps_length rule memory = length-by_place _ memory

  -- the byte at a place afterwards
  pub changed_at : (rule : ℕ → ℕ → ℕ) (memory : List ℕ) (place : ℕ) → place < length memory
      → get_or (changed sector_size protection rule memory) place 0
      ≡ pick (may_change sector_size protection place) (rule place (get_or memory place 0)) (get_or memory place 0)
  unfolding changed
  changed_at rule memory place h = at_place _ memory place h

  module _ (memory : List ℕ) (place : ℕ) where
    -- "Protected places keep their bytes", also those past the end, where there are none
    pub changed_keeps : (rule : ℕ → ℕ → ℕ) → (place < length memory → may_change sector_size protection place ≡ true → rule place (get_or memory place 0) ≡ get_or memory place 0)
        → get_or (changed sector_size protection rule memory) place 0 ≡ get_or memory place 0
    changed_keeps rule keeps =
        by_cases (dec_lt place (length memory))
        (λ h. changed_at rule memory place h
        ∙ by_test (may_change sector_size protection place) (λ y. pick_true _ _ y ∙ keeps h y) (λ n. pick_false _ _ n))
        (λ n. let e : length (changed sector_size protection rule memory) ≡ length memory = changed_keeps_length rule memory in
        get_or-eq_default (changed sector_size protection rule memory) 0 (omega arith) ∙ sym (get_or-eq_default memory 0 (omega arith)))

  -- two rules that agree wherever the memory may change
  pub changed_alike : (f g : ℕ → ℕ → ℕ) (memory : List ℕ)
      → ((k x : ℕ) → k < length memory → may_change sector_size protection k ≡ true → f k x ≡ g k x)
      → changed sector_size protection f memory ≡ changed sector_size protection g memory
  unfolding changed
  changed_alike f g memory alike =
      by_same_rule _ _ memory (λ k x h. by_test (may_change sector_size protection k)
      (λ y. ap (λ (v : ℕ). pick (may_change sector_size protection k) v x) (alike k x h y))
      (λ n. pick_false (f k x) x n ∙ sym (pick_false (g k x) x n)))

  -- a rule that keeps all that may change
  pub changed_nothing : (rule : ℕ → ℕ → ℕ) (memory : List ℕ)
      → ((k x : ℕ) → k < length memory → may_change sector_size protection k ≡ true → rule k x ≡ x)
      → changed sector_size protection rule memory ≡ memory
  unfolding changed
  changed_nothing rule memory keeps =
      by_keeping_rule _ memory (λ k x h. by_test (may_change sector_size protection k)
      (λ y. pick_true (rule k x) x y ∙ keeps k x h y)
      (λ n. pick_false (rule k x) x n))

  -- one change after another
  pub changed_twice : (f g : ℕ → ℕ → ℕ) (memory : List ℕ)
      → changed sector_size protection g (changed sector_size protection f memory) ≡ changed sector_size protection (λ k x. g k (f k x)) memory
  unfolding changed pick
  changed_twice f g memory =
      by_two_rules _ _ memory
      ∙ by_same_rule _ _ memory (λ k x h. by_test (may_change sector_size protection k) (λ y. rw y) (λ n. rw n))

  -- a part of the memory, all of it open, that was lent and comes back changed
  pub changed_part : (f rule : ℕ → ℕ → ℕ) (at count : ℕ) (memory : List ℕ)
      → ((j : ℕ) → j < count → may_change sector_size protection (at + j) ≡ true)
      → ((j x : ℕ) → j < count → f j x ≡ rule (at + j) x)
      → ((k x : ℕ) → k < at → rule k x ≡ x)
      → ((k x : ℕ) → at + count ≤ k → k < length memory → rule k x ≡ x)
      → put_mid at count memory (by_place f (mid_of at count memory)) ≡ changed sector_size protection rule memory
  unfolding changed
  changed_part f rule at count memory opened inside before after =
      part_changed f _ at count memory
      (λ j x h. inside j x h ∙ sym (pick_true (rule (at + j) x) x (opened j h)))
      (λ k x h. kept k x (before k x h))
      (λ k x l h. kept k x (after k x l h))
    where
      kept : (k x : ℕ) → rule k x ≡ x → pick (may_change sector_size protection k) (rule k x) x ≡ x
      kept k x e = by_test (may_change sector_size protection k) (λ y. pick_true (rule k x) x y ∙ e) (λ n. pick_false (rule k x) x n)

-- where every place is protected, nothing changes
pub protected_unchanged : (sector_size : ℕ) (protection : List ℕ) (rule : ℕ → ℕ → ℕ) (memory : List ℕ)
    → ((place : ℕ) → place < length memory → is_protected protection (place / sector_size) ≡ true)
    → changed sector_size protection rule memory ≡ memory
protected_unchanged sector_size protection rule memory guarded =
    changed_nothing sector_size protection rule memory (λ k x h y. absurd (true≢false (sym y ∙ protected_place sector_size protection k (guarded k h))))

-- where sectors have no bytes, nothing changes
pub empty_sectors_unchanged : (sector_size : ℕ) (protection : List ℕ) (rule : ℕ → ℕ → ℕ) (memory : List ℕ) → sector_size ≡ 0
    → changed sector_size protection rule memory ≡ memory
unfolding may_change
empty_sectors_unchanged sector_size protection rule memory e =
    changed_nothing sector_size protection rule memory (λ k x h y. absurd (true≢false (sym y ∙ pick_true false _ (eq-eqb sector_size 0 e))))

-- "Bits for sectors beyond MAIN .. have no effect": protection bytes that agree on the sectors that are there do the same
pub bits_beyond_have_no_effect : (sector_size : ℕ) (p q : List ℕ) (rule : ℕ → ℕ → ℕ) (memory : List ℕ)
    → ((sector : ℕ) → sector * sector_size < length memory → is_protected p sector ≡ is_protected q sector)
    → changed sector_size p rule memory ≡ changed sector_size q rule memory
unfolding changed may_change
bits_beyond_have_no_effect sector_size p q rule memory alike =
    by_same_rule _ _ memory (λ k x h.
    let e : is_protected p (k / sector_size) ≡ is_protected q (k / sector_size) = alike (k / sector_size) (omega (arith, div-mul-le_self k sector_size)) in
    rw e)
