-- Laws of erasing, for sectors of any size and any protection bytes.
use mathlib.Core.Path.{◌≡◌, sym, ap, ◌∙◌}
use mathlib.Core.Bool.{true, false, true≢false}
use mathlib.Core.List.{List}
use Prim.Native.Nat.{ℕ, ◌+◌, ◌-◌, ◌*◌, ◌/◌, ◌%◌, ◌≤◌, ◌<◌, min}
use native.Mathlib.Nat.{div-lt_iff_lt-mul, le-div_iff_mul-le, div-le_self, div-mul-le_self}
use native.Mathlib.Omega.{arith}
use lib.Arith.{digits_div}
use lib.ListN.{length, get_or, replicate}
use borrow.Rule.Slice.PartMut.{put_mid, mid_of}
use Rattle.octets.specs.Choice.{pick}
use Rattle.octets.specs.Number.{part}
use Rattle.octets.proofs.Parts.{length_part}
use Rattle.octets.proofs.Searching.{pick_true, pick_false, by_test}
use Rattle.flash.specs.Protection.{is_protected, may_change, changed}
use Rattle.flash.specs.Erasing.{erase_of, erase_all_of}
use Rattle.flash.proofs.PlaceLaws.{by_same_rule, by_keeping_rule, by_one_value, part_by_place, in_run, before_run, after_run, by_run}
use Rattle.flash.proofs.ProtectionLaws.{open_place, protected_place, one_sector_lem, changed_keeps_length, changed_at, changed_keeps, changed_alike, changed_nothing, changed_twice, changed_part, protected_unchanged, empty_sectors_unchanged}

-- ---- what an erase leaves, byte by byte

module _ (sector_size : ℕ) (protection : List ℕ) (first last : ℕ) (memory : List ℕ) where
  pub erase_keeps_length : length (erase_of sector_size protection first last memory) ≡ length memory
  unfolding erase_of
  erase_keeps_length = changed_keeps_length sector_size protection _ memory

  pub erase_all_keeps_length : length (erase_all_of sector_size protection memory) ≡ length memory
  unfolding erase_all_of
  erase_all_keeps_length = changed_keeps_length sector_size protection _ memory

  module _ (place : ℕ) where
    pub erase_keeps_protected : is_protected protection (place / sector_size) ≡ true
        → get_or (erase_of sector_size protection first last memory) place 0 ≡ get_or memory place 0
    unfolding erase_of
    erase_keeps_protected e =
        changed_keeps sector_size protection memory place _ (λ h y. absurd (true≢false (sym y ∙ protected_place sector_size protection place e)))

    pub erase_keeps_sectors_before : place / sector_size < first → get_or (erase_of sector_size protection first last memory) place 0 ≡ get_or memory place 0
    unfolding erase_of
    erase_keeps_sectors_before b =
        changed_keeps sector_size protection memory place _ (λ h y. pick_false 0xFF _ (before_run first (last + 1) (place / sector_size) b))

    pub erase_keeps_sectors_after : last < place / sector_size → get_or (erase_of sector_size protection first last memory) place 0 ≡ get_or memory place 0
    unfolding erase_of
    erase_keeps_sectors_after a =
        changed_keeps sector_size protection memory place _ (λ h y. pick_false 0xFF _ (after_run first (last + 1) (place / sector_size) (omega arith)))

    pub erase_all_keeps_protected : is_protected protection (place / sector_size) ≡ true
        → get_or (erase_all_of sector_size protection memory) place 0 ≡ get_or memory place 0
    unfolding erase_all_of
    erase_all_keeps_protected e =
        changed_keeps sector_size protection memory place _ (λ h y. absurd (true≢false (sym y ∙ protected_place sector_size protection place e)))

    -- the bytes of the sectors meant that are not protected
    module _ (there : place < length memory) (sized : 0 < sector_size) (free : is_protected protection (place / sector_size) ≡ false) where
      pub erase_makes_ff : first ≤ place / sector_size → place / sector_size ≤ last → get_or (erase_of sector_size protection first last memory) place 0 ≡ 0xFF
      unfolding erase_of
      erase_makes_ff l u =
          changed_at sector_size protection _ memory place there
          ∙ pick_true _ _ (open_place sector_size protection place sized free)
          ∙ pick_true 0xFF _ (in_run first (last + 1) (place / sector_size) l (omega arith))

      pub erase_all_makes_ff : get_or (erase_all_of sector_size protection memory) place 0 ≡ 0xFF
      unfolding erase_all_of
      erase_all_makes_ff =
          changed_at sector_size protection _ memory place there ∙ pick_true _ _ (open_place sector_size protection place sized free)

-- ---- the whole memory

module _ (sector_size : ℕ) (protection memory : List ℕ) where
  -- where no place is protected, all is 0xFF
  pub erase_all_of_open : 0 < sector_size → ((place : ℕ) → place < length memory → is_protected protection (place / sector_size) ≡ false)
      → erase_all_of sector_size protection memory ≡ replicate (length memory) 0xFF
  unfolding erase_all_of changed
  erase_all_of_open sized free =
      by_same_rule _ _ memory (λ k x h. pick_true 0xFF x (open_place sector_size protection k sized (free k h))) ∙ sym (by_one_value 0xFF memory)

  -- where every place is protected, all is kept
  pub erase_all_of_protected : ((place : ℕ) → place < length memory → is_protected protection (place / sector_size) ≡ true)
      → erase_all_of sector_size protection memory ≡ memory
  unfolding erase_all_of
  erase_all_of_protected guarded = protected_unchanged sector_size protection _ memory guarded

  -- the byte at a place, whether it is protected or not
  pub erase_all_at : (place : ℕ) → place < length memory
      → get_or (erase_all_of sector_size protection memory) place 0 ≡ pick (may_change sector_size protection place) 0xFF (get_or memory place 0)
  unfolding erase_all_of
  erase_all_at place there = changed_at sector_size protection _ memory place there

  -- what was erased is not changed by another erase
  pub erase_all_twice : erase_all_of sector_size protection (erase_all_of sector_size protection memory) ≡ erase_all_of sector_size protection memory
  unfolding erase_all_of
  erase_all_twice = changed_twice sector_size protection _ _ memory

  -- the bytes of a part that lies in one sector become 0xFF all together, or stay all together
  module _ (at count : ℕ) (inside : at % sector_size + count ≤ sector_size) (there : at + count ≤ length memory) where
    one_bit : (k : ℕ) → k < count → may_change sector_size protection (at + k) ≡ may_change sector_size protection at
    unfolding may_change
    one_bit k h = rw (one_sector_lem sector_size at count (at + k) inside (omega arith) (omega arith))

    pub erase_all_in_one_sector : part at count (erase_all_of sector_size protection memory)
        ≡ pick (may_change sector_size protection at) (replicate count 0xFF) (part at count memory)
    unfolding erase_all_of changed
    erase_all_in_one_sector =
        let size = length_part at count memory there in
        part_by_place _ at count memory
        ∙ by_test (may_change sector_size protection at)
        (λ y. by_same_rule _ _ (part at count memory) (λ k x h. pick_true 0xFF x (one_bit k (omega arith) ∙ y))
        ∙ sym (by_one_value 0xFF (part at count memory))
        ∙ ap (λ (n : ℕ). replicate n 0xFF) size
        ∙ sym (pick_true _ _ y))
        (λ n. by_keeping_rule _ (part at count memory) (λ k x h. pick_false 0xFF x (one_bit k (omega arith) ∙ n)) ∙ sym (pick_false _ _ n))

-- ---- runs of sectors

module _ (sector_size : ℕ) (protection memory : List ℕ) where
  -- an erase of every sector that is there is an erase of all
  pub erase_all_is_erase : (last : ℕ) → ((place : ℕ) → place < length memory → place / sector_size ≤ last)
      → erase_of sector_size protection 0 last memory ≡ erase_all_of sector_size protection memory
  unfolding erase_of erase_all_of
  erase_all_is_erase last reaches =
      changed_alike sector_size protection _ _ memory
      (λ k x h y. pick_true 0xFF x (in_run 0 (last + 1) (k / sector_size) (omega arith) (omega (arith, reaches k h))))

  -- there are fewer sectors than bytes
  pub erase_to_length_is_all : erase_of sector_size protection 0 (length memory) memory ≡ erase_all_of sector_size protection memory
  erase_to_length_is_all = erase_all_is_erase (length memory) (λ k h. omega (arith, div-le_self k sector_size))

  -- a run that goes past the last sector ends there
  pub erase_ends_at_last_sector : (first last : ℕ) → 0 < sector_size → 0 < length memory
      → erase_of sector_size protection first (min last ((length memory - 1) / sector_size)) memory ≡ erase_of sector_size protection first last memory
  unfolding erase_of pick
  erase_ends_at_last_sector first last sized some =
      changed_alike sector_size protection _ _ memory (λ k x h y.
      let top : k / sector_size ≤ (length memory - 1) / sector_size = reach k h in
      by_run first (last + 1) (k / sector_size)
      (λ l u. rw (in_run first (last + 1) (k / sector_size) l u, in_run first (min last ((length memory - 1) / sector_size) + 1) (k / sector_size) l (omega arith)))
      (λ b. rw (before_run first (last + 1) (k / sector_size) b, before_run first (min last ((length memory - 1) / sector_size) + 1) (k / sector_size) b))
      (λ a. rw (after_run first (last + 1) (k / sector_size) a, after_run first (min last ((length memory - 1) / sector_size) + 1) (k / sector_size) (omega arith))))
    where
      reach : (k : ℕ) → k < length memory → k / sector_size ≤ (length memory - 1) / sector_size
      reach k h = (le-div_iff_mul-le sized).1 (omega (arith, div-mul-le_self k sector_size))

  -- where the memory has no bytes, or its sectors have none, nothing is erased
  pub erase_empty_memory : (first last : ℕ) → length memory ≡ 0 → erase_of sector_size protection first last memory ≡ memory
  unfolding erase_of
  erase_empty_memory first last e = changed_nothing sector_size protection _ memory (λ k x h y. absurd (omega arith))

  pub erase_empty_sectors : (first last : ℕ) → sector_size ≡ 0 → erase_of sector_size protection first last memory ≡ memory
  unfolding erase_of
  erase_empty_sectors first last e = empty_sectors_unchanged sector_size protection _ memory e

  pub erase_no_sector : (first last : ℕ) → last < first → erase_of sector_size protection first last memory ≡ memory
  unfolding erase_of
  erase_no_sector first last n =
      changed_nothing sector_size protection _ memory (λ k x h y. pick_false 0xFF x
      (by_run first (last + 1) (k / sector_size) (λ l u. absurd (omega arith)) (before_run first (last + 1) (k / sector_size)) (after_run first (last + 1) (k / sector_size))))

  -- the first sector of a run, and then the others
  pub erase_next : (sector last : ℕ) → sector ≤ last
      → erase_of sector_size protection (sector + 1) last (erase_of sector_size protection sector sector memory) ≡ erase_of sector_size protection sector last memory
  unfolding erase_of pick
  erase_next sector last n =
      changed_twice sector_size protection _ _ memory
      ∙ changed_alike sector_size protection _ _ memory (λ k x h y. let s = k / sector_size in
      by_run sector (sector + 1) s
      (λ l u. rw (in_run sector (sector + 1) s l u, before_run (sector + 1) (last + 1) s u, in_run sector (last + 1) s l (omega arith)))
      (λ b. rw (before_run sector (sector + 1) s b, before_run (sector + 1) (last + 1) s (omega arith), before_run sector (last + 1) s b))
      (λ a. by_run (sector + 1) (last + 1) s
      (λ l u. rw (after_run sector (sector + 1) s a, in_run (sector + 1) (last + 1) s l u, in_run sector (last + 1) s (omega arith) u))
      (λ b. absurd (omega arith))
      (λ o. rw (after_run sector (sector + 1) s a, after_run (sector + 1) (last + 1) s o, after_run sector (last + 1) s o))))

  -- one turn of a loop over the sectors: erasing those left still makes the whole
  pub erase_turn : (sector last : ℕ) (memory₀ after whole : List ℕ) → sector ≤ last → length memory ≡ length memory₀
      → after ≡ erase_of sector_size protection sector sector memory → erase_of sector_size protection sector last memory ≡ whole
      → (length after ≡ length memory₀) × (erase_of sector_size protection (sector + 1) last after ≡ whole)
  erase_turn sector last memory₀ after whole h same e inv =
      (ap length e ∙ erase_keeps_length sector_size protection sector sector memory ∙ same, rw e (erase_next sector last h) ∙ inv)

  -- ---- one sector

  pub protected_sector_kept : (sector : ℕ) → is_protected protection sector ≡ true → erase_of sector_size protection sector sector memory ≡ memory
  unfolding erase_of
  protected_sector_kept sector e =
      changed_nothing sector_size protection _ memory (λ k x h y. pick_false 0xFF x
      (by_run sector (sector + 1) (k / sector_size)
      (λ l u. let q : k / sector_size ≡ sector = omega arith in
      absurd (true≢false (sym y ∙ protected_place sector_size protection k (ap (is_protected protection) q ∙ e))))
      (before_run sector (sector + 1) (k / sector_size))
      (after_run sector (sector + 1) (k / sector_size))))

  -- filling what is there of an open sector erases it
  pub filled_sector_erased : (sector end : ℕ) → 0 < sector_size → is_protected protection sector ≡ false
      → sector * sector_size < length memory → end ≡ sector * sector_size + min sector_size (length memory - sector * sector_size)
      → put_mid (sector * sector_size) (end - sector * sector_size) memory (replicate (length (mid_of (sector * sector_size) (end - sector * sector_size) memory)) 0xFF)
      ≡ erase_of sector_size protection sector sector memory
  unfolding erase_of
  filled_sector_erased sector end sized free there e =
      rw (by_one_value 0xFF (mid_of (sector * sector_size) (end - sector * sector_size) memory))
      (changed_part sector_size protection _ _ (sector * sector_size) (end - sector * sector_size) memory
      (λ j h. open_place sector_size protection (sector * sector_size + j) sized (ap (is_protected protection) (inside j h) ∙ free))
      (λ j x h. sym (pick_true 0xFF x (rw (inside j h) (in_run sector (sector + 1) sector (omega arith) (omega arith)))))
      (λ k x h. pick_false 0xFF x (before_run sector (sector + 1) (k / sector_size) ((div-lt_iff_lt-mul sized).1 h)))
      (λ k x l h. pick_false 0xFF x (after_run sector (sector + 1) (k / sector_size) ((le-div_iff_mul-le sized).1 (omega arith)))))
    where
      inside : (j : ℕ) → j < end - sector * sector_size → (sector * sector_size + j) / sector_size ≡ sector
      inside j h = digits_div sector (omega arith)
