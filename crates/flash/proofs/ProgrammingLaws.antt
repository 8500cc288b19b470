-- Laws of programming, for sectors of any size and any protection bytes.
use mathlib.Core.Path.{◌≡◌, sym, ap, ◌∙◌}
use mathlib.Core.Bool.{true, false, true≢false}
use mathlib.Core.List.{List, [], ◌++◌}
use mathlib.Core.Logic.{by_cases}
use Prim.Native.Nat.{ℕ, ◌+◌, ◌-◌, ◌/◌, ◌%◌, ◌≤◌, ◌<◌, min}
use native.Mathlib.Decide.{dec_le}
use native.Mathlib.Nat.{add-sub_cancel_left, mod-lt}
use native.Mathlib.Omega.{arith}
use lib.Bits.{bit_and}
use lib.ListN.{length, get_or, take, drop, length-append, take-append-drop, get_or-append, length-take, length-drop, drop_of_length-le}
use lib.Seq.{get_or-append-add, drop-drop}
use borrow.Rule.Slice.PartMut.{put_mid, mid_of}
use Rattle.octets.specs.Choice.{pick}
use Rattle.octets.specs.Number.{part}
use Rattle.octets.proofs.Parts.{length_part}
use Rattle.octets.proofs.Searching.{pick_true, pick_false}
use Rattle.flash.specs.Places.{by_place}
use Rattle.flash.specs.Protection.{is_protected}
use Rattle.flash.proofs.PlaceLaws.{in_run, before_run, after_run, by_run}
use Rattle.flash.proofs.ProtectionLaws.{open_place, protected_place, one_sector_lem, changed_keeps_length, changed_at, changed_keeps, changed_alike, changed_nothing, changed_twice, changed_part, protected_unchanged, empty_sectors_unchanged}
use Rattle.flash.specs.Programming.{program_of}

-- ---- what a program leaves, byte by byte

module _ (sector_size : ℕ) (protection : List ℕ) (at : ℕ) (bytes memory : List ℕ) where
  pub program_keeps_length : length (program_of sector_size protection at bytes memory) ≡ length memory
  unfolding program_of
  program_keeps_length = changed_keeps_length sector_size protection _ memory

  module _ (place : ℕ) where
    pub program_keeps_protected : is_protected protection (place / sector_size) ≡ true
        → get_or (program_of sector_size protection at bytes memory) place 0 ≡ get_or memory place 0
    unfolding program_of
    program_keeps_protected e =
        changed_keeps sector_size protection memory place _ (λ h y. absurd (true≢false (sym y ∙ protected_place sector_size protection place e)))

    pub program_keeps_before : place < at → get_or (program_of sector_size protection at bytes memory) place 0 ≡ get_or memory place 0
    unfolding program_of
    program_keeps_before b =
        changed_keeps sector_size protection memory place _ (λ h y. pick_false _ _ (before_run at (at + length bytes) place b))

    pub program_keeps_after : at + length bytes ≤ place → get_or (program_of sector_size protection at bytes memory) place 0 ≡ get_or memory place 0
    unfolding program_of
    program_keeps_after a =
        changed_keeps sector_size protection memory place _ (λ h y. pick_false _ _ (after_run at (at + length bytes) place a))

    pub program_makes_and : place < length memory → 0 < sector_size → is_protected protection (place / sector_size) ≡ false
        → at ≤ place → place < at + length bytes
        → get_or (program_of sector_size protection at bytes memory) place 0 ≡ bit_and (get_or memory place 0) (get_or bytes (place - at) 0)
    unfolding program_of
    program_makes_and there sized free l u =
        changed_at sector_size protection _ memory place there
        ∙ pick_true _ _ (open_place sector_size protection place sized free)
        ∙ pick_true _ _ (in_run at (at + length bytes) place l u)

-- ---- runs of bytes

module _ (sector_size : ℕ) (protection : List ℕ) where
  pub program_nothing : (at : ℕ) (memory : List ℕ) → program_of sector_size protection at [] memory ≡ memory
  unfolding program_of
  program_nothing at memory =
      changed_nothing sector_size protection _ memory (λ k x h y. pick_false _ x
      (by_run at (at + 0) k (λ l u. absurd (omega arith)) (before_run at (at + 0) k) (after_run at (at + 0) k)))

  -- where every place is protected, nothing is programmed
  pub program_of_protected : (at : ℕ) (bytes memory : List ℕ) → ((place : ℕ) → place < length memory → is_protected protection (place / sector_size) ≡ true)
      → program_of sector_size protection at bytes memory ≡ memory
  unfolding program_of
  program_of_protected at bytes memory guarded = protected_unchanged sector_size protection _ memory guarded

  -- where sectors have no bytes, nothing is programmed
  pub program_empty_sectors : (at : ℕ) (bytes memory : List ℕ) → sector_size ≡ 0 → program_of sector_size protection at bytes memory ≡ memory
  unfolding program_of
  program_empty_sectors at bytes memory e = empty_sectors_unchanged sector_size protection _ memory e

  pub program_past_end : (at : ℕ) (bytes memory : List ℕ) → length memory ≤ at → program_of sector_size protection at bytes memory ≡ memory
  unfolding program_of
  program_past_end at bytes memory p =
      changed_nothing sector_size protection _ memory (λ k x h y. pick_false _ x (before_run at (at + length bytes) k (omega arith)))

  -- two runs of bytes, one after the other, are one run
  pub program_join : (at : ℕ) (xs ys memory : List ℕ)
      → program_of sector_size protection (at + length xs) ys (program_of sector_size protection at xs memory)
      ≡ program_of sector_size protection at (xs ++ ys) memory
  unfolding program_of pick
  program_join at xs ys memory =
      let whole : length (xs ++ ys) ≡ length xs + length ys = length-append xs ys in
      changed_twice sector_size protection _ _ memory
      ∙ changed_alike sector_size protection _ _ memory (λ k x h y.
      by_run at (at + length xs) k
      (λ l u. let e : get_or (xs ++ ys) (k - at) 0 ≡ get_or xs (k - at) 0 = get_or-append xs ys 0 (k - at) (omega arith) in
      rw (in_run at (at + length xs) k l u, before_run (at + length xs) (at + length xs + length ys) k u, in_run at (at + length (xs ++ ys)) k l (omega arith), e))
      (λ b. rw (before_run at (at + length xs) k b, before_run (at + length xs) (at + length xs + length ys) k (omega arith), before_run at (at + length (xs ++ ys)) k b))
      (λ a. by_run (at + length xs) (at + length xs + length ys) k
      (λ l u. let n : k - at ≡ length xs + (k - (at + length xs)) = omega arith in
      let e : get_or (xs ++ ys) (k - at) 0 ≡ get_or ys (k - (at + length xs)) 0 = ap (λ (i : ℕ). get_or (xs ++ ys) i 0) n ∙ get_or-append-add xs ys (k - (at + length xs)) 0 in
      rw (after_run at (at + length xs) k a, in_run (at + length xs) (at + length xs + length ys) k l u, in_run at (at + length (xs ++ ys)) k (omega arith) (omega arith), e))
      (λ b. absurd (omega arith))
      (λ o. rw (after_run at (at + length xs) k a, after_run (at + length xs) (at + length xs + length ys) k o, after_run at (at + length (xs ++ ys)) k (omega arith)))))

  -- of what is left from i on, the bytes up to the next place, and then the others
  pub program_next : (at i next : ℕ) (bytes memory : List ℕ) → i ≤ next → next ≤ length bytes
      → program_of sector_size protection (at + next) (drop next bytes) (program_of sector_size protection (at + i) (take (next - i) (drop i bytes)) memory)
      ≡ program_of sector_size protection (at + i) (drop i bytes) memory
  program_next at i next bytes memory l u =
      let n : length (take (next - i) (drop i bytes)) ≡ next - i = simp (length-take, length-drop) (omega arith) in
      let p : at + next ≡ at + i + length (take (next - i) (drop i bytes)) = omega arith in
      let m : i + (next - i) ≡ next = omega arith in
      let d : drop next bytes ≡ drop (next - i) (drop i bytes) = sym (drop-drop (next - i) i bytes ∙ ap (λ (j : ℕ). drop j bytes) m) in
      rw (p, d) (program_join (at + i) (take (next - i) (drop i bytes)) (drop (next - i) (drop i bytes)) memory)
      ∙ ap (λ (xs : List ℕ). program_of sector_size protection (at + i) xs memory) (take-append-drop (next - i) (drop i bytes))

  -- nothing is left to do where the bytes end, or the memory
  pub program_done : (at i : ℕ) (bytes memory : List ℕ) → min (length bytes) (length memory - at) ≤ i
      → program_of sector_size protection (at + i) (drop i bytes) memory ≡ memory
  program_done at i bytes memory h =
      by_cases (dec_le (length bytes) i)
      (λ l. rw (drop_of_length-le bytes l) (program_nothing (at + i) memory))
      (λ n. program_past_end (at + i) (drop i bytes) memory (omega arith))

  -- ---- bytes that lie in one sector

  module _ (at : ℕ) (bytes memory : List ℕ) (one : at % sector_size + length bytes ≤ sector_size) where
    pub program_protected_sector : is_protected protection (at / sector_size) ≡ true → program_of sector_size protection at bytes memory ≡ memory
    unfolding program_of
    program_protected_sector e =
        changed_nothing sector_size protection _ memory (λ k x h y. pick_false _ x
        (by_run at (at + length bytes) k
        (λ l u. absurd (true≢false (sym y ∙ protected_place sector_size protection k (ap (is_protected protection) (one_sector_lem sector_size at (length bytes) k one l u) ∙ e))))
        (before_run at (at + length bytes) k)
        (after_run at (at + length bytes) k)))

    -- the part of an open sector that comes back with the AND at each place
    pub program_open_sector : 0 < sector_size → is_protected protection (at / sector_size) ≡ false
        → put_mid at (length bytes) memory (by_place (λ k x. bit_and x (get_or bytes k 0)) (mid_of at (length bytes) memory))
        ≡ program_of sector_size protection at bytes memory
    unfolding program_of
    program_open_sector sized free =
        changed_part sector_size protection _ _ at (length bytes) memory
        (λ j h. open_place sector_size protection (at + j) sized
        (ap (is_protected protection) (one_sector_lem sector_size at (length bytes) (at + j) one (omega arith) (omega arith)) ∙ free))
        (λ j x h. ap (λ (i : ℕ). bit_and x (get_or bytes i 0)) (sym (add-sub_cancel_left at j))
        ∙ sym (pick_true _ x (in_run at (at + length bytes) (at + j) (omega arith) (omega arith))))
        (λ k x h. pick_false _ x (before_run at (at + length bytes) k h))
        (λ k x l h. pick_false _ x (after_run at (at + length bytes) k l))

-- ---- a loop that programs sector by sector. One turn takes what is left of the sector, or of the bytes that have room.

module _ (sector_size at i count step : ℕ) (sized : 0 < sector_size) (more : i < count) (steps : step ≡ min (sector_size - (at + i) % sector_size) (count - i)) where
  pub turn_goes_on : count - (i + step) < count - i
  turn_goes_on = let left = mod-lt (at + i) sized in omega arith

  module _ (room : ℕ) (bytes memory₀ memory : List ℕ) (same : length memory ≡ length memory₀) (has : room ≡ length memory₀ - at) (counts : count ≡ min (length bytes) room) where
    -- the bytes of one turn lie in one sector, and in the memory
    pub turn_fits : ((at + i) % sector_size + length (part i (i + step - i) bytes) ≤ sector_size)
        × (at + i + length (part i (i + step - i) bytes) ≤ length memory)
        × (0 < sector_size)
    turn_fits =
        let left = mod-lt (at + i) sized in
        let stays : i + step ≤ count = omega arith in
        let e : length (part i (i + step - i) bytes) ≡ step = length_part i (i + step - i) bytes (omega arith) ∙ add-sub_cancel_left i step in
        (rw e (omega arith), rw e (omega arith), sized)

    -- after it, programming the bytes left still makes the whole
    pub turn_keeps : (protection after whole : List ℕ) → after ≡ program_of sector_size protection (at + i) (part i (i + step - i) bytes) memory
        → program_of sector_size protection (at + i) (drop i bytes) memory ≡ whole
        → (i + step ≤ count) × (length after ≡ length memory₀) × (program_of sector_size protection (at + (i + step)) (drop (i + step) bytes) after ≡ whole)
    turn_keeps protection after whole e inv =
        let stays : i + step ≤ count = omega arith in (
          stays,
          ap length e ∙ program_keeps_length sector_size protection (at + i) (part i (i + step - i) bytes) memory ∙ same,
          rw e (program_next sector_size protection at i (i + step) bytes memory (omega arith) (omega arith)) ∙ inv,
        )
