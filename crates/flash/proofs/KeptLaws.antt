-- T-04: the first protected place of a run, found sector by sector; and which sectors have one.
use mathlib.Core.Path.{◌≡◌, sym, ap, ◌∙◌}
use mathlib.Core.Bool.{Bool, true, false, not, true≢false}
use mathlib.Core.List.{List}
use mathlib.Core.Logic.{by_cases}
use Rattle.std.specs.Prelude.{Some, None}
use Prim.Native.Nat.{ℕ, ◌+◌, ◌-◌, ◌*◌, ◌/◌, ◌%◌, ◌≤◌, ◌<◌}
use native.Mathlib.Decide.{dec_lt}
use native.Mathlib.Nat.{add-mul, one-mul, div-add-mod', div-mul-le_self, le-div_iff_mul-le, mod-lt, mul-div_cancel}
use native.Mathlib.Omega.{arith}
use lib.Dec.{eqb}
use borrow.Author.Tests.{eq-eqb, lt-ltb, le-ltb}
use Rattle.octets.specs.Choice.{pick}
use Rattle.octets.specs.Search.{search_from}
use Rattle.octets.proofs.Searching.{search_here, search_past, search_of_none, search_alike, found_passes, first_is_least, pick_true, pick_false, by_test}
use Rattle.flash.specs.Protection.{is_protected, may_change, is_kept, first_kept, found_before}
use Rattle.flash.proofs.ProtectionLaws.{open_place, protected_place, one_sector_lem}

-- ---- found sector by sector

-- where the sector after a place's begins
pub next_sector : (sector_size place : ℕ) → 0 < sector_size → (place / sector_size + 1) * sector_size ≡ place + (sector_size - place % sector_size)
next_sector sector_size place sized =
    let whole : (place / sector_size + 1) * sector_size ≡ place / sector_size * sector_size + sector_size = add-mul (place / sector_size) 1 sector_size ∙ ap (λ (n : ℕ). place / sector_size * sector_size + n) (one-mul sector_size) in
    omega (arith, whole, div-add-mod' place sector_size, mod-lt place sized)

module _ (sector_size : ℕ) (protection : List ℕ) (end : ℕ) where
  pub kept_here : (place : ℕ) → place < end → is_protected protection (place / sector_size) ≡ true → first_kept sector_size protection place end ≡ place
  unfolding first_kept
  kept_here place h e =
      search_here _ end (is_kept sector_size protection) place (end - place) (omega arith) (ap not (protected_place sector_size protection place e))

  -- the places up to the next sector, or to the end
  pub kept_later : (k place : ℕ) → 0 < sector_size → k ≤ end - place → place % sector_size + k ≤ sector_size → is_protected protection (place / sector_size) ≡ false
      → first_kept sector_size protection (place + k) end ≡ first_kept sector_size protection place end
  unfolding first_kept
  kept_later k place sized within one e =
      let n : end - place - k ≡ end - (place + k) = omega arith in
      sym
      (search_past _ end (is_kept sector_size protection) k place (end - place) within
      (λ j l u. ap not (open_place sector_size protection j sized (ap (is_protected protection) (one_sector_lem sector_size place k j one l u) ∙ e)))
      ∙ ap (search_from (λ place. place) end (is_kept sector_size protection) (place + k)) n)

  pub kept_none : (place : ℕ) → end ≤ place → first_kept sector_size protection place end ≡ end
  unfolding first_kept
  kept_none place h =
      let n : end - place ≡ 0 = omega arith in
      ap (search_from (λ place. place) end (is_kept sector_size protection) place) n ∙ search_of_none _ end (is_kept sector_size protection) place

  -- all places up to the next sector, which may begin past the end
  pub kept_next : (place : ℕ) → 0 < sector_size → place < end → is_protected protection (place / sector_size) ≡ false
      → first_kept sector_size protection ((place / sector_size + 1) * sector_size) end ≡ first_kept sector_size protection place end
  kept_next place sized before e =
      let next : (place / sector_size + 1) * sector_size ≡ place + (sector_size - place % sector_size) = next_sector sector_size place sized in
      by_cases (dec_lt end ((place / sector_size + 1) * sector_size))
      (λ past.
      let upto : place + (end - place) ≡ end = omega arith in
      kept_none _ (omega arith)
      ∙ sym (kept_none end (omega arith))
      ∙ ap (λ (from : ℕ). first_kept sector_size protection from end) (sym upto)
      ∙ kept_later (end - place) place sized (omega arith) (omega (arith, past, next)) e)
      (λ n.
      ap (λ (from : ℕ). first_kept sector_size protection from end) next
      ∙ kept_later (sector_size - place % sector_size) place sized (omega (arith, n, next)) (omega (arith, mod-lt place sized)) e)

-- of sectors with no bytes every place is protected
pub kept_empty_sectors : (sector_size : ℕ) (protection : List ℕ) (at end : ℕ) → sector_size ≡ 0 → at < end → first_kept sector_size protection at end ≡ at
unfolding first_kept may_change
kept_empty_sectors sector_size protection at end e h =
    search_here _ end (is_kept sector_size protection) at (end - at) (omega arith) (ap not (pick_true false _ (eq-eqb sector_size 0 e)))

-- ---- what was found

module _ (end place found : ℕ) where
  pub found_here : found ≡ place → place < end → Some place ≡ found_before end found
  unfolding found_before
  found_here e h = rw e (sym (pick_true (Some place) None (lt-ltb place end h)))

pub none_found : (end found : ℕ) → end ≤ found → None ≡ found_before end found
unfolding found_before
none_found end found h = sym (pick_false (Some found) None (le-ltb found end h))

module _ (sector_size : ℕ) (protection : List ℕ) (at end : ℕ) where
  -- one that is found stands in the run, and is protected
  pub found_is_kept : first_kept sector_size protection at end < end
      → let found = first_kept sector_size protection at end in (at ≤ found) × (is_kept sector_size protection found ≡ true)
  unfolding first_kept
  found_is_kept h =
      by_cases (dec_lt at end)
      (λ l. let all = found_passes (is_kept sector_size protection) at (end - at) end (omega arith) h in (all.0, all.1.1))
      (λ n. absurd (omega (arith, kept_none sector_size protection end at (omega arith), h)))

  -- where none is found, every place of the run may change
  pub none_is_kept : end ≤ first_kept sector_size protection at end → (place : ℕ) → at ≤ place → place < end → may_change sector_size protection place ≡ true
  unfolding first_kept
  none_is_kept h place l u =
      by_test (may_change sector_size protection place) (λ y. y)
      (λ n. absurd (omega (arith, h, first_is_least (is_kept sector_size protection) at (end - at) end place l (omega arith) (ap not n))))

-- protection bytes that agree on the sectors of a run find the same
pub kept_alike : (sector_size : ℕ) (p q : List ℕ) (at end : ℕ) → ((place : ℕ) → place < end → is_protected p (place / sector_size) ≡ is_protected q (place / sector_size))
    → first_kept sector_size p at end ≡ first_kept sector_size q at end
unfolding first_kept may_change
kept_alike sector_size p q at end alike =
    search_alike _ end (is_kept sector_size p) (is_kept sector_size q) at (end - at)
    (λ k l u. ap (λ (bit : Bool). not (pick (eqb sector_size 0) false (not bit))) (alike k (omega arith)))

-- ---- the sectors of a range

-- a protected place lies in a protected sector
kept_sector : (sector_size : ℕ) (protection : List ℕ) (place : ℕ) → 0 < sector_size → is_kept sector_size protection place ≡ true
    → is_protected protection (place / sector_size) ≡ true
kept_sector sector_size protection place sized kept =
    by_test (is_protected protection (place / sector_size)) (λ y. y)
    (λ n. absurd (true≢false (sym kept ∙ ap not (open_place sector_size protection place sized n))))

sector_rises : (sector_size a b : ℕ) → 0 < sector_size → a ≤ b → a / sector_size ≤ b / sector_size
sector_rises sector_size a b sized h = (le-div_iff_mul-le sized).1 (omega (arith, div-mul-le_self a sector_size, h))

-- T-04: "any place they would touch". A sector from start's to end's is protected exactly where the range from start to end has a protected
-- place, so the range need not be rounded to sectors.
module _ (sector_size : ℕ) (protection : List ℕ) (start end : ℕ) (sized : 0 < sector_size) where
  pub protected_range_touches : first_kept sector_size protection start (end + 1) < end + 1
      → let sector = first_kept sector_size protection start (end + 1) / sector_size in
      (start / sector_size ≤ sector) × ((sector ≤ end / sector_size) × (is_protected protection sector ≡ true))
  protected_range_touches h =
      let kept = found_is_kept sector_size protection start (end + 1) h in (
        sector_rises sector_size start _ sized kept.0,
        (sector_rises sector_size _ end sized (omega (arith, h)), kept_sector sector_size protection _ sized kept.1),
      )

  pub open_range_touches_none : start ≤ end → end + 1 ≤ first_kept sector_size protection start (end + 1) → (sector : ℕ)
      → start / sector_size ≤ sector → sector ≤ end / sector_size → is_protected protection sector ≡ false
  open_range_touches_none ordered h sector l u =
      let reached : sector * sector_size ≤ end = (le-div_iff_mul-le sized).0 u in
      by_cases (dec_lt start (sector * sector_size))
      (λ after. opened (sector * sector_size) (omega arith) (omega arith) (mul-div_cancel sector sized))
      (λ n.
      let within : sector ≤ start / sector_size = (le-div_iff_mul-le sized).1 (omega arith) in
      opened start (omega arith) (omega arith) (omega arith))
    where
      opened : (place : ℕ) → start ≤ place → place < end + 1 → place / sector_size ≡ sector → is_protected protection sector ≡ false
      opened place from until e =
          ap (is_protected protection) (sym e)
          ∙ by_test (is_protected protection (place / sector_size))
          (λ y. absurd (true≢false (sym (none_is_kept sector_size protection start (end + 1) h place from until) ∙ protected_place sector_size protection place y)))
          (λ o. o)
