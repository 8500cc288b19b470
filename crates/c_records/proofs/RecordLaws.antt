-- Stored piece by piece, the pieces make a record.
use mathlib.Core.Path.{◌≡◌, refl, sym, ap, ◌∙◌}
use mathlib.Core.Bool.{true}
use mathlib.Core.List.{List, ◌++◌}
use mathlib.Core.Logic.{◌⊎◌, inl, inr, ⊎_elim}
use Prim.Native.Nat.{ℕ, ◌≤◌}
use native.Mathlib.Omega.{arith}
use borrow.Author.Tests.{eqb-true}
use lib.Dec.{eqb}
use lib.ListN.{length, take, drop, take-append-drop}
use lib.Seq.{sets, length-sets, length-take-le}
use Rattle.octets.specs.Number.{bytes_of}
use Rattle.octets.proofs.Searching.{pick_both, by_pick}
use Rattle.octets.proofs.StoreLaws.{sets_out, sets_join, stored_whole}
use Rattle.parts.specs.declared.Part.{Part}
use Rattle.settings.specs.Kept.{kept_bodies}
use Rattle.settings_large.specs.Image.{large_size}
use Rattle.session.specs.declared.Session.{Session}
use Rattle.c_records.specs.Records.{record_size, counters_bytes, standing_bytes, record_bytes, record_of, is_record_area}

-- a record has 94 bytes or 118
pub two_sizes : (board : Part) → (record_size board ≡ 94) ⊎ (record_size board ≡ 118)
unfolding record_size
two_sizes board = by_pick (λ size. (size ≡ 94) ⊎ (size ≡ 118)) (eqb board.settings_size large_size) 118 94 (λ y. inr refl) (λ n. inl refl)

pub record_sizes : (board : Part) → (94 ≤ record_size board) × (record_size board ≤ 118)
record_sizes board = ⊎_elim (λ e. (omega arith, omega arith)) (λ e. (omega arith, omega arith)) (two_sizes board)

-- a record's area has its size
pub record_area_size : (board : Part) (area : List ℕ) → is_record_area board area ≡ true → length area ≡ record_size board
unfolding is_record_area
record_area_size board area h = eqb-true (length area) (record_size board) (pick_both _ _ h).0

-- bytes for which an area has no room are not stored
stored_taken : (area bytes : List ℕ) → length area ≤ length bytes → sets area 0 bytes ≡ take (length area) bytes
stored_taken area bytes h =
    let size = length area in
    let first : List ℕ = take size bytes in
    let sized : length first ≡ size = length-take-le size bytes h in
    ap (sets area 0) (sym (take-append-drop size bytes)) ∙ sym (sets_join area 0 size first (drop size bytes) (omega (arith, sized)))
    ∙ sets_out (sets area 0 first) size (drop size bytes) (omega (arith, length-sets area 0 first)) ∙ stored_whole area first (sym sized)

-- what a session counts: three numbers
pub counters_joined : (area : List ℕ) (sleep idle tries : ℕ)
    → sets (sets (sets area 4 (bytes_of 4 sleep)) 8 (bytes_of 4 idle)) 12 (bytes_of 4 tries) ≡ sets area 4 (counters_bytes sleep idle tries)
unfolding bytes_of
counters_joined area sleep idle tries =
    sets_join (sets area 4 (bytes_of 4 sleep)) 8 12 (bytes_of 4 idle) (bytes_of 4 tries) refl
    ∙ sets_join area 4 8 (bytes_of 4 sleep) (bytes_of 4 idle ++ bytes_of 4 tries) refl

-- how a session stands, then the size of MAIN and the fields
pub record_joined : (area : List ℕ) (session : Session)
    → sets (sets (sets area 0 (standing_bytes session.standing)) 16 (bytes_of 4 session.main_size)) 20 (kept_bodies session.settings)
    ≡ sets area 0 (record_bytes session)
unfolding record_bytes bytes_of
record_joined area session =
    let front : List ℕ = standing_bytes session.standing in
    let main : List ℕ = bytes_of 4 session.main_size in
    sets_join (sets area 0 front) 16 20 main (kept_bodies session.settings) refl
    ∙ sets_join area 0 16 front (main ++ kept_bodies session.settings) refl

-- which an area of a record's size has no room for beyond that size
pub record_stored : (board : Part) (session : Session) (area : List ℕ) → length area ≡ record_size board → length (kept_bodies session.settings) ≡ 98
    → sets area 0 (record_bytes session) ≡ record_of board session
unfolding record_bytes bytes_of
record_stored board session area size fields =
    stored_taken area (record_bytes session) (omega (arith, size, fields, (record_sizes board).1)) ∙ ap (λ (size : ℕ). take size (record_bytes session)) size
