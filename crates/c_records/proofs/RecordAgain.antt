-- An area that is a record's: of the session that it says, the same bytes are made again, and another standing is stored over its front.
use mathlib.Core.Path.{◌≡◌, refl, sym, ap, ap₂, ◌∙◌}
use mathlib.Core.Bool.{true, false, true≢false}
use mathlib.Core.List.{List, [], ◌∷◌, ◌++◌, append-nil, append_assoc}
use mathlib.Core.Logic.{⊎_elim}
use Prim.Native.Nat.{ℕ, zero, suc, ◌-◌, ◌≤◌, ◌<◌}
use native.Mathlib.Omega.{arith}
use borrow.Author.Tests.{ne_eqb, lt-leb, eqb-true, leb-true}
use lib.Dec.{eqb}
use lib.ListN.{length, get_or, take, drop, replicate, length-append, length-drop, take-append-drop}
use lib.Seq.{sets, sets-eq, take_all, take_at, drop-drop, get_or-take, get_or-drop}
use Rattle.octets.specs.Choice.{pick}
use Rattle.octets.specs.Number.{bytes_of, part, number_at}
use Rattle.octets.proofs.Parts.{length_part, parts_join, each_part}
use Rattle.octets.proofs.Searching.{pick_false, pick_both}
use Rattle.octets.proofs.StoreLaws.{stored_front}
use Rattle.parts.specs.declared.Part.{Part}
use Rattle.session_state.specs.declared.Phase.{Phase}
use Rattle.session_state.specs.declared.Standing.{Standing}
use Rattle.settings.specs.Kept.{kept_bodies}
use Rattle.settings.proofs.AgainLaws.{number_again, short_again, long_again}
use Rattle.session.specs.declared.Session.{Session}
use Rattle.session.specs.Calling.{stands_then}
use Rattle.c_records.specs.Records.{record_size, phase_code, lock_code, sleep_of, standing_bytes, record_bytes, record_of, phase_in, standing_in, session_in, phase_fits, is_record_area}
use Rattle.c_records.proofs.RecordLaws.{two_sizes, record_sizes, record_area_size}

-- what a phase is coded by
record CodedBy (first second number : ℕ) (phase : Phase) : Type 0 where
  code : phase_code phase ≡ first
  lock : lock_code phase ≡ second
  sleep : sleep_of phase ≡ number

-- no lock and no sleep
none : (lock sleep : ℕ) → pick (eqb lock 0) (eqb sleep 0) false ≡ true → (0 ≡ lock) × (0 ≡ sleep)
none lock sleep h =
    let both = pick_both (eqb lock 0) (eqb sleep 0) h in
    (sym (eqb-true lock 0 both.0), sym (eqb-true sleep 0 both.1))

lock_again : (lock : ℕ) → lock ≤ 1 → pick (eqb lock 1) 1 0 ≡ lock
unfolding pick
lock_again zero h = refl
lock_again (suc zero) h = refl
lock_again (suc (suc lock)) h = absurd (omega arith)

unknown_phase : (code lock sleep : ℕ) → 4 < code → phase_fits code lock sleep ≡ false
unfolding phase_fits
unknown_phase code lock sleep h = pick_false _ _ (ne_eqb code 1 (λ e. omega arith)) ∙ pick_false _ _ (lt-leb code 4 h)

phase_again : (code lock sleep : ℕ) → phase_fits code lock sleep ≡ true → CodedBy code lock sleep (phase_in code (eqb lock 1) sleep)
unfolding phase_fits phase_in pick
phase_again zero lock sleep h = let n = none lock sleep h in record { code = refl; lock = n.0; sleep = n.1 }
phase_again (suc zero) lock sleep h = record { code = refl; lock = lock_again lock (leb-true lock 1 h); sleep = refl }
phase_again (suc (suc zero)) lock sleep h = let n = none lock sleep h in record { code = refl; lock = n.0; sleep = n.1 }
phase_again (suc (suc (suc zero))) lock sleep h = let n = none lock sleep h in record { code = refl; lock = n.0; sleep = n.1 }
phase_again (suc (suc (suc (suc zero)))) lock sleep h = let n = none lock sleep h in record { code = refl; lock = n.0; sleep = n.1 }
phase_again (suc (suc (suc (suc (suc code))))) lock sleep h =
    absurd (true≢false (sym h ∙ unknown_phase (suc (suc (suc (suc (suc code))))) lock sleep (omega arith)))

-- four bytes, and those after them
front_again : (area : List ℕ) → 4 ≤ length area → get_or area 0 0 ∷ get_or area 1 0 ∷ get_or area 2 0 ∷ get_or area 3 0 ∷ part 4 12 area ≡ part 0 16 area
front_again (a ∷ b ∷ c ∷ d ∷ area) h = refl
front_again [] h = absurd (omega arith)
front_again (a ∷ []) h = absurd (omega arith)
front_again (a ∷ b ∷ []) h = absurd (omega arith)
front_again (a ∷ b ∷ c ∷ []) h = absurd (omega arith)

module _ (board : Part) (area : List ℕ) (each : (k : ℕ) → get_or area k 0 < 256) (known : is_record_area board area ≡ true) where
  area_size : length area ≡ record_size board
  area_size = record_area_size board area known

  sizes : (94 ≤ length area) × (length area ≤ 118)
  sizes = let n = record_sizes board in (omega (arith, area_size, n.0), omega (arith, area_size, n.1))

  fits_and_unused : (phase_fits (get_or area 0 0) (get_or area 1 0) (number_at 4 4 area) ≡ true) × (eqb (get_or area 73 0) 0 ≡ true)
  unfolding is_record_area
  fits_and_unused = pick_both _ _ (pick_both _ _ known).1

  standing_again : standing_bytes (standing_in area) ≡ part 0 16 area
  unfolding standing_in
  standing_again =
      let least = sizes.0 in
      let coded = phase_again (get_or area 0 0) (get_or area 1 0) (number_at 4 4 area) fits_and_unused.0 in
      rw (
        coded.code,
        coded.lock,
        coded.sleep,
        number_again area each 4 4 (omega arith),
        number_again area each 8 4 (omega arith),
        number_again area each 12 4 (omega arith),
        parts_join 8 4 4 area,
        parts_join 4 4 8 area,
      )
      (front_again area (omega arith))

  -- the fields are all that is left of the area
  abbrev fields : List ℕ
  fields = part 20 98 area

  fields_left : fields ≡ drop 20 area
  fields_left = take_all 98 (drop 20 area) (omega (arith, length-drop 20 area, sizes.1))

  -- what a longer record has beyond it
  abbrev beyond : List ℕ
  beyond = replicate (118 - length area) 0

  fields_again : kept_bodies (session_in area).settings ≡ drop 20 area ++ beyond
  unfolding session_in
  fields_again =
      let each_field = each_part 20 98 area each in
      let zero = get_or-take 98 (drop 20 area) 53 0 (omega arith) ∙ get_or-drop 20 area 53 0 ∙ eqb-true _ _ fits_and_unused.1 in
      let size = ap length fields_left ∙ length-drop 20 area in
      ⊎_elim
      (λ short. let n : length area ≡ 94 = area_size ∙ short in
      short_again fields each_field zero (omega (arith, size)) ∙ ap₂ (λ (l : List ℕ) (size : ℕ). l ++ replicate (118 - size) 0) fields_left (sym n))
      (λ long. let n : length area ≡ 118 = area_size ∙ long in
      long_again fields each_field zero (omega (arith, size)) ∙ sym (append-nil fields) ∙ ap₂ (λ (l : List ℕ) (size : ℕ). l ++ replicate (118 - size) 0) fields_left (sym n))
      (two_sizes board)

  -- the size of MAIN and the fields, after the standing
  rest_again : bytes_of 4 (session_in area).main_size ++ kept_bodies (session_in area).settings ≡ drop 16 area ++ beyond
  unfolding session_in
  rest_again =
      ap₂ (λ (main fields : List ℕ). main ++ fields) (number_again area each 16 4 (omega (arith, sizes.0))) fields_again
      ∙ sym (append_assoc (part 16 4 area) (drop 20 area) beyond)
      ∙ ap (λ (l : List ℕ). l ++ beyond) (ap (λ (l : List ℕ). part 16 4 area ++ l) (sym (drop-drop 4 16 area)) ∙ take-append-drop 4 (drop 16 area))

  -- another standing before them
  pub stands_anew : (standing : Standing) → sets area 0 (standing_bytes standing) ≡ record_of board (stands_then (session_in area) standing)
  unfolding record_bytes bytes_of
  stands_anew standing =
      let front : List ℕ = standing_bytes standing in
      let whole : length (front ++ drop 16 area) ≡ record_size board = omega (arith, length-append front (drop 16 area), length-drop 16 area, sizes.0, area_size) in
      sets-eq front area 0 (omega (arith, sizes.0))
      ∙ sym (ap (λ (rest : List ℕ). take (record_size board) (front ++ rest)) rest_again
      ∙ ap (take (record_size board)) (sym (append_assoc front (drop 16 area) beyond)) ∙ take_at (front ++ drop 16 area) beyond (record_size board) whole)

  pub encode_after_decode : record_of board (session_in area) ≡ area
  unfolding session_in
  encode_after_decode =
      let sixteen = length_part 0 16 area (omega (arith, sizes.0)) in
      let same : sets area 0 (part 0 16 area) ≡ area =
      stored_front area (part 0 16 area) (omega (arith, sixteen, sizes.0))
      ∙ ap (λ (size : ℕ). part 0 16 area ++ drop size area) sixteen ∙ take-append-drop 16 area in
      sym (stands_anew (standing_in area)) ∙ ap (sets area 0) standing_again ∙ same

  -- a session that only stands otherwise than the one that the area says
  pub next_stored : (session next : Session) → session ≡ session_in area → next ≡ stands_then session next.standing
      → sets area 0 (standing_bytes next.standing) ≡ record_of board next
  next_stored session next said kept =
      stands_anew next.standing ∙ ap (record_of board) (sym (kept ∙ ap (λ (s : Session). stands_then s next.standing) said))
