-- 01, The loader and its edges: "From C the record is a byte area whose layout stands in docs/". A session as bytes, and bytes as a session.
use Rattle.std.specs.Prelude.{ℕ, ◌+◌, Bool, false, List, ◌∷◌, ◌++◌, leb, eqb, length, get_or, take}
use Rattle.octets.specs.Choice.{pick}
use Rattle.octets.specs.Number.{bytes_of, part, number_at}
use Rattle.parts.specs.declared.Part.{Part}
use Rattle.session_state.specs.declared.Phase.{Phase}
use Rattle.session_state.specs.declared.Phase.TheVariants.{Detect, Command, Standby, Ended, Disabled}
use Rattle.session_state.specs.declared.Standing.{Standing}
use Rattle.settings.specs.Fields.{zero_at}
use Rattle.settings.specs.Kept.{long_size, kept_bodies, kept_read}
use Rattle.settings_large.specs.Image.{large_size}
use Rattle.session.specs.declared.Session.{Session}

-- a record has 94 bytes, or 118 on the larger part: phase, lock, wrong count and rate id; then sleep, idle and the total, four bytes each, and
-- there ends what a call can change; then the size of MAIN, four bytes, and the settings' fields, which end with the protection of all sectors
unfoldable pub record_size : Part → ℕ
record_size board = pick (eqb board.settings_size large_size) 118 94

abbrev pub sleep_at : ℕ
sleep_at = 4

abbrev pub idle_at : ℕ
idle_at = 8

-- T-08: "The session record gains this number"
abbrev pub tries_at : ℕ
tries_at = 12

abbrev pub main_size_at : ℕ
main_size_at = 16

abbrev pub fields_at : ℕ
fields_at = 20

-- the zero byte of body 3
abbrev pub zero_byte_at : ℕ
zero_byte_at = fields_at + zero_at

-- ---- a session as bytes

abbrev pub phase_code : Phase → ℕ
phase_code Detect = 0
phase_code (Command unlocked sleep) = 1
phase_code Standby = 2
phase_code Ended = 3
phase_code Disabled = 4

abbrev pub lock_code : Phase → ℕ
lock_code Detect = 0
lock_code (Command unlocked sleep) = pick unlocked 1 0
lock_code Standby = 0
lock_code Ended = 0
lock_code Disabled = 0

abbrev pub sleep_of : Phase → ℕ
sleep_of Detect = 0
sleep_of (Command unlocked sleep) = sleep
sleep_of Standby = 0
sleep_of Ended = 0
sleep_of Disabled = 0

abbrev pub counters_bytes : ℕ → ℕ → ℕ → List ℕ
counters_bytes sleep idle tries = bytes_of 4 sleep ++ (bytes_of 4 idle ++ bytes_of 4 tries)

abbrev pub standing_bytes : Standing → List ℕ
standing_bytes standing =
    phase_code standing.phase ∷ lock_code standing.phase ∷ standing.wrong ∷ standing.rate
    ∷ counters_bytes (sleep_of standing.phase) standing.idle standing.tries

unfoldable pub record_bytes : Session → List ℕ
record_bytes session =
    standing_bytes session.standing ++ (bytes_of 4 session.main_size ++ kept_bodies session.settings)

-- the protection of an MSPM0 has no byte beyond its 64 sectors
abbrev pub record_of : Part → Session → List ℕ
record_of board session = take (record_size board) (record_bytes session)

-- ---- bytes as a session

unfoldable pub phase_in : ℕ → Bool → ℕ → Phase
phase_in code unlocked sleep =
    pick (eqb code 0) Detect
    (pick (eqb code 1) (Command unlocked sleep)
    (pick (eqb code 2) Standby
    (pick (eqb code 3) Ended
    Disabled)))

unfoldable pub standing_in : List ℕ → Standing
standing_in area = record {
  phase = phase_in (get_or area 0 0) (eqb (get_or area 1 0) 1) (number_at sleep_at 4 area);
  idle = number_at idle_at 4 area;
  wrong = get_or area 2 0;
  rate = get_or area 3 0;
  tries = number_at tries_at 4 area;
}

unfoldable pub session_in : List ℕ → Session
session_in area = record {
  standing = standing_in area;
  main_size = number_at main_size_at 4 area;
  settings = kept_read (part fields_at long_size area);
}

-- ---- which bytes are a record's

-- 01, Numbers of refused calls, 10: "unlocked or sleep above 0 outside the command phase"
unfoldable pub phase_fits : ℕ → ℕ → ℕ → Bool
phase_fits code lock sleep =
    pick (eqb code 1) (leb lock 1) (pick (leb code 4) (pick (eqb lock 0) (eqb sleep 0) false) false)

-- "a call gets 10 for an area that is no record's": its size, an unknown phase, a lock that is not 0 or 1, lock or sleep outside the
-- command phase, or the unused byte. The other clauses of 10 are those of the session.
unfoldable pub is_record_area : Part → List ℕ → Bool
is_record_area board area =
    pick (eqb (length area) (record_size board))
    (pick (phase_fits (get_or area 0 0) (get_or area 1 0) (number_at sleep_at 4 area)) (eqb (get_or area zero_byte_at 0) 0) false)
    false
