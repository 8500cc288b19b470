-- A script that is made of entries, byte by byte as 01 has it, and the entries of a script.
use Rattle.std.specs.Prelude.{ℕ, zero, suc, ◌^◌, ◌≤◌, ◌<◌, List, [], ◌∷◌, ◌++◌, ◌≡◌, true, length, get_or}
use Rattle.octets.specs.Number.{bytes_of}
use Rattle.runner_text.specs.Form.{script_limit, most_entries, count_in, wait_in, packet_in, keeps_form}

pub record Entry : Type 0 where
  pub wait : ℕ
  pub packet : List ℕ

abbrev pub nothing : Entry
nothing = record { wait = 0; packet = [] }

-- 01, Marked cases and the rest: "then each entry's wait (4) and length (2)"
unfoldable pub heads_of : List Entry → List ℕ
heads_of [] = []
heads_of (entry ∷ entries) = bytes_of 4 entry.wait ++ (bytes_of 2 (length entry.packet) ++ heads_of entries)

-- "then the packets back to back"
unfoldable pub packets_of : List Entry → List ℕ
packets_of [] = []
packets_of (entry ∷ entries) = entry.packet ++ packets_of entries

-- "count (two bytes, 1 to 64)" before them, "nothing after"
unfoldable pub script_made : List Entry → List ℕ
script_made entries = bytes_of 2 (length entries) ++ (heads_of entries ++ packets_of entries)

-- entries of which a script can be made: 1 to 64 of them, each number fits its bytes, and the script is not too long
pub record Fit (entries : List Entry) : Type 0 where
  pub some : 1 ≤ length entries
  pub few : length entries ≤ most_entries
  pub short : length (script_made entries) ≤ script_limit
  pub waits : (k : ℕ) → (get_or entries k nothing).wait < 256 ^ 4
  pub lengths : (k : ℕ) → length (get_or entries k nothing).packet < 256 ^ 2

-- a script that keeps the form, and in which these entries are read
pub record Holds (entries : List Entry) (script : List ℕ) : Type 0 where
  pub form : keeps_form script ≡ true
  pub count : count_in script ≡ length entries
  pub waits : (k : ℕ) → k < length entries → wait_in script k ≡ (get_or entries k nothing).wait
  pub packets : (k : ℕ) → k < length entries → packet_in script k ≡ (get_or entries k nothing).packet

-- the entries that are read in a script
unfoldable pub entries_from : List ℕ → ℕ → ℕ → List Entry
entries_from script from zero = []
entries_from script from (suc count) = record { wait = wait_in script from; packet = packet_in script from } ∷ entries_from script (suc from) count

abbrev pub entries_in : List ℕ → List Entry
entries_in script = entries_from script 0 (count_in script)
