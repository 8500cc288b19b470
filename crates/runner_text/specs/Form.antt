-- 01, Marked cases and the rest: "a script of at most 65,536 bytes from standard input: count (two bytes, 1 to 64), then each entry's
-- wait (4) and length (2), then the packets back to back, nothing after". An entry is told by its index, which begins at 0.
use Rattle.std.specs.Prelude.{ℕ, zero, suc, ◌+◌, ◌*◌, Bool, true, false, List, Option, Some, None, leb, eqb, length}
use Rattle.octets.specs.Choice.{pick}
use Rattle.octets.specs.Number.{part, number_at}

-- "at most 65,536 bytes"
abbrev pub script_limit : ℕ
script_limit = 65536

-- "count (two bytes, 1 to 64)"
abbrev pub most_entries : ℕ
most_entries = 64

abbrev pub count_in : List ℕ → ℕ
count_in script = number_at 0 2 script

-- "then each entry's wait (4) and length (2)"
abbrev pub wait_in : List ℕ → ℕ → ℕ
wait_in script index = number_at (2 + 6 * index) 4 script

abbrev pub length_in : List ℕ → ℕ → ℕ
length_in script index = number_at (6 + 6 * index) 2 script

-- the lengths of the first so many entries together
unfoldable pub lengths_in : List ℕ → ℕ → ℕ
lengths_in script zero = 0
lengths_in script (suc count) = lengths_in script count + length_in script count

-- "then the packets back to back": where the packet of an entry begins, and the packet
abbrev pub packet_at : List ℕ → ℕ → ℕ
packet_at script index = 2 + 6 * count_in script + lengths_in script index

abbrev pub packet_in : List ℕ → ℕ → List ℕ
packet_in script index = part (packet_at script index) (length_in script index) script

-- "nothing after": the script ends where one packet more would begin. A script that ends before that lacks bytes.
unfoldable pub keeps_form : List ℕ → Bool
keeps_form script =
    pick (leb (length script) script_limit)
    (pick (leb 1 (count_in script))
    (pick (leb (count_in script) most_entries) (eqb (length script) (packet_at script (count_in script))) false)
    false)
    false

-- what an answer tells: whether the script keeps the form, and then how many entries it has
pub record Told : Type 0 where
  pub good : Bool
  pub count : ℕ

abbrev pub told : Bool → ℕ → Told
told good count = record { good = good; count = count }

abbrev pub script_told : Option ℕ → Told
script_told (Some count) = told true count
script_told None = told false 0

-- "A script that breaks the form prints only "bad script"."
unfoldable pub script_of : List ℕ → Told
script_of script = pick (keeps_form script) (told true (count_in script)) (told false 0)
