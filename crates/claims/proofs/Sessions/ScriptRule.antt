-- A script keeps the form exactly where it is made of entries, 1 to 64 of them, and what was put in is read back.
use mathlib.Core.Path.{◌≡◌, refl, sym, ap, ap₂, ◌∙◌}
use mathlib.Core.Bool.{true}
use mathlib.Core.List.{List, [], ◌∷◌, ◌++◌, append-nil, append_assoc}
use Prim.Native.Nat.{ℕ, zero, suc, ◌+◌, ◌-◌, ◌*◌, ◌^◌, ◌≤◌, ◌<◌}
use native.Mathlib.Nat.{add-zero, add-suc}
use native.Mathlib.Omega.{arith}
use borrow.Author.Tests.{eq-eqb, eqb-true, le-leb, leb-true}
use lib.ListN.{length, get_or, take, drop, length-append, take-append-drop}
use lib.Seq.{take_all, drop-length, take-suc, drop-cons, take_at, drop_at, drop-drop}
use Rattle.octets.specs.Number.{number_of, bytes_of, part, number_at}
use Rattle.octets.proofs.Numbers.{number_of_bytes, bytes_of_number, length-bytes_of}
use Rattle.octets.proofs.Parts.{length_part, each_part}
use Rattle.octets.proofs.Searching.{pick_true, pick_both}
use Rattle.runner_text.specs.Form.{script_limit, most_entries, count_in, wait_in, length_in, lengths_in, packet_at, packet_in, keeps_form}
use Rattle.claims.specs.MadeScript.{Entry, nothing, heads_of, packets_of, script_made, Fit, Holds, entries_from, entries_in}
use Rattle.claims.proofs.Settings.HeldSettings.{number_held}

-- ---- what stands where

length_heads : (entries : List Entry) → length (heads_of entries) ≡ 6 * length entries
unfolding heads_of bytes_of
length_heads [] = refl
length_heads (entry ∷ entries) = omega (arith, length_heads entries)

head_there : (entries : List Entry) (rest : List ℕ) (k : ℕ) → k < length entries
    → drop (6 * k) (heads_of entries ++ rest)
    ≡ bytes_of 4 (get_or entries k nothing).wait ++ (bytes_of 2 (length (get_or entries k nothing).packet) ++ (heads_of (drop (suc k) entries) ++ rest))
unfolding heads_of bytes_of
head_there [] rest k h = absurd (omega arith)
head_there (entry ∷ entries) rest zero h = refl
head_there (entry ∷ entries) rest (suc k) h =
    let e : 6 * suc k ≡ suc (suc (suc (suc (suc (suc (6 * k)))))) = omega arith in
    ap (λ (n : ℕ). drop n (heads_of (entry ∷ entries) ++ rest)) e ∙ head_there entries rest k (omega arith)

packets_append : (some more : List Entry) → packets_of (some ++ more) ≡ packets_of some ++ packets_of more
unfolding packets_of
packets_append [] more = refl
packets_append (entry ∷ some) more =
    ap (λ (l : List ℕ). entry.packet ++ l) (packets_append some more) ∙ sym (append_assoc entry.packet (packets_of some) (packets_of more))

packets_split : (entries : List Entry) (k : ℕ) → packets_of entries ≡ packets_of (take k entries) ++ packets_of (drop k entries)
packets_split entries k = ap packets_of (sym (take-append-drop k entries)) ∙ packets_append (take k entries) (drop k entries)

module _ (entries : List Entry) (fits : Fit entries) where
  abbrev made : List ℕ
  made = script_made entries

  count_made : count_in made ≡ length entries
  unfolding script_made
  count_made =
      ap number_of (take_at (bytes_of 2 (length entries)) (heads_of entries ++ packets_of entries) 2 (length-bytes_of 2 (length entries)))
      ∙ number_of_bytes 2 (length entries) (omega (arith, fits.few))

  after_count : (n : ℕ) → drop (2 + n) made ≡ drop n (heads_of entries ++ packets_of entries)
  unfolding script_made
  after_count n =
      sym (drop-drop n 2 made)
      ∙ ap (drop n) (drop_at (bytes_of 2 (length entries)) (heads_of entries ++ packets_of entries) 2 (length-bytes_of 2 (length entries)))

  module _ (k : ℕ) (h : k < length entries) where
    abbrev rest : List ℕ
    rest = heads_of (drop (suc k) entries) ++ packets_of entries

    abbrev entry : Entry
    entry = get_or entries k nothing

    head_made : drop (2 + 6 * k) made ≡ bytes_of 4 entry.wait ++ (bytes_of 2 (length entry.packet) ++ rest)
    head_made = after_count (6 * k) ∙ head_there entries (packets_of entries) k h

    wait_made : wait_in made k ≡ entry.wait
    wait_made =
        ap (λ (l : List ℕ). number_of (take 4 l)) head_made
        ∙ ap number_of (take_at (bytes_of 4 entry.wait) (bytes_of 2 (length entry.packet) ++ rest) 4 (length-bytes_of 4 entry.wait))
        ∙ number_of_bytes 4 entry.wait (fits.waits k)

    length_made : length_in made k ≡ length entry.packet
    length_made =
        let e : 6 + 6 * k ≡ 2 + 6 * k + 4 = omega arith in
        ap (λ (n : ℕ). number_at n 2 made) e
        ∙ ap (λ (l : List ℕ). number_of (take 2 l)) (sym (drop-drop 4 (2 + 6 * k) made) ∙ ap (drop 4) head_made
        ∙ drop_at (bytes_of 4 entry.wait) (bytes_of 2 (length entry.packet) ++ rest) 4 (length-bytes_of 4 entry.wait))
        ∙ ap number_of (take_at (bytes_of 2 (length entry.packet)) rest 2 (length-bytes_of 2 (length entry.packet)))
        ∙ number_of_bytes 2 (length entry.packet) (fits.lengths k)

  lengths_made : (k : ℕ) → k ≤ length entries → lengths_in made k ≡ length (packets_of (take k entries))
  unfolding lengths_in packets_of
  lengths_made zero h = refl
  lengths_made (suc k) h =
      rw (lengths_made k (omega arith), length_made k h, take-suc entries k nothing h, packets_append, length-append)
      (ap (λ (l : List ℕ). length (packets_of (take k entries)) + length l) (sym (append-nil (get_or entries k nothing).packet)))

  -- from an entry's packet on
  packets_from : (k : ℕ) → k ≤ length entries → drop (packet_at made k) made ≡ packets_of (drop k entries)
  packets_from k h =
      let e : packet_at made k ≡ 2 + (length (heads_of entries) + length (packets_of (take k entries))) = rw (count_made, lengths_made k h, length_heads) (omega arith) in
      ap (λ (n : ℕ). drop n made) e ∙ after_count (length (heads_of entries) + length (packets_of (take k entries)))
      ∙ sym (drop-drop (length (packets_of (take k entries))) (length (heads_of entries)) (heads_of entries ++ packets_of entries))
      ∙ ap (drop (length (packets_of (take k entries)))) (drop_at (heads_of entries) (packets_of entries) (length (heads_of entries)) refl ∙ packets_split entries k)
      ∙ drop_at (packets_of (take k entries)) (packets_of (drop k entries)) (length (packets_of (take k entries))) refl

  packet_made : (k : ℕ) → k < length entries → packet_in made k ≡ (get_or entries k nothing).packet
  unfolding packets_of
  packet_made k h =
      ap₂ (λ (n : ℕ) (l : List ℕ). take n l) (length_made k h) (packets_from k (omega arith) ∙ ap packets_of (drop-cons entries k nothing h))
      ∙ take_at (get_or entries k nothing).packet (packets_of (drop (suc k) entries)) (length (get_or entries k nothing).packet) refl

  size_made : length made ≡ packet_at made (count_in made)
  unfolding script_made
  size_made =
      rw (count_made, lengths_made (length entries) (omega arith), take_all (length entries) entries (omega arith))
      (omega (
        arith,
        length-append (bytes_of 2 (length entries)) (heads_of entries ++ packets_of entries),
        length-append (heads_of entries) (packets_of entries),
        length-bytes_of 2 (length entries),
        length_heads entries,
      ))

  made_keeps_form : keeps_form made ≡ true
  unfolding keeps_form
  made_keeps_form =
      pick_true _ _ (le-leb _ _ fits.short)
      ∙ pick_true _ _ (rw count_made (le-leb _ _ fits.some))
      ∙ pick_true _ _ (rw count_made (le-leb _ _ fits.few))
      ∙ eq-eqb _ _ size_made

  -- a script that is made of entries keeps the form, and they are read in it
  pub made_is_read : Holds entries made
  made_is_read = record { form = made_keeps_form; count = count_made; waits = wait_made; packets = packet_made }

-- ---- the other way: the entries of a script

length_entries : (script : List ℕ) (from count : ℕ) → length (entries_from script from count) ≡ count
unfolding entries_from
length_entries script from zero = refl
length_entries script from (suc count) = ap suc (length_entries script (suc from) count)

-- what holds of each entry that is read holds of all that are there
each_entry : (P : Entry → Type 0) (script : List ℕ) (from count : ℕ) → P nothing
    → ((i : ℕ) → i < from + count → P (record { wait = wait_in script i; packet = packet_in script i }))
    → (k : ℕ) → P (get_or (entries_from script from count) k nothing)
unfolding entries_from
each_entry P script from zero none read k = none
each_entry P script from (suc count) none read zero = read from (omega arith)
each_entry P script from (suc count) none read (suc k) = each_entry P script (suc from) count none (λ i h. read i (omega arith)) k

lengths_grow : (script : List ℕ) (i m : ℕ) → lengths_in script i ≤ lengths_in script (i + m)
unfolding lengths_in
lengths_grow script i zero = rw add-zero (omega arith)
lengths_grow script i (suc m) = rw add-suc (omega (arith, lengths_grow script i m))

-- a part, and what comes after it
part_then : (script : List ℕ) (at count next : ℕ) → next ≡ at + count → part at count script ++ drop next script ≡ drop at script
part_then script at count next e =
    ap (λ (l : List ℕ). part at count script ++ l) (ap (λ (k : ℕ). drop k script) e ∙ sym (drop-drop count at script))
    ∙ take-append-drop count (drop at script)

module _ (script : List ℕ) (each : (k : ℕ) → get_or script k 0 < 256) (size : length script ≡ packet_at script (count_in script)) where
  abbrev n : ℕ
  n = count_in script

  number_there : (at width : ℕ) → at + width ≤ length script → bytes_of width (number_at at width script) ≡ part at width script
  number_there at width h =
      ap (λ (w : ℕ). bytes_of w (number_at at width script)) (sym (length_part at width script h))
      ∙ bytes_of_number (part at width script) (each_part at width script each)

  packet_inside : (i m : ℕ) → i + suc m ≡ n → packet_at script i + length_in script i ≤ length script
  unfolding lengths_in
  packet_inside i m e =
      let e₂ : suc i + m ≡ n = omega arith in
      let g = rw e₂ at (lengths_grow script (suc i) m) in
      omega (arith, size, g)

  heads_read : (i m : ℕ) → i + m ≡ n → heads_of (entries_from script i m) ++ drop (2 + 6 * n) script ≡ drop (2 + 6 * i) script
  unfolding heads_of entries_from
  heads_read i zero e = let e₂ : i ≡ n = omega arith in rw e₂
  heads_read i (suc m) e =
      let e₂ : suc i + m ≡ n = omega arith in
      let a₁ : 2 + 6 * i + 4 ≤ length script = omega (arith, size) in
      let a₂ : 6 + 6 * i + 2 ≤ length script = omega (arith, size) in
      let inside : length (packet_in script i) ≡ length_in script i = length_part (packet_at script i) (length_in script i) script (packet_inside i m e) in
      rw (inside, append_assoc, append_assoc, heads_read (suc i) m e₂, number_there (2 + 6 * i) 4 a₁, number_there (6 + 6 * i) 2 a₂)
      (ap (λ (l : List ℕ). part (2 + 6 * i) 4 script ++ l) (part_then script (6 + 6 * i) 2 (2 + 6 * suc i) (omega arith))
      ∙ part_then script (2 + 6 * i) 4 (6 + 6 * i) (omega arith))

  packets_read : (i m : ℕ) → i + m ≡ n → packets_of (entries_from script i m) ≡ drop (packet_at script i) script
  unfolding packets_of entries_from lengths_in
  packets_read i zero e =
      let e₂ : i ≡ n = omega arith in
      rw (e₂, ← size) (sym (drop-length script))
  packets_read i (suc m) e =
      ap (λ (l : List ℕ). packet_in script i ++ l) (packets_read (suc i) m (omega arith))
      ∙ part_then script (packet_at script i) (length_in script i) (packet_at script (suc i)) (omega arith)

  read_is_made : script_made (entries_in script) ≡ script
  unfolding script_made lengths_in
  read_is_made =
      let h : 0 + n ≡ n = omega arith in
      let z : 2 + 6 * n + 0 ≡ 2 + 6 * n = omega arith in
      rw (length_entries script 0 n, number_there 0 2 (omega (arith, size)), packets_read 0 n h, z, heads_read 0 n h)
      (part_then script 0 2 2 refl)

  entries_fit : keeps_form script ≡ true → Fit (entries_in script)
  unfolding keeps_form
  entries_fit keeps =
      let short = pick_both _ _ keeps in
      let some = pick_both _ _ short.1 in
      let few = pick_both _ _ some.1 in
      record {
        some = rw length_entries (leb-true 1 n some.0);
        few = rw length_entries (leb-true n most_entries few.0);
        short = rw read_is_made (leb-true (length script) script_limit short.0);
        waits = each_entry (λ entry. entry.wait < 256 ^ 4) script 0 n (omega arith) (λ i h. number_held script each (2 + 6 * i) 4 (omega (arith, size)));
        lengths =
            each_entry (λ entry. length entry.packet < 256 ^ 2) script 0 n (omega arith)
            (λ i h.
            let inside = length_part (packet_at script i) (length_in script i) script (packet_inside i (n - suc i) (omega arith)) in
            rw inside (number_held script each (6 + 6 * i) 2 (omega (arith, size))));
      }

-- a script that keeps the form is made of the entries that are read in it
pub kept_is_made : (script : List ℕ) → ((k : ℕ) → get_or script k 0 < 256) → keeps_form script ≡ true
    → (Fit (entries_in script)) × (script_made (entries_in script) ≡ script)
unfolding keeps_form
kept_is_made script each keeps =
    let few = pick_both _ _ (pick_both _ _ (pick_both _ _ keeps).1).1 in
    let size : length script ≡ packet_at script (count_in script) = eqb-true _ _ few.1 in
    (entries_fit script each size keeps, read_is_made script each size)
