-- Bytes printed one after the other: one more is printed after those before it.
use Rattle.std.specs.Prelude.{ℕ, ◌+◌, ◌<◌, ◌≡◌, List, [], ◌++◌, length, take, get_or}
use Rattle.std.proofs.lemmas.List.{take_more, flat_map_more}
use Rattle.program_io.specs.Hex.{byte_printed, printed}

pub next_printed : (bytes : List ℕ) (i : ℕ) → i < length bytes → printed (take i bytes) ++ byte_printed (get_or bytes i 0) ≡ printed (take (i + 1) bytes)
next_printed bytes i there = rw (take_more bytes i 0 there) (flat_map_more byte_printed [] (take i bytes) (get_or bytes i 0))
