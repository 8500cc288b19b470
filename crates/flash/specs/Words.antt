-- T-02: "Our boards carry variants whose flash guards each 8-byte word with its own check bits, so a second write fails."
-- A word's size is any number here; the part has it.
use Rattle.std.specs.Prelude.{ℕ, ◌+◌, ◌*◌, ◌/◌, Bool, false, not, List}
use Rattle.octets.specs.Alike.{all_are}
use Rattle.octets.specs.Choice.{pick}
use Rattle.octets.specs.Number.{part}
use Rattle.octets.specs.Search.{some_from}
use Rattle.flash.specs.Protection.{may_change}

-- the word at a place is not "all 0xFF"; "Words in protected places are not looked at."
unfoldable pub is_written : ℕ → List ℕ → ℕ → List ℕ → ℕ → Bool
is_written sector_size protection word_size memory at =
    pick (may_change sector_size protection at) (not (all_are 0xFF (part at word_size memory))) false

-- "Program must first see that each word it would touch is all 0xFF": whether one is not, of the words of a range of so many bytes from a place on.
-- "this one stands after 0A", so the range is whole words, the first of them at its first place.
unfoldable pub some_written : ℕ → List ℕ → ℕ → ℕ → ℕ → List ℕ → Bool
some_written sector_size protection word_size at size memory =
    some_from (λ number. is_written sector_size protection word_size memory (at + number * word_size)) 0 (size / word_size)
