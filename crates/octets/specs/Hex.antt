-- 01, Marked cases and the rest: "the reply in hex", as its example prints it: a space before each byte, and digits in upper case.
use Rattle.std.specs.Prelude.{ℕ, ◌+◌, ◌/◌, ◌%◌, List, [], ◌∷◌, ◌++◌, ltb}
use Rattle.octets.specs.Choice.{pick}

-- '0' is 0x30 and 'A' is 0x41; a space is 0x20
unfoldable pub digit : ℕ → ℕ
digit number = pick (ltb number 10) (0x30 + number) (0x37 + number)

abbrev pub text_of : ℕ → List ℕ
text_of byte = 0x20 ∷ digit (byte / 16) ∷ digit (byte % 16) ∷ []

unfoldable pub hex_of : List ℕ → List ℕ
hex_of [] = []
hex_of (byte ∷ bytes) = text_of byte ++ hex_of bytes
