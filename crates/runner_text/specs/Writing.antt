-- 01, Marked cases and the rest: "prints a line an entry: number from 1, a space, the reply in hex, or "-""
use Rattle.std.specs.Prelude.{ℕ, ◌*◌, List, ◌++◌, ltb, eqb, length}
use Rattle.std.proofs.lemmas.List.Edits.{sets}
use Rattle.octets.specs.Choice.{pick}
use Rattle.octets.specs.Hex.{hex_of}
use Rattle.octets.specs.Decimal.{decimal_of}
use Rattle.runner_text.specs.Text.{text}

-- "the reply in hex, or "-"", with the space before it
unfoldable pub reply_text : List ℕ → List ℕ
reply_text reply = pick (eqb (length reply) 0) (text " -") (hex_of reply)

-- "number from 1, a space, the reply in hex"
unfoldable pub line_of : ℕ → List ℕ → List ℕ
line_of number reply = decimal_of number ++ (reply_text reply ++ text "\n")

-- all that writing a line leaves: how many bytes it has, and the area
pub record Written : Type 0 where
  pub size : ℕ
  pub area : List ℕ

abbrev pub written : ℕ → List ℕ → Written
written size area = record { size = size; area = area }

-- a line for which the area has no room is not written at all
unfoldable pub written_of : List ℕ → List ℕ → Written
written_of line area = pick (ltb (length area) (length line)) (written 0 area) (written (length line) (sets area 0 line))

-- how many characters the text of a reply of so many bytes has
abbrev pub text_size : ℕ → ℕ
text_size count = pick (eqb count 0) 2 (3 * count)
