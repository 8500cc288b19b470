-- Bytes as the programs print them.
use Rattle.std.specs.Prelude.{ℕ, ◌-◌, ◌^◌, false, true, List, ◌∷◌, []}
use Rattle.std.specs.List.{flat_map}
use Rattle.std.specs.Fmt.{padded_integral, format_spec, digits}

-- a space, and two digits to the base 16, in capital letters: the first is 0 where one would do
abbrev pub byte_printed : ℕ → List ℕ
byte_printed byte = 32 ∷ padded_integral (format_spec 32 0 4 2 (2 ^ 64 - 1)) false [] (digits 16 true byte)

abbrev pub printed : List ℕ → List ℕ
printed bytes = flat_map byte_printed bytes
