-- T-08: "and the number": its digits as a person writes them, the highest first, with no zero before them. '0' is 0x30.
use Rattle.std.specs.Prelude.{ℕ, zero, suc, ◌+◌, ◌/◌, ◌%◌, List, [], ◌∷◌, ◌++◌, ltb}
use Rattle.octets.specs.Choice.{pick}

-- the last so many digits of a number
unfoldable pub last_digits : ℕ → ℕ → List ℕ
last_digits zero number = []
last_digits (suc count) number = last_digits count (number / 10) ++ ((0x30 + number % 10) ∷ [])

-- how many digits a number has, one that has at most so many: one below ten, else one more than its tenth has
unfoldable pub digits_within : ℕ → ℕ → ℕ
digits_within zero number = 0
digits_within (suc most) number = pick (ltb number 10) 1 (suc (digits_within most (number / 10)))

-- no number of 32 bits has more than ten
abbrev pub most_digits : ℕ
most_digits = 10

abbrev pub digits_in : ℕ → ℕ
digits_in number = digits_within most_digits number

abbrev pub decimal_of : ℕ → List ℕ
decimal_of number = last_digits (digits_in number) number
