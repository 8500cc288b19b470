-- 01, Commands, 0x52 Rate: the rates of the line, by their ids.
use Rattle.std.specs.Prelude.{ℕ, ◌-◌, List, [], ◌∷◌, eqb, get_or}
use Rattle.octets.specs.Choice.{pick}
use Rattle.line.specs.Acknowledgement.{is_rate}

-- "4800, 9600, 19200, 38400, 57600, 115200, 1000000, 2000000, 3000000"
abbrev pub rates : List ℕ
rates = 4800 ∷ 9600 ∷ 19200 ∷ 38400 ∷ 57600 ∷ 115200 ∷ 1000000 ∷ 2000000 ∷ 3000000 ∷ []

-- "Rates for 1..9": the rate of an id, the ids counted from 1; T-10: "rate id 0x10 means 4000000"; 0 where no rate of the part has it
unfoldable pub rate_of : ℕ → ℕ → ℕ
rate_of last_rate id = pick (is_rate last_rate id) (pick (eqb id 0x10) 4000000 (get_or rates (id - 1) 0)) 0
