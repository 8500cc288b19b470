-- 01, The loader and its edges: "The bench rig's host program, written in C, calls the loader on numbers and byte areas." One number comes back.
use Rattle.std.specs.Prelude.{ℕ, ◌+◌, ◌*◌, Bool, false}
use Rattle.octets.specs.Choice.{pick}
use Rattle.settings.specs.Answers.{Numbered}

-- the refusal in the top byte of eight, whether the board burns its fuse in bit 32, and the reply's size or the entry's number below
abbrev pub refusal_unit : ℕ
refusal_unit = 0x100000000000000

abbrev pub burn_unit : ℕ
burn_unit = 0x100000000

abbrev pub one_number : ℕ → Bool → ℕ → ℕ
one_number number burn below = number * refusal_unit + (pick burn burn_unit 0 + below)

abbrev pub refusal : ℕ → ℕ
refusal number = one_number number false 0

-- a refusal and the entry that goes with it; 0 where there is none
abbrev pub refusal_of : Numbered → ℕ
refusal_of told = one_number told.number false told.entry
