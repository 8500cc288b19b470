-- A plan: what is answered, what is to be done to memory, and where the bytes stand that go with the answer.
use Rattle.std.specs.Prelude.{ℕ}
use Rattle.line.specs.declared.Reply.{Reply}
use Rattle.line.specs.declared.Reply.TheVariants.{Message}
use Rattle.flash.specs.declared.Region.{Region}
use Rattle.flash.specs.declared.Region.TheVariants.{Outside}
use Rattle.session_act.specs.declared.Order.{Order}
use Rattle.session_act.specs.declared.Order.TheVariants.{Keep}
use Rattle.session_act.specs.declared.Planned.{Planned}

abbrev pub planned : Reply → Order → Region → ℕ → ℕ → Planned
planned reply order region offset count = record { reply = reply; order = order; region = region; offset = offset; count = count }

-- an answer, and memory is kept
abbrev pub says : Reply → Planned
says reply = planned reply Keep Outside 0 0

-- a message, "3B and one byte", and memory is kept
abbrev pub tells : ℕ → Planned
tells code = says (Message code)

-- a message, and something is done
abbrev pub orders : ℕ → Order → Planned
orders code order = planned (Message code) order Outside 0 0
