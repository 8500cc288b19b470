-- Which effects touch memory: a protected command, and the alert's erase.
use mathlib.Core.Bool.{Bool, true, false}
use Rattle.session_judge.specs.declared.Effect.{Effect}
use Rattle.session_judge.specs.declared.Effect.TheVariants.{Say, TellInfo, Strike, Perform}

-- a protected command is performed
abbrev pub is_performed : Effect → Bool
is_performed (Say reply) = false
is_performed TellInfo = false
is_performed Strike = false
is_performed (Perform task) = true

-- the alert erases
abbrev pub is_strike : Effect → Bool
is_strike (Say reply) = false
is_strike TellInfo = false
is_strike Strike = true
is_strike (Perform task) = false
