-- Each part is sound.
use native.Mathlib.Omega.{arith}
use Rattle.parts.specs.Parts.{mspm0, am13e230x, Sound}

pub mspm0_is_sound : Sound mspm0
mspm0_is_sound = record { version = λ pointer aligned. omega arith; main = omega arith }

pub am13e230x_is_sound : Sound am13e230x
am13e230x_is_sound = record { version = λ pointer aligned. omega arith; main = omega arith }
