-- How many entries a form has.
use Prim.Native.Nat.{◌≤◌}
use native.Mathlib.Omega.{arith}
use Rattle.settings.specs.declared.Form.{Form}
use Rattle.settings.specs.declared.Form.TheVariants.{One, Two}
use Rattle.settings.specs.Layout.{layout_of, count_of}

-- no form has more than seven entries
pub count_is_few : (form : Form) → count_of (layout_of form) ≤ 7
count_is_few One = omega arith
count_is_few Two = omega arith
