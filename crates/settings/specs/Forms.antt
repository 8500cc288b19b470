-- T-09: "Settings remember their form": the numbers 1 and 2 name one each, and no other number does.
use Rattle.std.specs.Prelude.{◌≡◌, ℕ, Bool, true, false, Result, MatchResult, eqb}
use Rattle.octets.specs.Choice.{pick}
use Rattle.settings.specs.declared.Form.{Form}
use Rattle.settings.specs.declared.UnknownForm.{UnknownForm}
use Rattle.settings.specs.Layout.{layout_of}

unfoldable pub is_form_number : ℕ → Bool
is_form_number number = pick (eqb number 1) true (eqb number 2)

-- what is told of a number: the form that has it, or that none has
abbrev pub Numbers : ℕ → Result Form UnknownForm → Type 0
Numbers number told = MatchResult told (λ form. (layout_of form).form ≡ number) (λ none. is_form_number number ≡ false)
