-- A text is the list of its characters' codes.
use Prim.Native.Char.{code}
use Rattle.std.specs.Prelude.{ℕ, List, [], ◌∷◌}
use Prim.Native.String.{String, [] as []ˢ, ◌∷◌ as ◌∷ˢ◌}

abbrev pub text : String → List ℕ
text []ˢ = []
text (character ∷ˢ characters) = code character ∷ text characters
