-- Bytes that are all one value, bytes that are the same, and how many differ.
use Rattle.std.specs.Prelude.{ℕ, suc, Bool, true, false, List, [], ◌∷◌, eqb}
use Rattle.octets.specs.Choice.{pick}

-- every byte is the given one
unfoldable pub all_are : ℕ → List ℕ → Bool
all_are value [] = true
all_are value (byte ∷ bytes) = pick (eqb byte value) (all_are value bytes) false

-- the same bytes, all of them
unfoldable pub are_same : List ℕ → List ℕ → Bool
are_same [] [] = true
are_same [] (other ∷ others) = false
are_same (one ∷ ones) [] = false
are_same (one ∷ ones) (other ∷ others) = pick (eqb one other) (are_same ones others) false

-- T-03: "go over every byte of both passwords, with no early way out". How many places differ; one that only one of the two has differs.
unfoldable pub differing : List ℕ → List ℕ → ℕ
differing [] [] = 0
differing [] (other ∷ others) = suc (differing [] others)
differing (one ∷ ones) [] = suc (differing ones [])
differing (one ∷ ones) (other ∷ others) = pick (eqb one other) (differing ones others) (suc (differing ones others))
