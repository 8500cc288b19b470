-- What a session keeps of the settings, on either part: with protection for as many sectors as the larger one has. T-10: "The protection body
-- becomes 32 bytes for this part".
use Rattle.std.specs.Prelude.{ℕ, Bool, true, List, ◌++◌, eqb, length, replicate}
use Rattle.std.proofs.lemmas.List.Edits.{sets}
use Rattle.octets.specs.Choice.{pick}
use Rattle.octets.specs.Number.{part}
use Rattle.settings.specs.declared.Held.{Held}
use Rattle.settings.specs.Held.{Settings, Kept}
use Rattle.settings.specs.Values.{blank_settings, no_settings}
use Rattle.settings.specs.Layout.{form1}
use Rattle.settings.specs.Bodies.{bodies_with, shown_in}
use Rattle.settings.specs.Fields.{fields_read, kept_size}

-- of sectors of which nothing is said none is protected
abbrev pub filled_up : List ℕ → List ℕ
filled_up protection = sets (replicate 32 0) 0 protection

-- the same with protection of another size
abbrev pub resized_of : {from : ℕ} → (size : ℕ) → Held from → Held size
resized_of size held = record {
  shown = held.shown;
  protection = sets (replicate size 0) 0 held.protection;
  password = held.password;
  reset_password = held.reset_password;
}

-- an MSPM0 says it of 64 sectors
abbrev pub kept_of : Settings → Kept
kept_of settings = record {
  shown = settings.shown;
  protection = filled_up settings.protection;
  password = settings.password;
  reset_password = settings.reset_password;
}

abbrev pub blank_kept : Kept
blank_kept = kept_of blank_settings

-- what stands beside a refusal in the definitions
abbrev pub no_kept : Kept
no_kept = kept_of no_settings

-- the six bodies
abbrev pub held_bodies : {size : ℕ} → Held size → List ℕ
held_bodies held = bodies_with held.password held.reset_password held.shown held.protection

-- they are 98 bytes, of which an MSPM0's record has the first 74
abbrev pub long_size : ℕ
long_size = 98

unfoldable pub kept_bodies : Kept → List ℕ
kept_bodies kept = bodies_with kept.password kept.reset_password kept.shown kept.protection

-- what 98 bytes say
abbrev pub kept_said : List ℕ → Kept
kept_said fields = record {
  shown = shown_in form1 (replicate 52 0 ++ fields);
  protection = part 66 32 fields;
  password = part 0 32 fields;
  reset_password = part 32 16 fields;
}

-- what the bytes of a record say, of either part; bytes of another size say nothing
unfoldable pub kept_read : List ℕ → Kept
kept_read fields =
    pick (eqb (length fields) kept_size) (kept_of (fields_read form1 fields)) (pick (eqb (length fields) long_size) (kept_said fields) no_kept)

-- of which sizes bytes say something
unfoldable pub is_fields_size : ℕ → Bool
is_fields_size size = pick (eqb size kept_size) true (eqb size long_size)

-- what of it an MSPM0's image holds
abbrev pub narrowed_of : Kept → Settings
narrowed_of kept = record {
  shown = kept.shown;
  protection = sets (replicate 8 0) 0 kept.protection;
  password = kept.password;
  reset_password = kept.reset_password;
}
