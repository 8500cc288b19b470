-- The table of each form, line by line, and that its layout gives it.
use Rattle.std.specs.Prelude.{◌≡◌, refl, List, [], ◌∷◌, ◌++◌, ℕ}
use Rattle.settings.specs.declared.Form.{Form}
use Rattle.settings.specs.declared.Form.TheVariants.{One, Two}
use Rattle.settings.specs.Layout.{large, layout_of, table_end, bodies_end, table_of, entries_from, offset_of, sum_of}

-- 01: "Bytes 0-1 form number 1; 2-3 entry count 6", then kind, offset, length and zero of each line; T-09: "Settings form 2 has count 7;
-- kind 7 is a 64-byte name."
abbrev pub printed_table : Form → List ℕ
printed_table One =
    (1 ∷ 6 ∷ [])
    ++ (1 ∷ 52 ∷ 32 ∷ 0 ∷ [])
    ++ (2 ∷ 84 ∷ 16 ∷ 0 ∷ [])
    ++ (3 ∷ 100 ∷ 6 ∷ 0 ∷ [])
    ++ (4 ∷ 106 ∷ 8 ∷ 0 ∷ [])
    ++ (5 ∷ 114 ∷ 4 ∷ 0 ∷ [])
    ++ (6 ∷ 118 ∷ 8 ∷ 0 ∷ [])
printed_table Two =
    (2 ∷ 7 ∷ [])
    ++ (1 ∷ 60 ∷ 32 ∷ 0 ∷ [])
    ++ (2 ∷ 92 ∷ 16 ∷ 0 ∷ [])
    ++ (3 ∷ 108 ∷ 6 ∷ 0 ∷ [])
    ++ (4 ∷ 114 ∷ 8 ∷ 0 ∷ [])
    ++ (5 ∷ 122 ∷ 4 ∷ 0 ∷ [])
    ++ (6 ∷ 126 ∷ 8 ∷ 0 ∷ [])
    ++ (7 ∷ 134 ∷ 64 ∷ 0 ∷ [])

pub layout_gives_table : (form : Form) → table_of (layout_of form) ≡ printed_table form
unfolding table_of entries_from offset_of sum_of
layout_gives_table One = refl
layout_gives_table Two = refl

-- T-10: "The protection body becomes 32 bytes for this part"
abbrev pub printed_large : List ℕ
printed_large =
    (2 ∷ 7 ∷ [])
    ++ (1 ∷ 60 ∷ 32 ∷ 0 ∷ [])
    ++ (2 ∷ 92 ∷ 16 ∷ 0 ∷ [])
    ++ (3 ∷ 108 ∷ 6 ∷ 0 ∷ [])
    ++ (4 ∷ 114 ∷ 8 ∷ 0 ∷ [])
    ++ (5 ∷ 122 ∷ 4 ∷ 0 ∷ [])
    ++ (6 ∷ 126 ∷ 32 ∷ 0 ∷ [])
    ++ (7 ∷ 158 ∷ 64 ∷ 0 ∷ [])

pub layout_gives_large : table_of large ≡ printed_large
unfolding table_of entries_from offset_of sum_of
layout_gives_large = refl

-- where the bodies begin; T-09: "Its table ends at 60"
abbrev pub bodies_at : Form → ℕ
bodies_at One = 52
bodies_at Two = 60

pub table_ends : (form : Form) → table_end (layout_of form) ≡ bodies_at form
table_ends One = refl
table_ends Two = refl

-- where the filler begins: "Bytes 126 to 1,019 are 0xFF."; T-09: "the name comes last and ends at 198; 0xFF fills the rest up to the checksum"
abbrev pub filler_at : Form → ℕ
filler_at One = 126
filler_at Two = 198

pub bodies_end_lem : (form : Form) → bodies_end (layout_of form) ≡ filler_at form
unfolding offset_of sum_of
bodies_end_lem One = refl
bodies_end_lem Two = refl

-- T-10: "so the name ends at 222"
pub large_bodies_end : bodies_end large ≡ 222
unfolding offset_of sum_of
large_bodies_end = refl
