-- 01, The loader and its edges: "MAIN flash" and "Settings flash"; T-05: the SRAM window, "a third lent area"; and the bytes of a range.
use Rattle.std.specs.Prelude.{ℕ, List, []}
use Rattle.octets.specs.Number.{part}
use Rattle.flash.specs.declared.Areas.{Areas}
use Rattle.flash.specs.declared.Place.{Place}
use Rattle.flash.specs.declared.Region.{Region}
use Rattle.flash.specs.declared.Region.TheVariants.{Main, Settings, Window, Outside}

pub record Memory : Type 0 where
  pub main : List ℕ
  pub settings : List ℕ
  pub window : List ℕ

abbrev pub memory : List ℕ → List ℕ → List ℕ → Memory
memory main settings window = record { main = main; settings = settings; window = window }

-- what the lent areas hold
abbrev pub memory_in : Areas → Memory
memory_in areas = memory areas.main.now areas.settings.now areas.window.now

-- so many bytes of a region, from a place on
abbrev pub bytes_in : ℕ → ℕ → Memory → Region → List ℕ
bytes_in offset size memory Main = part offset size memory.main
bytes_in offset size memory Settings = part offset size memory.settings
bytes_in offset size memory Window = part offset size memory.window
bytes_in offset size memory Outside = []

-- the bytes of a range of addresses; none where no region holds it wholly
abbrev pub bytes_at : Place → ℕ → Memory → List ℕ
bytes_at place size memory = bytes_in place.offset size memory place.region
