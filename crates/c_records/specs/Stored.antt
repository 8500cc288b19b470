-- 01, Numbers of refused calls: "each changes nothing lent". The answer, and the area that something was to be stored into.
use Rattle.std.specs.Prelude.{ℕ, not, List, eqb, length}
use Rattle.octets.specs.Choice.{pick}
use Rattle.settings.specs.Answers.{Numbered}
use Rattle.c_records.specs.OneNumber.{refusal, refusal_of}

pub record Stored : Type 0 where
  pub answer : ℕ
  pub area : List ℕ

abbrev pub stored : ℕ → List ℕ → Stored
stored answer area = record { answer = answer; area = area }

-- a refusal as it is; else the bytes, in an area of their own size: "start, after 8, gets 10 for an area of another size"
unfoldable pub stored_by : Numbered → ℕ → List ℕ → List ℕ → Stored
stored_by told size bytes area =
    pick (not (eqb (refusal_of told) 0)) (stored (refusal_of told) area)
    (pick (not (eqb (length area) size)) (stored (refusal 10) area)
    (stored 0 bytes))
