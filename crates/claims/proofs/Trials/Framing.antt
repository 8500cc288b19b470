-- A core that is framed as 01 says is acknowledged, and stands whole in its packet.
use mathlib.Core.Path.{◌≡◌, refl, sym, ap, ◌∙◌}
use mathlib.Core.Bool.{false}
use mathlib.Core.List.{List, ◌++◌}
use Prim.Native.Nat.{ℕ, ◌+◌, ◌≤◌, ◌<◌}
use native.Mathlib.Omega.{arith}
use borrow.Author.Tests.{ne_eqb}
use lib.Dec.{eqb}
use lib.ListN.{length, get_or, take, drop, length-append}
use Rattle.octets.specs.Number.{number_of, bytes_of, part, number_at}
use Rattle.octets.proofs.Numbers.{number_of_bytes}
use Rattle.octets.proofs.Parts.{part_there, from_next}
use Rattle.parts.specs.Parts.{mspm0}
use Rattle.checksum.specs.Checksum.{checksum_of}
use Rattle.checksum.proofs.Laws.{checksum_of_fits}
use Rattle.line.specs.Codes.{length_limit, acknowledged, rate}
use Rattle.line.specs.Packet.{length_in, core_in, code_in}
use Rattle.line.specs.Acknowledgement.{acknowledgement}
use Rattle.line.proofs.AcknowledgementLaws.{framed_is_acknowledged}
use Rattle.claims.specs.Trials.{packet_of}

-- a packet has bytes
pub never_empty : (core : List ℕ) → eqb (length (packet_of core)) 0 ≡ false
never_empty core = ne_eqb (length (packet_of core)) 0 (λ e. omega arith)

module _ (core : List ℕ) (some : 1 ≤ length core) (small : length core ≤ length_limit) where
  abbrev sum : List ℕ
  sum = bytes_of 4 (checksum_of core)

  -- L, the core and the checksum stand where they belong
  pub length_there : length_in (packet_of core) ≡ length core
  unfolding bytes_of
  length_there = number_of_bytes 2 (length core) (omega arith)

  pub core_from : drop 3 (packet_of core) ≡ core ++ sum
  unfolding bytes_of
  core_from = refl

  pub core_there : core_in (packet_of core) ≡ core
  core_there = ap (λ (count : ℕ). part 3 count (packet_of core)) length_there ∙ part_there (packet_of core) 3 (length core) core sum core_from refl

  size_there : length (packet_of core) ≡ length core + 7
  unfolding bytes_of
  size_there = omega (arith, length-append core sum)

  sum_there : number_at (3 + length_in (packet_of core)) 4 (packet_of core) ≡ number_of sum
  unfolding bytes_of
  sum_there =
      ap (λ (count : ℕ). number_at (3 + count) 4 (packet_of core)) length_there
      ∙ ap (λ (bytes : List ℕ). number_of (take 4 bytes)) (from_next (packet_of core) 3 (length core) core sum core_from refl)

  -- so the packet is acknowledged, unless Rate has more to ask
  pub framed : ((k : ℕ) → get_or core k 0 < 256) → (code_in (packet_of core) ≡ rate → ⊥) → acknowledgement mspm0.last_rate (packet_of core) ≡ acknowledged
  framed each other =
      framed_is_acknowledged mspm0.last_rate (packet_of core)
      (record {
        header = refl;
        size = size_there ∙ ap (λ (count : ℕ). count + 7) (sym length_there);
        least = rw length_there some;
        most = rw length_there small;
        checksum = sum_there ∙ number_of_bytes 4 (checksum_of core) (checksum_of_fits core each) ∙ ap checksum_of (sym core_there);
        rated = λ e. absurd (other e);
      })
