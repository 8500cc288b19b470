-- `settings_mend::mending::filler_changed` meets its contract: the filler has its whole length, and a number of two bytes holds the count.
use mathlib.Core.Path.{◌≡◌, ap, ◌∙◌}
use mathlib.Core.List.{List}
use Prim.Native.Nat.{ℕ}
use native.Mathlib.Omega.{arith}
use lib.ListN.{length, replicate, length-replicate}
use Rattle.octets.specs.Number.{part}
use Rattle.octets.specs.Alike.{differing}
use Rattle.octets.proofs.Parts.{length_part}
use Rattle.octets.proofs.AlikeLaws.{at_most_all_differ}
use Rattle.settings_mend.proofs.mending.filler_changed.Goals as goal

of_filler : (image bytes : List ℕ) (count : ℕ) → length image ≡ 1024 → bytes ≡ part 126 894 image → count ≡ differing bytes (replicate (length bytes) 0xFF)
    → count ≡ differing (part 126 894 image) (replicate 894 0xFF)
of_filler image bytes count size there e =
    e ∙ rw there (ap (λ (n : ℕ). differing (part 126 894 image) (replicate n 0xFF)) (length_part 126 894 image (omega arith)))

pub overflow_cast-result : goal.overflow_cast-result
overflow_cast-result c =
    let image = c.args.image.now in
    record {
      fits =
          omega (
            arith,
            of_filler image _ _ c.requires c.part_of.ensures c.not_filler.ensures,
            at_most_all_differ (part 126 894 image) (replicate 894 0xFF),
            length_part 126 894 image (omega (arith, c.requires)),
            length-replicate {A = ℕ} 894 0xFF,
          );
    }

pub returns : goal.returns
returns c = of_filler c.args.image.now _ _ c.requires c.part_of.ensures c.not_filler.ensures
