-- `settings::fields_writer::fields_of` meets its contract: the bodies take the whole array.
use borrow.Author.Rules.{rules}
use mathlib.Core.Path.{◌≡◌, sym, ◌∙◌}
use Prim.Native.Nat.{ℕ}
use lib.ListN.{length, replicate, length-replicate}
use Rattle.octets.proofs.StoreLaws.{stored_whole}
use Rattle.settings.specs.Bodies.{bodies_of}
use Rattle.settings.proofs.BodyLaws.{length_bodies}
use Rattle.settings.proofs.fields_writer.fields_of.Goals as goal

pub returns : goal.returns
unfolding bodies_of
returns c =
    let s = c.args.settings in
    let size : length (bodies_of s) ≡ 74 = length_bodies s (search rules) (search rules) (search rules) in
    c.put_bodies.ensures ∙ stored_whole (replicate 74 0) (bodies_of s) (length-replicate {A = ℕ} 74 0 ∙ sym size)
