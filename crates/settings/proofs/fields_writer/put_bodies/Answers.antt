-- `settings::fields_writer::put_bodies` meets its contract: the bodies in the order of their kinds.
use mathlib.Core.Path.{◌≡◌, refl}
use mathlib.Core.List.{◌++◌}
use lib.ListN.{length}
use Rattle.octets.specs.Number.{bytes_of}
use borrow.Author.Rules.{rules}
use Rattle.settings.specs.Bodies.{values_of, numbers_of}
use Rattle.settings.proofs.BodyLaws.{protection_joined, bodies_made}
use Rattle.settings.proofs.fields_writer.put_bodies.Goals as goal

pub returns : goal.returns
unfolding bytes_of
returns g c =
    let s = c.args.held in
    let password : length s.password ≡ 32 = search rules in
    let reset : length s.reset_password ≡ 16 = search rules in
    let protection : length s.protection ≡ g.row.N = search rules in
    rw (
      c.put-3.ensures,
      c.part_of.ensures,
      c.put-2.ensures,
      c.put.ensures,
      c.first_five-five.ensures,
      c.shown_of.ensures,
      protection_joined s.password s.reset_password (values_of s.shown ++ numbers_of s.shown) password reset refl g.row.N s.protection protection c.requires,
      bodies_made s.password s.reset_password s.shown s.protection,
    ) refl
