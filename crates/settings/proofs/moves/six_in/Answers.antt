-- `settings::moves::six_in` meets its contract: they take the whole array.
use native.Mathlib.Omega.{arith}
use Rattle.settings.specs.Table.{bodies_at}
use Rattle.settings.proofs.BodyLaws.{bodies_begin, body_taken}
use Rattle.settings.proofs.moves.six_in.Goals as goal

pub returns : goal.returns
returns c =
    let a = c.args in
    rw (c.array_at.ensures, c.form_bodies_at.ensures) (body_taken (bodies_at a.form) 74 a.image.now (omega (arith, bodies_begin a.form)))
