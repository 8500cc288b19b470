-- `flash::programming::program` meets its contract: at each turn, programming the bytes left makes the whole.
use Prim.Native.Nat.{◌<◌}
use native.Mathlib.Omega.{arith}
use Rattle.flash.proofs.ProgrammingLaws.{turn_keeps}
use Rattle.flash.proofs.programming.program.Goals as goal

pub loop-i-preserved : goal.loop-i-preserved
loop-i-preserved c =
    let a = c.args in
    let l = c.loop-i in
    let sized : 0 < a.sectors.size = omega arith in
    turn_keeps a.sectors.size a.at l.i c.least-count.result c.least.result
    sized c.loop-i-test.true c.least.ensures
    c.room.result a.bytes.now a.memory.now l.memory l.invariant.1 c.room.ensures c.least-count.ensures
    a.sectors.protection.now _ _ c.program_sector.ensures l.invariant.2
