-- `flash::erasing::erase` meets its contract: at each turn, erasing the sectors left makes the whole.
use Rattle.flash.proofs.ErasingLaws.{erase_turn}
use Rattle.flash.proofs.erasing.erase.Goals as goal

pub loop-sector-preserved : goal.loop-sector-preserved
loop-sector-preserved c =
    let a = c.args in
    let l = c.loop-sector in
    erase_turn a.sectors.size a.sectors.protection.now l.memory l.sector c.least-last_there.result a.memory.now _ _
    c.loop-sector-test.true l.invariant.0 c.erase_sector.ensures l.invariant.1
