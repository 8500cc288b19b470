-- T-12 speaks of boards and histories that there are.
-- SomeVisits: sessions one after the other, on the boards on which it is tried.
pub mod SomeVisits
-- Opening: a board whose settings are blank is read by anybody.
pub mod Opening
-- Strangers: the packets of these histories carry no password.
pub mod Strangers
-- Exposed: the boards and the order of erasing that give the names away.
pub mod Exposed
-- NotVacuous: T-12 speaks of boards and histories that there are, and is false without its conditions.
pub mod NotVacuous
