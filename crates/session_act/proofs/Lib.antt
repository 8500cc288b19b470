-- What the proofs share, the lowest first.
-- WrittenLaws: whether a word of a range is written is told by its bytes.
pub mod WrittenLaws
-- PlanLaws: what a plan can be, and that no reply depends on memory after the order.
pub mod PlanLaws
-- ActingLaws: what every order keeps, and what the reset of an alert does.
pub mod ActingLaws
-- LockedLaws: what is planned, done and answered where no protected command is performed.
pub mod LockedLaws
