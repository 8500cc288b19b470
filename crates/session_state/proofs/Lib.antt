-- What the proofs share, the lowest first.
-- PhaseLaws: what a valid standing is, part by part.
pub mod PhaseLaws
-- RateLaws: which ids have no rate.
pub mod RateLaws
-- WaitLaws: what a wait keeps, and when a packet is heard.
pub mod WaitLaws
