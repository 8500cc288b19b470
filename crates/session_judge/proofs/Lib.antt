-- What the proofs share, the lowest first.
-- EffectTests: which effects touch memory.
pub mod EffectTests
-- UnlockingLaws: what a wrong password leaves.
pub mod UnlockingLaws
-- OutcomeLaws: the ways in which a packet can end.
pub mod OutcomeLaws
-- JudgeLaws: what every packet keeps, and what only some can do.
pub mod JudgeLaws
-- StrangerLaws: what a packet without the password does.
pub mod StrangerLaws
-- TriesLaws: what adds to the total of wrong passwords.
pub mod TriesLaws
