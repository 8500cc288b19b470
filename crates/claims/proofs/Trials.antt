-- Demand 3 speaks of boards and sessions that there are.
-- Framing: a core that is framed as 01 says is acknowledged.
pub mod Framing
-- SomePackets: Connect and Unlock, and what they do to some sessions.
pub mod SomePackets
-- SomeBoards: the boards on which demand 3 is tried.
pub mod SomeBoards
-- SomeSessions: their sessions, call by call.
pub mod SomeSessions
-- NotVacuous: demand 3 speaks of boards and sessions that there are.
pub mod NotVacuous
-- NotVacuousFromC: and so it does as C sees it.
pub mod NotVacuousFromC
-- LargerPart: worked cases of the AM13E230x.
pub mod LargerPart
